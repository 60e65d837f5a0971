-- What each call does, by the control state and the words waiting. Paper 01: the order of refusals for each call, and what is left as it was.
--   Act                   the control state after a call, a change for each FIFO, the frame sent ([] for none), the answer
--   unchanged, restarted  the same change for all four FIFOs
--   does, refuses         an act that sends nothing and answers a value; one that refuses and changes nothing
--   mac_write .. send     the act of each call that has more than one case; levels are the words waiting in each FIFO
-- Assumes nothing.
use Rattle.std.specs.Prelude.{if◌then◌else◌, not, List, [], ◌∷◌, ℕ, ◌-◌, ltb, leb, eqb, length, Err, Ok}
use Rattle.paper.specs.declared.Registers.{Registers}
use Rattle.paper.specs.declared.Port.{Port}
use Rattle.paper.specs.declared.Control.{Control}
use Rattle.paper.specs.declared.Refusal.{Refusal}
use Rattle.paper.specs.declared.Refusal.TheVariants.{NoRegister, BadValue, NotNow, SendingOff, OtherBits, NothingThere, StatusFull, OutShort, OutOfRange}
use Rattle.paper.specs.Answers.{Answer}
use Rattle.paper.specs.declared.Arrival.TheVariants.{Ignored, Discarded, Filtered, Dropped, Stored}
use Rattle.paper.specs.Words.{bit}
use Rattle.paper.specs.declared.Fifo.TheVariants.{TxData, TxStatus, RxData, RxStatus}
use Rattle.paper.specs.Memory.{Four, size, Change, keeps, puts, takes, restarts}
use Rattle.paper.specs.Registers.{TXEN, is_register, good_value, read_register, write_register, good_n, one_more, with_drops, with_n, may_resize, may_dump_tx_data, may_dump_rx}
use Rattle.paper.specs.Fresh.{fresh_port}
use Rattle.paper.specs.Filter.{passes}
use Rattle.paper.specs.Status.{Look, longest, status}
use Rattle.paper.specs.Arrivals.{Verdict, arrival, arrival_answer}
use Rattle.paper.specs.Transmission.{port_takes}
use Rattle.paper.specs.Sending.{Head, NoPacket, Found, head_of, sent_bytes, freed, frame_of, good_outcome, tx_status, shortest_out}

pub record Act : Type 0 where
  pub control : Control
  pub changes : Four Change
  pub sent : List ℕ
  pub answer : Answer

abbrev pub unchanged : Four Change
unchanged = record { txdata = keeps; txstatus = keeps; rxdata = keeps; rxstatus = keeps }

abbrev pub restarted : Four Change
restarted = record { txdata = restarts; txstatus = restarts; rxdata = restarts; rxstatus = restarts }

-- a call that sends nothing: control state, changes, value
abbrev pub does : Control → Four Change → (value : ℕ) → Act
does k c v = record { control = k; changes = c; sent = []; answer = Ok v }

-- 01: "A refusal returns value 0 and changes no memory and no state"
abbrev pub refuses : Refusal → Control → Act
refuses r k = record { control = k; changes = unchanged; sent = []; answer = Err r }

abbrev pub with_registers : Registers → Control → Control
with_registers r k = record { registers = r; port = k.port }

abbrev pub with_port : Port → Control → Control
with_port p k = record { registers = k.registers; port = p }

-- 01: "registers 3, 4, 5"
abbrev pub mac_write : (register value : ℕ) → Control → Act
mac_write register value k =
    if not (is_register register) then refuses NoRegister k else
    if not (good_value register value) then refuses BadValue k else
    does (with_registers (write_register register value k.registers) k) unchanged 0

abbrev pub mac_read : (register : ℕ) → Control → Act
mac_read register k =
    if not (is_register register) then refuses NoRegister k else
    does k unchanged (read_register register k.registers)

-- 01, refusals 4 and 5: "bad value, or n outside 2 to 14", "n or a dump not allowed now"; "this restarts all FIFOs"
abbrev pub set_split : (n : ℕ) → Control → Four ℕ → Act
set_split n k levels =
    if not (good_n n) then refuses BadValue k else
    if not (may_resize k.registers k.port levels) then refuses NotNow k else
    does (with_registers (with_n n k.registers) k) restarted 0

-- 01: "it restarts TX data, forgets every packet, open or whole, clears the transmit error, and the port expects an A"
abbrev pub dump_tx_data : Control → Act
dump_tx_data k =
    if not (may_dump_tx_data k.registers) then refuses NotNow k else
    does (with_port fresh_port k) (record { txdata = restarts; txstatus = keeps; rxdata = keeps; rxstatus = keeps }) 0

-- 01: "Dumping RX needs RXEN clear and restarts RX data and RX status."
abbrev pub dump_rx : Control → Act
dump_rx k =
    if not (may_dump_rx k.registers) then refuses NotNow k else
    does k (record { txdata = keeps; txstatus = keeps; rxdata = restarts; rxstatus = restarts }) 0

-- 01, line 6: "Dropped, RX_DROP plus one and no other change"; line 7: "Stored: data words …; one status"; "Ignored, Discarded and Filtered change nothing."
-- What an arrival does. The rule sees a look and levels; the frame's content is in words alone.
unfoldable pub arrives : Verdict → Control → Look → (words : List ℕ) → Act
arrives (Err r) k l words = refuses r k
arrives (Ok Ignored) k l words = record { control = k; changes = unchanged; sent = []; answer = arrival_answer (Ok Ignored) }
arrives (Ok Discarded) k l words = record { control = k; changes = unchanged; sent = []; answer = arrival_answer (Ok Discarded) }
arrives (Ok Filtered) k l words = record { control = k; changes = unchanged; sent = []; answer = arrival_answer (Ok Filtered) }
arrives (Ok Dropped) k l words =
    record { control = with_registers (with_drops (one_more k.registers.drops) k.registers) k; changes = unchanged; sent = []; answer = arrival_answer (Ok Dropped) }
arrives (Ok Stored) k l words =
    record {
      control = k;
      changes =
          record {
            txdata = keeps;
            txstatus = keeps;
            rxdata = puts words;
            rxstatus = puts (status longest (not (passes k.registers l.head)) l ∷ []);
          };
      sent = [];
      answer = arrival_answer (Ok Stored);
    }

abbrev pub arrive : Control → Four ℕ → Look → (words : List ℕ) → Act
arrive k levels l words =
    arrives
    (arrival k.registers (size RxData k.registers.n - levels.rxdata) (size RxStatus k.registers.n - levels.rxstatus) l)
    k l words

-- 01, refusal 11: "nothing to read, peek or send". The oldest word of a FIFO: 11 where there is none; else that word as the value, with the changes that go with it
abbrev pub oldest : Control → Four Change → List ℕ → Act
oldest k c [] = refuses NothingThere k
oldest k c (w ∷ q) = does k c w

-- a word for transmission: what the port does with it
abbrev pub tx_word : (word : ℕ) → Control → Four ℕ → Act
tx_word word k levels =
    let turn = port_takes (ltb levels.txdata (size TxData k.registers.n)) k.port word in
    record {
      control = with_port turn.port k;
      changes = record { txdata = turn.change; txstatus = keeps; rxdata = keeps; rxstatus = keeps };
      sent = [];
      answer = turn.answer;
    }

-- 01, refusals 12 and 13: "TX status full", "out buffer short"; "The answer is the frame's length." statuses are those waiting, whole is the number of
-- whole packets after the call.
unfoldable pub sends : Head → (outcome out statuses whole : ℕ) → Control → Act
sends NoPacket outcome out statuses whole k = refuses OutOfRange k
sends (Found b buffers) outcome out statuses whole k =
    if leb (size TxStatus k.registers.n) statuses then refuses StatusFull k else
    if ltb out shortest_out then refuses OutShort k else
    record {
      control = with_port (record { expect = k.port.expect; failed = k.port.failed; whole = whole }) k;
      changes = record { txdata = takes (freed buffers); txstatus = puts (tx_status b outcome ∷ []); rxdata = keeps; rxstatus = keeps };
      sent = frame_of b (sent_bytes buffers);
      answer = Ok (length (frame_of b (sent_bytes buffers)));
    }

-- 01: "sending 10, 2, 11, 15 (head), 12, 13"
abbrev pub send : (outcome out : ℕ) → Control → Four (List ℕ) → Act
send outcome out k q =
    if not (bit TXEN k.registers.maccr) then refuses SendingOff k else
    if not (good_outcome outcome) then refuses OtherBits k else
    if eqb k.port.whole 0 then refuses NothingThere k else
    sends (head_of q.txdata) outcome out (length q.txstatus) (k.port.whole - 1) k
