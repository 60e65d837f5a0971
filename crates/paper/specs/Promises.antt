-- What holds of every run from the fresh state, over any lent memory, with memory written by the calls only. Each promise is a type; proofs/Promises proves it.
--   Unique, NeverLost, KeepsRanges, Places, WholeOrNothing, DroppedExactly, ReadsBack, Levels, SentAsWritten, PacketAccepted
-- Demand 3 stands in Twins.
-- Assumes nothing.
use Rattle.std.specs.Prelude.{◌≡◌, ◌≢◌, ◌↔◌, true, not, false, List, [], ◌∷◌, ◌++◌, map, ℕ, ◌-◌, ◌%◌, ◌^◌, ◌≤◌, ◌<◌, ◌+◌, length, drop, get_or, replicate, Err, Ok}
use Rattle.paper.specs.declared.Said.{Said}
use Rattle.paper.specs.declared.State.{State}
use Rattle.paper.specs.declared.Refusal.TheVariants.{MemoryLength, OutOfRange}
use Rattle.paper.specs.Answers.{Answer}
use Rattle.paper.specs.declared.Fifo.{Fifo}
use Rattle.paper.specs.declared.Fifo.TheVariants.{TxData, TxStatus, RxData, RxStatus}
use Rattle.paper.specs.Memory.{size, base, place}
use Rattle.paper.specs.Registers.{rx_fifo_inf, tx_fifo_inf}
use Rattle.paper.specs.Filter.{passes}
use Rattle.paper.specs.Status.{look, longest, status}
use Rattle.paper.specs.Arrivals.{arrival_answer, data_words}
use Rattle.paper.specs.declared.Arrival.TheVariants.{Dropped, Stored}
use Rattle.paper.specs.Sending.{frame_of, out_after}
use Rattle.paper.specs.Refusals.{said, in_range}
use Rattle.paper.specs.Calls.{Call, Split, RxFifoInf, TxFifoInf, RxDrop, Arrive, RxDataRead, RxStatusPop, RxStatusPeek, Send, TxStatusPop, TxStatusPeek, TxWord}
use Rattle.paper.specs.Machine.{World, Result, waits, step, after, answer, answers, world_after}
use Rattle.paper.specs.Ledger.{Ledger, Whole, packet_bytes, put, taken, laid}
use Rattle.paper.specs.Runs.{Lent, reached, ledger_of, Reading, next_of, Due, lacks_room, sending}
use Rattle.paper.specs.declared.Packet.TheVariants.{Closed}
use Rattle.paper.specs.declared.Expect.TheVariants.{CommandA}
use Rattle.paper.specs.Packets.{GoodWhole, host_writes}

-- ---- Do answer, state, all 4,096 words and the out buffer follow uniquely from the inputs?
-- Yes. A result is what a call's contract speaks of: the refusal number and value, the state, the memory and the out buffer.
-- In every world, reached or not, for every call and refusal. Shuts out: a contract that two different models meet.

pub record Told : Type 0 where
  pub answer : Said
  pub state : State
  pub memory : List ℕ
  pub out : List ℕ

abbrev pub tells : Result → Told
tells r = record { answer = said r.answer; state = r.world.state; memory = r.world.memory; out = r.out }

-- the two sides of a call's contract: what the code answers and leaves, where it lends no out buffer; and what `step` says
abbrev pub told : Answer → State → List ℕ → Told
told a s m = record { answer = said a; state = s; memory = m; out = [] }

abbrev pub told_of : Call → State → List ℕ → Told
told_of c s m = tells (step c (record { state = s; memory = m }))

abbrev pub Meets : Call → World → Result → Type 0
Meets c w r = tells r ≡ tells (step c w)

abbrev pub Unique : Type 0
Unique = (c : Call) (w : World) (r r' : Result) → Meets c w r → Meets c w r' → r ≡ r'

-- ---- Can the model lose its way, and answer 14 or 15 though the caller did nothing wrong?
-- No. From the fresh state over any 4,096 words no call of any run answers 15, by ranges or by the head test, and none answers 14.
-- Shuts out: refuses_always, head_test_reads_payload.

abbrev pub NeverLost : Type 0
NeverLost = (m : List ℕ) → Lent m → (cs : List Call) (c : Call)
    → (answer c (reached cs m) ≢ Err OutOfRange) × (answer c (reached cs m) ≢ Err MemoryLength)

-- Can an arrival, a read, a pop or a peek bring a state out of its ranges?
-- No, from any state in range, reached or not. Shuts out: stored_with_no_free_status.
abbrev pub KeepsRanges : Type 0
KeepsRanges = (c : Call) → Reading c → (w : World) → Lent w.memory → in_range w.state ≡ true → in_range (after c w).state ≡ true

-- ---- Where does a word go?
-- The i-th word put into a FIFO since its restart, counting from 0, lies at place i mod size of that FIFO, for as long as it waits.
-- In every run, for each of the four FIFOs. The words put, and how many of them were taken, are those that the ledger gives. Shuts out: keeps_nothing.

abbrev pub Places : Type 0
Places = (m : List ℕ) → Lent m → (cs : List Call) (f : Fifo) (i : ℕ)
    → taken f (ledger_of cs m) ≤ i → i < length (put f (ledger_of cs m))
    → get_or (reached cs m).memory (place (base f (reached cs m).state.control.registers.n) (size f (reached cs m).state.control.registers.n) i) 0
    ≡ get_or (put f (ledger_of cs m)) i 0

-- ---- When receive memory is full, does the host find a whole frame with its status, or nothing at all?
-- An arrival answered Stored has put exactly its data words and exactly one status behind what waited; any other arrival leaves both receive FIFOs as they were.
-- In every run. Shuts out: stored_in_part, status_posted_before_the_room_test, keeps_nothing.

pub record Keeps (frame : List ℕ) (flags : ℕ) (w : World) : Type 0 where
  pub words : (waits (after (Arrive frame flags) w)).rxdata ≡ (waits w).rxdata ++ data_words frame
  pub statuses : (waits (after (Arrive frame flags) w)).rxstatus
      ≡ (waits w).rxstatus ++ (status longest (not (passes w.state.control.registers (look frame flags).head)) (look frame flags) ∷ [])

pub record Leaves (frame : List ℕ) (flags : ℕ) (w : World) : Type 0 where
  pub words : (waits (after (Arrive frame flags) w)).rxdata ≡ (waits w).rxdata
  pub statuses : (waits (after (Arrive frame flags) w)).rxstatus ≡ (waits w).rxstatus

abbrev pub WholeOrNothing : Type 0
WholeOrNothing = (m : List ℕ) → Lent m → (cs : List Call) (frame : List ℕ) (flags : ℕ)
    → (answer (Arrive frame flags) (reached cs m) ≡ arrival_answer (Ok Stored) → Keeps frame flags (reached cs m))
    × (answer (Arrive frame flags) (reached cs m) ≢ arrival_answer (Ok Stored) → Leaves frame flags (reached cs m))

-- When is a frame dropped?
-- Exactly when lines 1 to 5 do not answer and the free data words are fewer than L/4 rounded up or no status is free.
-- In every run. Shuts out: drops_always, stored_with_no_free_status.
abbrev pub DroppedExactly : Type 0
DroppedExactly = (m : List ℕ) → Lent m → (cs : List Call) (frame : List ℕ) (flags : ℕ)
    → (answer (Arrive frame flags) (reached cs m) ≡ arrival_answer (Ok Dropped))
    ↔ (Due (reached cs m).state.control.registers (look frame flags)
    × (lacks_room (reached cs m).state.control.registers.n (length (waits (reached cs m)).rxdata) (length (waits (reached cs m)).rxstatus) (length frame) ≡ true))

-- Does the host read back what was stored?
-- Its reads return, word for word and status for status, in order, the frames stored since the restart; and so for the TX statuses.
-- In every run. Shuts out: one_fixed_status, keeps_nothing, pretends_after_the_first.
pub record ReadsOf (w : World) (l : Ledger) : Type 0 where
  pub word : answer RxDataRead w ≡ next_of (drop (taken RxData l) (put RxData l))
  pub pop : answer RxStatusPop w ≡ next_of (drop (taken RxStatus l) (put RxStatus l))
  pub peek : answer RxStatusPeek w ≡ next_of (drop (taken RxStatus l) (put RxStatus l))
  pub pop_tx : answer TxStatusPop w ≡ next_of (drop (taken TxStatus l) (put TxStatus l))
  pub peek_tx : answer TxStatusPeek w ≡ next_of (drop (taken TxStatus l) (put TxStatus l))

abbrev pub ReadsBack : Type 0
ReadsBack = (m : List ℕ) → Lent m → (cs : List Call) → ReadsOf (reached cs m) (ledger_of cs m)

-- ---- Are levels and RX_DROP invented?
-- No. They are what the calls and answers so far imply: words put less words taken, and the number of Dropped since RX_DROP was last read or reset, mod 2^32.
-- In every run. Shuts out: level_of_content, drops_count_filtered, drops_stay_at_the_last.

abbrev pub held : Fifo → Ledger → ℕ
held f l = length (put f l) - taken f l

pub record LevelsOf (w : World) (l : Ledger) : Type 0 where
  pub rx : answer RxFifoInf w ≡ Ok (rx_fifo_inf (held RxStatus l) (held RxData l))
  pub tx : answer TxFifoInf w ≡ Ok (tx_fifo_inf l.registers.n (held TxStatus l) (held TxData l))
  pub drops : answer RxDrop w ≡ Ok (l.dropped % 2 ^ 32)
  pub split : answer Split w ≡ Ok l.registers.n

abbrev pub Levels : Type 0
Levels = (m : List ℕ) → Lent m → (cs : List Call) → LevelsOf (reached cs m) (ledger_of cs m)

-- ---- Is what is sent what the host wrote?
-- Yes. The k-th frame sent is that of the k-th packet made whole since the restart: its bytes are those that the host wrote, padded and with the FCS that 01
-- says; sending is refused for 01's reasons alone, and leaves the rest of the out buffer.
-- In every run. Shuts out: newest_sent, head_test_reads_payload.

pub record SendsOf (w : World) (l : Ledger) (outcome : ℕ) (out : List ℕ) : Type 0 where
  pub answers : answer (Send outcome out) w ≡ sending l.registers outcome (length out) (held TxStatus l) (drop l.wrote.sent l.wrote.packets)
  pub sends : (n : ℕ) → answer (Send outcome out) w ≡ Ok n → (p : Whole) (ps : List Whole) → drop l.wrote.sent l.wrote.packets ≡ p ∷ ps
      → (step (Send outcome out) w).out ≡ out_after (frame_of p.b (packet_bytes p)) out

abbrev pub SentAsWritten : Type 0
SentAsWritten = (m : List ℕ) → Lent m → (cs : List Call) (outcome : ℕ) (out : List ℕ) → SendsOf (reached cs m) (ledger_of cs m) outcome out

-- Is every packet that keeps the rules accepted?
-- Yes. Its words written to a port that expects an A with no packet open, no error and enough room are all accepted, and the packet is whole: the port expects an A
-- again, one more packet is whole, and what 01 stores of it waits behind what waited.
-- In every world in range, reached or not. Shuts out: refuses_always, later_b_charged, nine_for_a_word_thrown_away.

pub record Accepts (p : Whole) (w : World) : Type 0 where
  pub answered : answers (map TxWord (host_writes p)) w ≡ replicate (length (host_writes p)) (Ok 0)
  pub port : (world_after (map TxWord (host_writes p)) w).state.control.port ≡ record { expect = CommandA Closed; failed = false; whole = w.state.control.port.whole + 1 }
  pub words : (waits (world_after (map TxWord (host_writes p)) w)).txdata ≡ (waits w).txdata ++ laid p

abbrev pub PacketAccepted : Type 0
PacketAccepted = (p : Whole) (w : World) → GoodWhole p → Lent w.memory → in_range w.state ≡ true
    → w.state.control.port.expect ≡ CommandA Closed → w.state.control.port.failed ≡ false
    → length (waits w).txdata + length (laid p) ≤ size TxData w.state.control.registers.n
    → Accepts p w
