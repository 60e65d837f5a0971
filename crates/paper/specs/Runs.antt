-- Runs: the fresh state over any lent memory, a list of calls, and the ledger of the calls and their answers.
--   reached cs m          the world after the calls cs
--   ledger_of cs m        the ledger of those calls and their answers
--   Lent m                m has 4,096 words
--   Reading c             the call is an arrival, a read, a pop or a peek
--   next_of q             the answer of a read: 11 where nothing waits, else the oldest word
--   Due r l               lines 1 to 5 do not answer: the frame is due to be kept
--   lacks_room            line 6: too few data words free, or no status; by how many wait
--   sending               the answer to sending, by the packets that are whole and not sent
-- Assumes nothing.
use Rattle.std.specs.Prelude.{if◌then◌else◌, ◌≡◌, Bool, true, false, not, ◌||◌, List, [], ◌∷◌, ℕ, ◌-◌, ltb, leb, length, Err, Ok}
use Rattle.paper.specs.declared.Registers.{Registers}
use Rattle.paper.specs.declared.Refusal.TheVariants.{SendingOff, OtherBits, NothingThere, StatusFull, OutShort}
use Rattle.paper.specs.Answers.{Answer}
use Rattle.paper.specs.Words.{bit}
use Rattle.paper.specs.declared.Fifo.TheVariants.{TxStatus, RxData, RxStatus}
use Rattle.paper.specs.Memory.{words_lent, size}
use Rattle.paper.specs.Registers.{RXEN, TXEN, RXALL}
use Rattle.paper.specs.Filter.{passes}
use Rattle.paper.specs.Status.{Look}
use Rattle.paper.specs.Arrivals.{words_for, refuses_length, good_flags, discards}
use Rattle.paper.specs.Sending.{frame_of, good_outcome, shortest_out}
use Rattle.paper.specs.Calls.{Call, Arrive, RxDataRead, RxStatusPop, RxStatusPeek, TxStatusPop, TxStatusPeek}
use Rattle.paper.specs.Machine.{World, fresh, answers, world_after}
use Rattle.paper.specs.Ledger.{Ledger, Whole, packet_bytes, begun, noted}

abbrev pub Lent : List ℕ → Type 0
Lent m = length m ≡ words_lent

abbrev pub reached : List Call → List ℕ → World
reached cs m = world_after cs (fresh m)

abbrev pub ledger_of : List Call → List ℕ → Ledger
ledger_of cs m = noted cs (answers cs (fresh m)) begun

pub data Reading : Call → Type 0 where
  arrives : {frame : List ℕ} {flags : ℕ} → Reading (Arrive frame flags)
  reads : Reading RxDataRead
  pops : Reading RxStatusPop
  peeks : Reading RxStatusPeek
  pops_tx : Reading TxStatusPop
  peeks_tx : Reading TxStatusPeek

-- 01: "11: nothing to read, peek or send"
abbrev pub next_of : List ℕ → Answer
next_of [] = Err NothingThere
next_of (w ∷ q) = Ok w

-- 01, lines 1 to 5, none of which applies
pub record Due (r : Registers) (l : Look) : Type 0 where
  pub length_good : refuses_length l.len ≡ false
  pub flags : good_flags l.flags ≡ true
  pub receiving : bit RXEN r.maccr ≡ true
  pub not_discarded : discards r l ≡ false
  pub passed : (passes r l.head || bit RXALL r.maccr) ≡ true

-- 01, line 6: "Free RX data words below L/4 rounded up, or no free RX status"
abbrev pub lacks_room : (n words statuses len : ℕ) → Bool
lacks_room n words statuses len = ltb (size RxData n - words) (words_for len) || leb (size RxStatus n) statuses

-- 01: "sending 10, 2, 11, 15 (head), 12, 13": unsent are the packets whole and not yet sent, statuses those waiting. No packet of a run gets 15.
abbrev pub sending_to : (n out_length statuses : ℕ) → List Whole → Answer
sending_to n out_length statuses [] = Err NothingThere
sending_to n out_length statuses (p ∷ ps) =
    if leb (size TxStatus n) statuses then Err StatusFull else
    if ltb out_length shortest_out then Err OutShort else
    Ok (length (frame_of p.b (packet_bytes p)))

abbrev pub sending : Registers → (outcome out_length statuses : ℕ) → List Whole → Answer
sending r outcome out_length statuses unsent =
    if not (bit TXEN r.maccr) then Err SendingOff else
    if not (good_outcome outcome) then Err OtherBits else
    sending_to r.n out_length statuses unsent
