-- No call of a run is refused with 14 or 15. Paper 01, Refusal numbers.
--   is_entry a             the answer is refusal 14 or 15
--   never_entry            in a world as a ledger says no call has such an answer
-- Assumes nothing.
use native.Mathlib.Omega.{arith}
use Rattle.std.specs.Prelude.{Err, Ok}
use mathlib.Core.Path.{◌≡◌, refl, ap, ◌∙◌}
use mathlib.Core.Bool.{Bool, false}
use mathlib.Core.List.{List, [], ◌∷◌}
use Prim.Native.Nat.{ℕ}
use lib.Dec.{leb}
use lib.ListN.{length, drop}
use Rattle.paper.specs.declared.Registers.{Registers}
use Rattle.paper.specs.declared.Port.{Port}
use Rattle.paper.specs.declared.Control.{Control}
use Rattle.paper.specs.Answers.{Answer}
use Rattle.paper.specs.declared.Fifo.TheVariants.{TxStatus}
use Rattle.paper.specs.Memory.{Four, Change}
use Rattle.paper.specs.Status.{Look, look}
use Rattle.paper.specs.Arrivals.{arrival, room, arrival_answer, data_words}
use Rattle.paper.specs.Transmission.{takes_a, takes_b, takes_payload, takes_expected, port_takes}
use Rattle.paper.specs.Refusals.{number}
use Rattle.paper.specs.Calls.{Call, Reset, MacWrite, MacRead, SetSplit, Split, RxFifoInf, TxFifoInf, RxDrop, DumpTxData, DumpTxStatus, DumpRx, Arrive, RxDataRead, RxStatusPop, RxStatusPeek, TxWord, Send, TxStatusPop, TxStatusPeek}
use Rattle.paper.specs.Acts.{Act, oldest}
use Rattle.paper.specs.Machine.{World, waits, step, answer, decide}
use Rattle.paper.specs.Ledger.{Taking, Ledger, Whole}
use Rattle.paper.specs.Runs.{sending}
use Rattle.paper.specs.Promises.{held}
use Rattle.paper.proofs.ArrivalLines.{arrives_answer}
use Rattle.paper.proofs.Kept.{Kept, control_of, expect_of}
use Rattle.paper.proofs.KeptRange.{kept_act}
use Rattle.paper.proofs.KeptSend.{sends_of}

abbrev pub is_entry : Answer → Bool
is_entry (Ok v) = false
is_entry (Err r) = leb 14 (number r)

abbrev Plain : Answer → Type 0
Plain a = is_entry a ≡ false

-- ---- Arrivals

-- The answers that the seven lines give.
arrival_plain : (r : Registers) (words statuses : ℕ) (l : Look) → Plain (arrival_answer (arrival r words statuses l))
unfolding arrival room
arrival_plain r words statuses l = grind arith

-- ---- Reads

oldest_plain : (k : Control) (c : Four Change) (q : List ℕ) → Plain (oldest k c q).answer
oldest_plain k c q = grind arith

-- ---- Words

-- A port that has come so far by accepted words expects no B without a packet.
expected_plain : (free : Bool) (p : Port) (t : Taking) (w : ℕ) → Plain (takes_expected free p (expect_of t) w).answer
unfolding takes_expected expect_of takes_a takes_b takes_payload
expected_plain free p t w = grind arith

word_plain : (free failed : Bool) (whole : ℕ) (t : Taking) (w : ℕ) → Plain (port_takes free (record { expect = expect_of t; failed = failed; whole = whole }) w).answer
unfolding port_takes
word_plain free failed whole t w = grind (arith, expected_plain)

-- ---- Sending

-- The answers to sending in a run.
sending_plain : (r : Registers) (outcome out statuses : ℕ) (ps : List Whole) → Plain (sending r outcome out statuses ps)
sending_plain r outcome out statuses [] = grind arith
sending_plain r outcome out statuses (p ∷ ps) = grind arith

-- ---- Every call

-- What is decided is answered.
decided : {l : Ledger} {w : World} (c : Call) → Kept l w → Plain (decide c (control_of l) (waits w)).answer → is_entry (answer c w) ≡ false
unfolding step
decided c h e = ap (λ (a : Act). is_entry a.answer) (kept_act c h) ∙ e

-- In a world as a ledger says no call is refused with 14 or 15.
pub never_entry : {l : Ledger} {w : World} (c : Call) → Kept l w → is_entry (answer c w) ≡ false
unfolding decide
never_entry Reset h = decided Reset h refl
never_entry (MacWrite k v) h = decided (MacWrite k v) h (grind arith)
never_entry (MacRead k) h = decided (MacRead k) h (grind arith)
never_entry (SetSplit n) h = decided (SetSplit n) h (grind arith)
never_entry Split h = decided Split h refl
never_entry RxFifoInf h = decided RxFifoInf h refl
never_entry TxFifoInf h = decided TxFifoInf h refl
never_entry RxDrop h = decided RxDrop h refl
never_entry DumpTxData h = decided DumpTxData h (grind arith)
never_entry DumpTxStatus h = decided DumpTxStatus h refl
never_entry DumpRx h = decided DumpRx h (grind arith)
never_entry {l} {w} (Arrive frame flags) h =
    decided (Arrive frame flags) h (ap is_entry (arrives_answer _ (control_of l) (look frame flags) (data_words frame)) ∙ arrival_plain _ _ _ (look frame flags))
never_entry {l} {w} RxDataRead h = decided RxDataRead h (oldest_plain _ _ (waits w).rxdata)
never_entry {l} {w} RxStatusPop h = decided RxStatusPop h (oldest_plain _ _ (waits w).rxstatus)
never_entry {l} {w} RxStatusPeek h = decided RxStatusPeek h (oldest_plain _ _ (waits w).rxstatus)
never_entry {l} {w} (TxWord word) h = decided (TxWord word) h (word_plain _ l.wrote.failed _ l.wrote.taking word)
never_entry {l} {w} (Send outcome out) h =
    ap is_entry (sends_of h outcome out).answers ∙ sending_plain l.registers outcome (length out) (held TxStatus l) (drop l.wrote.sent l.wrote.packets)
never_entry {l} {w} TxStatusPop h = decided TxStatusPop h (oldest_plain _ _ (waits w).txstatus)
never_entry {l} {w} TxStatusPeek h = decided TxStatusPeek h (oldest_plain _ _ (waits w).txstatus)
