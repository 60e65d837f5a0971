-- What a world that is as its ledger says promises of levels, reads and arrivals: the facts of specs/Promises, world by world.
--   levels_of_lem         levels, RX_DROP and n are what the ledger implies
--   reads_of              reads, pops and peeks answer the ledger's words, in order
--   whole_or_nothing_at   an arrival puts its data words and one status, or nothing
--   dropped_exactly_at    Dropped is answered exactly when a frame is due and there is no room
-- Assumes nothing.
use Rattle.std.specs.Prelude.{Ok}
use mathlib.Core.Path.{◌≡◌, refl, sym, ap, subst, ◌∙◌}
use mathlib.Core.Logic.{◌≢◌, ◌↔◌}
use mathlib.Core.Bool.{true}
use mathlib.Core.List.{List}
use Prim.Native.Nat.{ℕ, ◌-◌}
use native.Mathlib.Omega.{arith}
use lib.Dec.{leb, eqb}
use lib.ListN.{length}
use Rattle.paper.specs.declared.Control.{Control}
use Rattle.paper.specs.declared.Arrival.TheVariants.{Dropped, Stored}
use Rattle.paper.specs.declared.Fifo.{Fifo}
use Rattle.paper.specs.declared.Fifo.TheVariants.{TxData, TxStatus, RxData, RxStatus}
use Rattle.paper.specs.Memory.{Four, Change, size, of, waiting_after}
use Rattle.paper.specs.Status.{look}
use Rattle.paper.specs.Arrivals.{Verdict, data_words, arrival, arrival_answer}
use Rattle.paper.specs.Calls.{Arrive, Split, RxFifoInf, TxFifoInf, RxDrop, RxDataRead, RxStatusPop, RxStatusPeek, TxStatusPop, TxStatusPeek}
use Rattle.paper.specs.Acts.{arrives, oldest}
use Rattle.paper.specs.Machine.{World, waits, decide, apply, act, step, answer, after}
use Rattle.paper.specs.Ledger.{Ledger}
use Rattle.paper.specs.Runs.{next_of, Due, lacks_room}
use Rattle.paper.specs.Promises.{Keeps, Leaves, ReadsOf, LevelsOf}
use Rattle.paper.proofs.Rings.{split, apply-waits}
use Rattle.paper.proofs.Answers.{arrival_one_to_one}
use Rattle.paper.proofs.ArrivalLines.{SaysAt, arrival_says, arrival_drops, arrives_answer, arrives_split, arrives_still, arrives_fits}
use Rattle.paper.proofs.Kept.{Kept}
use Rattle.paper.proofs.KeptRange.{kept_act, kept_answer}
use Rattle.std.proofs.lemmas.Bool.Decides.{nat_tests}
use Rattle.paper.proofs.Kept.{kept_held}

-- Levels, RX_DROP and n are what the ledger implies.
pub levels_of_lem : {l : Ledger} {w : World} → Kept l w → LevelsOf w l
unfolding decide
levels_of_lem h =
    record {
      rx = kept_answer RxFifoInf h ∙ rw (kept_held h RxStatus, kept_held h RxData);
      tx = kept_answer TxFifoInf h ∙ rw (kept_held h TxStatus, kept_held h TxData);
      drops = kept_answer RxDrop h;
      split = kept_answer Split h;
    }

-- The oldest word of a FIFO is answered, and 11 where there is none.
oldest_answer : (k : Control) (changes : Four Change) (q : List ℕ) → (oldest k changes q).answer ≡ next_of q
oldest_answer k changes q = grind arith

-- Reads, pops and peeks answer the ledger's words, in order.
pub reads_of : {l : Ledger} {w : World} → Kept l w → ReadsOf w l
unfolding decide
reads_of {l} {w} h =
    record {
      word = kept_answer RxDataRead h ∙ oldest_answer _ _ (waits w).rxdata ∙ ap next_of (h.queues RxData);
      pop = kept_answer RxStatusPop h ∙ oldest_answer _ _ (waits w).rxstatus ∙ ap next_of (h.queues RxStatus);
      peek = kept_answer RxStatusPeek h ∙ oldest_answer _ _ (waits w).rxstatus ∙ ap next_of (h.queues RxStatus);
      pop_tx = kept_answer TxStatusPop h ∙ oldest_answer _ _ (waits w).txstatus ∙ ap next_of (h.queues TxStatus);
      peek_tx = kept_answer TxStatusPeek h ∙ oldest_answer _ _ (waits w).txstatus ∙ ap next_of (h.queues TxStatus);
    }

-- None is free exactly where as many wait as there is room for.
none_free : (room level : ℕ) → eqb (room - level) 0 ≡ leb room level
none_free room level = grind (arith, nat_tests)

-- the line of 01 that answers an arrival in the world w
abbrev line_of : (frame : List ℕ) (flags : ℕ) → World → Verdict
line_of frame flags w =
    arrival w.state.control.registers
    (size RxData (split w) - length (waits w).rxdata) (size RxStatus (split w) - length (waits w).rxstatus) (look frame flags)

module _ {l : Ledger} {w : World} (h : Kept l w) (frame : List ℕ) (flags : ℕ) where
  -- An arrival does what its line says.
  line_act : act (Arrive frame flags) w ≡ arrives (line_of frame flags w) w.state.control (look frame flags) (data_words frame)
  unfolding decide
  line_act = kept_act (Arrive frame flags) h ∙ ap (λ k. decide (Arrive frame flags) k (waits w)) (sym h.control)

  -- And it is answered by its line.
  line_answer : answer (Arrive frame flags) w ≡ arrival_answer (line_of frame flags w)
  unfolding step
  line_answer = ap (λ a. a.answer) line_act ∙ arrives_answer (line_of frame flags w) _ _ _

  -- What it says is so.
  line_says : SaysAt (line_of frame flags w) w.state.control w (look frame flags)
  line_says = arrival_says w.state.control.registers _ _ (look frame flags)

  -- Dropped is answered exactly when a frame is due and there is no room.
  pub dropped_exactly_at : (answer (Arrive frame flags) w ≡ arrival_answer (Ok Dropped))
      ↔ (Due w.state.control.registers (look frame flags)
      × (lacks_room w.state.control.registers.n (length (waits w).rxdata) (length (waits w).rxstatus) (length frame) ≡ true))
  dropped_exactly_at =
      let free = none_free (size RxStatus (split w)) (length (waits w).rxstatus) in (
        λ e.
            let line = arrival_one_to_one (line_of frame flags w) (Ok Dropped) (sym line_answer ∙ e) in
            let says = subst (λ a. SaysAt a w.state.control w (look frame flags)) line line_says in
            (says.0, rw free at says.1),
        λ due. line_answer ∙ ap arrival_answer (arrival_drops w.state.control.registers _ _ (look frame flags) due.0 (rw free due.1)),
      )

  -- What waits after an arrival is what waited, changed as its line says.
  line_waits : (a : Verdict) → line_of frame flags w ≡ a → (f : Fifo)
      → of (waits (after (Arrive frame flags) w)) f
      ≡ waiting_after (of (arrives a w.state.control (look frame flags) (data_words frame)).changes f) (of (waits w) f)
  unfolding step
  line_waits a e f =
      let line = line_of frame flags w in
      let k = w.state.control in
      ap (λ x. of (waits (apply x w)) f) line_act
      ∙ apply-waits _ w h.sound (arrives_fits line k w frame flags h.sound refl line_says) (arrives_split line k (look frame flags) (data_words frame)) f
      ∙ ap (λ x. waiting_after (of (arrives x k (look frame flags) (data_words frame)).changes f) (of (waits w) f)) e

  -- An arrival answered Stored puts its data words and one status behind what waited; any other leaves both receive FIFOs.
  pub whole_or_nothing_at : (answer (Arrive frame flags) w ≡ arrival_answer (Ok Stored) → Keeps frame flags w)
      × (answer (Arrive frame flags) w ≢ arrival_answer (Ok Stored) → Leaves frame flags w)
  unfolding arrives waiting_after
  whole_or_nothing_at = (kept, left)
    where
      kept : answer (Arrive frame flags) w ≡ arrival_answer (Ok Stored) → Keeps frame flags w
      kept e =
          let line = arrival_one_to_one (line_of frame flags w) (Ok Stored) (sym line_answer ∙ e) in
          record { words = line_waits (Ok Stored) line RxData; statuses = line_waits (Ok Stored) line RxStatus }

      left : answer (Arrive frame flags) w ≢ arrival_answer (Ok Stored) → Leaves frame flags w
      left d =
          let other : line_of frame flags w ≢ Ok Stored = λ e. d (line_answer ∙ ap arrival_answer e) in
          let none = arrives_still (line_of frame flags w) w.state.control (look frame flags) (data_words frame) other in
          record { words = line_waits _ refl RxData ∙ rw none; statuses = line_waits _ refl RxStatus ∙ rw none }
