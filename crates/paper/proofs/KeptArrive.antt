-- An arrival keeps the invariant: a frame stored is one more frame, a frame dropped is one more drop, and any other leaves all.
--   all_words-append       the data words of frames, and of one more
--   kept_arrive
-- Assumes nothing.
use Rattle.std.specs.Prelude.{Err, Ok}
use mathlib.Core.Path.{◌≡◌, refl, sym, ap, ◌∙◌}
use mathlib.Core.List.{List, [], ◌∷◌, ◌++◌, append-nil, append_assoc, map-append}
use Prim.Native.Nat.{ℕ, ◌+◌, ◌%◌, ◌^◌}
use native.Mathlib.Nat.{mod-add-mod}
use lib.ListN.{take}
use Rattle.paper.specs.declared.Arrival.TheVariants.{Ignored, Discarded, Filtered, Dropped, Stored}
use Rattle.paper.specs.Registers.{with_drops}
use Rattle.paper.specs.Status.{look}
use Rattle.paper.specs.Arrivals.{Verdict, data_words}
use Rattle.paper.specs.Calls.{Arrive}
use Rattle.paper.specs.Acts.{arrives, with_registers}
use Rattle.paper.specs.Machine.{World, decide}
use Rattle.paper.specs.Ledger.{Frame, Ledger, frame_stored, entered, note, all_words, put, taken}
use Rattle.paper.proofs.ArrivalLines.{SaysAt, arrival_says, arrives_fits, passes_drops}
use Rattle.paper.proofs.Kept.{control_of, Kept}
use Rattle.paper.proofs.Fifos.{each}
use Rattle.paper.proofs.KeptMoves.{KeptBy, KeptUnder, kept_by, kept_still, kept_refused, kept_beside, kept_registers}

-- The data words of frames, and of one more behind them.
pub all_words-append : (fs : List Frame) (f : Frame) → all_words (fs ++ f ∷ []) ≡ all_words fs ++ data_words f.bytes
unfolding all_words
all_words-append [] f = append-nil _
all_words-append (g ∷ fs) f = rw (all_words-append fs f, append_assoc)

module _ {l : Ledger} {w : World} (h : Kept l w) (frame : List ℕ) (flags : ℕ) where
  -- Whichever line answers, what it says is enough.
  kept_line : (a : Verdict) → SaysAt a (control_of l) w (look frame flags)
      → KeptUnder (Arrive frame flags) l w (arrives a (control_of l) (look frame flags) (data_words frame))
  unfolding arrives note entered put taken
  kept_line (Err e) says = kept_refused h (Arrive frame flags) e says
  kept_line (Ok Ignored) says = kept_still h _ refl refl
  kept_line (Ok Discarded) says = kept_still h _ refl refl
  kept_line (Ok Filtered) says = kept_still h _ refl refl
  kept_line (Ok Dropped) says =
      kept_registers h _ l.registers (l.dropped + 1) h.legal.registers refl refl
      (ap (λ d. with_registers (with_drops d l.registers) (control_of l)) (mod-add-mod l.dropped (2 ^ 32) 1))
  kept_line (Ok Stored) says =
      let stored = frame_stored frame flags l.registers in
      let fits = arrives_fits (Ok Stored) (control_of l) w frame flags h.sound (ap (λ k. k.registers.n) (sym h.control)) says in
      kept_beside h _ l.registers l.dropped _ _ h.legal.registers refl refl fits
      (each _ (refl, refl) (refl, refl)
      (all_words-append l.received.frames stored, refl)
      (map-append _ l.received.frames (stored ∷ []) ∙ rw (passes_drops (l.dropped % 2 ^ 32) l.registers (take 14 frame)), refl))

-- An arrival keeps the invariant.
pub kept_arrive : {l : Ledger} {w : World} (frame : List ℕ) (flags : ℕ) → Kept l w → KeptBy (Arrive frame flags) l w
unfolding decide
kept_arrive frame flags h = kept_by h (Arrive frame flags) (kept_line h frame flags _ (arrival_says _ _ _ _))
