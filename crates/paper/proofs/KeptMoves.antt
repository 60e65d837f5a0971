-- How a call is shown to keep the invariant: by the act that is decided.
--   KeptBy c l w          after the call c in the world w, the world is as the ledger says that has noted it
--   kept_by               it is enough to show it of the act that is decided, KeptUnder c l w a
--   kept_still, kept_refused, kept_unless    an act that changes nothing; a refusal; a refusal where a test holds
--   kept_beside, kept_registers    an act that leaves the packets; one that changes registers alone
--   kept_oldest           the oldest word of a FIFO is read, and perhaps taken
-- Assumes nothing.
use Rattle.std.specs.Prelude.{if◌then◌else◌, Ok}
use mathlib.Core.Path.{◌≡◌, refl, sym, subst, ◌∙◌}
use mathlib.Core.Bool.{Bool, true, false}
use mathlib.Core.List.{List, [], ◌∷◌}
use Prim.Native.Nat.{ℕ, ◌<◌}
use native.Mathlib.Omega.{arith}
use lib.ListN.{length}
use Rattle.paper.specs.declared.Registers.{Registers}
use Rattle.paper.specs.declared.Refusal.{Refusal}
use Rattle.paper.specs.declared.Refusal.TheVariants.{NothingThere}
use Rattle.paper.specs.declared.Fifo.{Fifo}
use Rattle.paper.specs.Memory.{Four, size, of, Change}
use Rattle.paper.specs.Registers.{good_registers}
use Rattle.paper.specs.Calls.{Call}
use Rattle.paper.specs.Acts.{Act, unchanged, refuses, oldest}
use Rattle.paper.specs.Machine.{World, waits, decide, apply, step, answer, after}
use Rattle.paper.specs.Ledger.{Received, Confirmed, Ledger, sets_error, note, put, taken}
use Rattle.std.proofs.lemmas.Bool.{cond_both}
use Rattle.paper.proofs.Memory.{Fits}
use Rattle.paper.specs.Memory.{ring}
use Rattle.paper.proofs.Rings.{split, AllFit, unchanged_fits, apply_nothing}
use Rattle.paper.proofs.Fifos.{waits_count}
use Rattle.paper.proofs.Kept.{control_of, Kept, Follows, kept_apply}
use Rattle.paper.proofs.KeptRange.{kept_act}

-- after the call c the world is as the ledger says that has noted the call and its answer
abbrev pub KeptBy : Call → Ledger → World → Type 0
KeptBy c l w = Kept (note c (answer c w) l) (after c w)

-- what is to be shown of the act a of the call c
abbrev pub KeptUnder : Call → Ledger → World → Act → Type 0
KeptUnder c l w a = Kept (note c a.answer l) (apply a w)

-- the ledger l with other registers, drops, frames and statuses, and the packets that it has
abbrev pub same_packets : Registers → (dropped : ℕ) → Received → Confirmed → Ledger → Ledger
same_packets r d x y l = record { registers = r; dropped = d; received = x; wrote = l.wrote; confirmed = y }

-- from l to l' the words put and taken follow the changes of every FIFO
abbrev pub AllFollow : Four Change → Ledger → Ledger → Type 0
AllFollow changes l l' = (f : Fifo) → Follows (of changes f) (put f l) (taken f l) (put f l') (taken f l')

module _ {l : Ledger} {w : World} (h : Kept l w) where
  -- It is enough to show it of the act that is decided.
  pub kept_by : (c : Call) → KeptUnder c l w (decide c (control_of l) (waits w)) → KeptBy c l w
  unfolding step
  kept_by c k = subst (KeptUnder c l w) (sym (kept_act c h)) k

  -- An act that changes nothing leaves the world as the ledger says.
  pub kept_still : (a : Act) → a.changes ≡ unchanged → a.control ≡ control_of l → Kept l (apply a w)
  kept_still a e k = rw (apply_nothing a w e (k ∙ sym h.control)) h

  -- So does a refusal other than 7, 8 and 9.
  pub kept_refused : (c : Call) (r : Refusal) → sets_error r ≡ false → KeptUnder c l w (refuses r (control_of l))
  unfolding note
  kept_refused c r e = rw e (kept_still _ refl refl)

  -- A call that is refused where a test holds, and else does the act a.
  pub kept_unless : (c : Call) (b : Bool) (r : Refusal) (a : Act) → sets_error r ≡ false → (b ≡ false → KeptUnder c l w a)
      → KeptUnder c l w (if b then refuses r (control_of l) else a)
  kept_unless c b r a e k = cond_both b _ _ (KeptUnder c l w) (λ _. kept_refused c r e) k

  -- An act that leaves n and the packets, and moves the other parts of the ledger and the FIFOs alike.
  pub kept_beside : (a : Act) (r : Registers) (d : ℕ) (x : Received) (y : Confirmed)
      → good_registers r ≡ true → r.n ≡ l.registers.n → a.control ≡ control_of (same_packets r d x y l)
      → AllFit a w → AllFollow a.changes l (same_packets r d x y l) → Kept (same_packets r d x y l) (apply a w)
  kept_beside a r d x y good same control fits follows =
      kept_apply h (record {
        legal = record { registers = good; packets = h.legal.packets; taking = h.legal.taking; sent = h.legal.sent };
        control = control;
        split = same;
        fits = fits;
        follows = follows;
      })

  -- An act that changes registers alone.
  pub kept_registers : (a : Act) (r : Registers) (d : ℕ) → good_registers r ≡ true → r.n ≡ l.registers.n → a.changes ≡ unchanged
      → a.control ≡ control_of (same_packets r d l.received l.confirmed l) → Kept (same_packets r d l.received l.confirmed l) (apply a w)
  unfolding put taken
  kept_registers a r d good same none control =
      kept_beside a r d l.received l.confirmed good same control (unchanged_fits a w none)
      (rw none (λ f. grind arith))

  -- The oldest word of a FIFO is read, and perhaps taken.
  pub kept_oldest : (c : Call) (f : Fifo) (changes : Four Change) (x : Received) (y : Confirmed)
      → ((v : ℕ) → note c (Ok v) l ≡ same_packets l.registers l.dropped x y l)
      → (0 < (ring f w.state).count → (g : Fifo) → Fits (size g (split w)) (of changes g) (ring g w.state))
      → AllFollow changes l (same_packets l.registers l.dropped x y l) → KeptUnder c l w (oldest (control_of l) changes (of (waits w) f))
  kept_oldest c f changes x y noted fits follows = by_cases (of (waits w) f) (waits_count w f)
    where
      by_cases : (q : List ℕ) → length q ≡ (ring f w.state).count → KeptUnder c l w (oldest (control_of l) changes q)
      by_cases [] e = kept_refused c NothingThere refl
      by_cases (v ∷ q) e = rw (noted v) (kept_beside _ l.registers l.dropped x y h.legal.registers refl refl (fits (omega arith)) follows)
