-- The four rings in the whole memory: what an act does to the words waiting, and that it leaves the world in range.
--   waits_of              the words waiting in FIFO f, by its ring and its part of the memory
--   put_leaves_others     a change of one FIFO leaves the words waiting in another
--   Sound w               the memory is as long as it has to be, n is 2 to 14, and each ring is in range
--   apply-waits, apply-waits_anew    the words waiting after an act: each FIFO's own change; none after a restart of all
--   apply_sound, apply_sound_anew    the world after an act is in range
--   apply-unchanged, apply_nothing    an act with no change leaves the memory; with the control state it leaves the world
-- Assumes nothing.
use mathlib.Core.Path.{◌≡◌, refl, ◌∙◌, ap}
use mathlib.Core.Logic.{◌≢◌}
use mathlib.Core.List.{List, [], ◌∷◌, ◌++◌}
use Prim.Native.Nat.{ℕ, ◌≤◌}
use native.Mathlib.Omega.{arith}
use lib.ListN.{length}
use Rattle.paper.specs.declared.Ring.{Ring}
use Rattle.paper.specs.declared.Fifo.{Fifo}
use Rattle.paper.specs.declared.Fifo.TheVariants.{TxData, TxStatus, RxData, RxStatus}
use Rattle.paper.specs.Memory.{words_lent, ring, size, base, of, waiting}
use Rattle.paper.specs.Memory.{Change, keeps, restarts, ring_after, memory_after, waiting_after}
use Rattle.paper.specs.Acts.{Act, unchanged, restarted}
use Rattle.paper.specs.Machine.{World, waits, apply}
use Rattle.paper.proofs.Memory.{InRing, Fits, size_positive, within, apart, waiting_none}
use Rattle.paper.proofs.Memory.{change_length, change_in_ring, change_waiting, change_elsewhere}
use Rattle.std.proofs.Common.{rules}

-- n, TX_FIF_SZ, of a world
abbrev pub split : World → ℕ
split w = w.state.control.registers.n

-- the words waiting in a FIFO are those of its ring in its part of the memory
pub waits_of : (f : Fifo) (w : World) → of (waits w) f ≡ waiting (base f (split w)) (size f (split w)) (ring f w.state) w.memory
unfolding waits
waits_of f w = grind arith

-- ---- changes of several FIFOs, one after the other

-- a change of one FIFO leaves the words waiting in another
pub put_leaves_others : (n : ℕ) → 2 ≤ n → n ≤ 14 → (f g : Fifo) → f ≢ g → (c : Change) (r r' : Ring) (m : List ℕ)
    → waiting (base g n) (size g n) r' (memory_after (base f n) (size f n) c r m) ≡ waiting (base g n) (size g n) r' m
put_leaves_others n low high f g d c r r' m = change_elsewhere (apart f g n d low high) (size_positive f n low high) (size_positive g n low high) c r r' m

-- the memory after the changes c of the rings r, for the FIFOs fs in their order
unfoldable pub memory_through : (n : ℕ) (c : Fifo → Change) (r : Fifo → Ring) → List Fifo → List ℕ → List ℕ
memory_through n c r [] m = m
memory_through n c r (f ∷ fs) m = memory_through n c r fs (memory_after (base f n) (size f n) (c f) (r f) m)

-- the FIFOs in their order
abbrev pub fifos : List Fifo
fifos = TxData ∷ TxStatus ∷ RxData ∷ RxStatus ∷ []

-- FIFO g is not among fs
abbrev Absent : Fifo → List Fifo → Type 0
Absent g [] = Unit {0}
Absent g (f ∷ fs) = (f ≢ g) × Absent g fs

-- changes leave the memory's length
pub through_length : (n : ℕ) (c : Fifo → Change) (r : Fifo → Ring) (fs : List Fifo) (m : List ℕ) → length (memory_through n c r fs m) ≡ length m
unfolding memory_through
through_length n c r [] m = refl
through_length n c r (f ∷ fs) m = through_length n c r fs _ ∙ change_length (base f n) (size f n) (c f) (r f) m

module _ (n : ℕ) (low : 2 ≤ n) (high : n ≤ 14) (c : Fifo → Change) (r : Fifo → Ring) where
  -- changes of other FIFOs leave the words waiting in a FIFO
  through_others : (g : Fifo) (r' : Ring) (fs : List Fifo) (m : List ℕ) → Absent g fs
      → waiting (base g n) (size g n) r' (memory_through n c r fs m) ≡ waiting (base g n) (size g n) r' m
  unfolding memory_through
  through_others g r' [] m a = refl
  through_others g r' (f ∷ fs) m a =
      through_others g r' fs _ a.1 ∙ put_leaves_others n low high f g a.0 (c f) (r f) r' m

  -- of the changes of several FIFOs, a FIFO's own is what happens to the words waiting in it
  through_own : (g : Fifo) (fs gs : List Fifo) → Absent g fs → Absent g gs → (m : List ℕ) → length m ≡ words_lent → Fits (size g n) (c g) (r g)
      → waiting (base g n) (size g n) (ring_after (size g n) (c g) (r g)) (memory_through n c r (fs ++ g ∷ gs) m)
      ≡ waiting_after (c g) (waiting (base g n) (size g n) (r g) m)
  unfolding memory_through
  through_own g [] gs a b m l t =
      through_others g _ gs _ b ∙ change_waiting (base g n) (size g n) (c g) (r g) m (omega (arith, within g n low high)) t
  through_own g (f ∷ fs) gs a b m l t =
      through_own g fs gs a.1 b _ (change_length (base f n) (size f n) (c f) (r f) m ∙ l) t
      ∙ ap (waiting_after (c g)) (put_leaves_others n low high f g a.0 (c f) (r f) (r g) m)

  -- so it is with the changes of all four
  pub through_waiting : (g : Fifo) (m : List ℕ) → length m ≡ words_lent → Fits (size g n) (c g) (r g)
      → waiting (base g n) (size g n) (ring_after (size g n) (c g) (r g)) (memory_through n c r fifos m)
      ≡ waiting_after (c g) (waiting (base g n) (size g n) (r g) m)
  through_waiting TxData = through_own TxData [] (TxStatus ∷ RxData ∷ RxStatus ∷ []) (search rules) (search rules)
  through_waiting TxStatus = through_own TxStatus (TxData ∷ []) (RxData ∷ RxStatus ∷ []) (search rules) (search rules)
  through_waiting RxData = through_own RxData (TxData ∷ TxStatus ∷ []) (RxStatus ∷ []) (search rules) (search rules)
  through_waiting RxStatus = through_own RxStatus (TxData ∷ TxStatus ∷ RxData ∷ []) [] (search rules) (search rules)

-- ---- what an act does

-- the world is in range: the memory's length, n, and the rings
pub record Sound (w : World) : Type 0 where
  pub lent : length w.memory ≡ words_lent
  pub low : 2 ≤ split w
  pub high : split w ≤ 14
  pub rings : (f : Fifo) → InRing (size f (split w)) (ring f w.state)

-- each change of an act fits its ring
abbrev pub AllFit : Act → World → Type 0
AllFit a w = (f : Fifo) → Fits (size f (split w)) (of a.changes f) (ring f w.state)

-- where nothing changes, each FIFO keeps its words
unchanged_of : (f : Fifo) → of unchanged f ≡ keeps
unchanged_of f = grind arith

-- where all four restart, each does
restarted_of : (f : Fifo) → of restarted f ≡ restarts
restarted_of f = grind arith

module _ (a : Act) (w : World) where
  -- each ring after an act is changed as the act says
  pub apply-ring : (f : Fifo) → ring f (apply a w).state ≡ ring_after (size f (split w)) (of a.changes f) (ring f w.state)
  unfolding apply
  apply-ring f = grind arith

  -- each is anew after an act that restarts all four
  pub apply-ring_anew : a.changes ≡ restarted → (f : Fifo) → ring f (apply a w).state ≡ record { at = 0; count = 0 }
  unfolding ring_after
  apply-ring_anew e f = apply-ring f ∙ rw (e, restarted_of f)

  -- the memory after an act is changed by the four FIFOs in their order
  pub apply_memory : (apply a w).memory ≡ memory_through (split w) (of a.changes) (λ f. ring f w.state) fifos w.memory
  unfolding apply memory_through
  apply_memory = refl

  -- n after an act is that of the act's control state
  pub apply-split : split (apply a w) ≡ a.control.registers.n
  unfolding apply
  apply-split = refl

  -- an act leaves the memory's length
  pub apply-length : length (apply a w).memory ≡ length w.memory
  apply-length = rw apply_memory (through_length (split w) (of a.changes) (λ f. ring f w.state) fifos w.memory)

  -- after an act that fits and leaves n, each FIFO's own change is what happened to the words waiting in it
  pub apply-waits : Sound w → AllFit a w → a.control.registers.n ≡ split w
      → (f : Fifo) → of (waits (apply a w)) f ≡ waiting_after (of a.changes f) (of (waits w) f)
  apply-waits s t e f =
      rw (waits_of f (apply a w), waits_of f w, apply-ring f, apply_memory, apply-split, e)
      (through_waiting (split w) s.low s.high (of a.changes) (λ g. ring g w.state) f w.memory s.lent (t f))

  -- after an act that restarts all four, no word waits
  pub apply-waits_anew : a.changes ≡ restarted → (f : Fifo) → of (waits (apply a w)) f ≡ []
  apply-waits_anew e f = waits_of f (apply a w) ∙ waiting_none _ _ _ _ (ap (λ (r : Ring). r.count) (apply-ring_anew e f))

  -- an act that fits and leaves n leaves the world in range
  pub apply_sound : Sound w → AllFit a w → a.control.registers.n ≡ split w → Sound (apply a w)
  apply_sound s t e =
      record {
        lent = apply-length ∙ s.lent;
        low = omega (arith, apply-split, s.low);
        high = omega (arith, apply-split, s.high);
        rings = λ f. rw (apply-ring f, apply-split, e) (change_in_ring (size f (split w)) (of a.changes f) (ring f w.state) (s.rings f) (t f));
      }

  -- so does one that restarts all four, with n from 2 to 14
  pub apply_sound_anew : length w.memory ≡ words_lent → a.changes ≡ restarted
      → 2 ≤ a.control.registers.n → a.control.registers.n ≤ 14 → Sound (apply a w)
  apply_sound_anew l e low high =
      record {
        lent = apply-length ∙ l;
        low = omega (arith, apply-split);
        high = omega (arith, apply-split);
        rings = λ f. rw (apply-split, apply-ring_anew e f) (record { at_lt = size_positive f _ low high; count_le = omega arith });
      }

  -- no change fits every ring
  pub unchanged_fits : a.changes ≡ unchanged → AllFit a w
  unchanged_fits e f = rw (e, unchanged_of f) tt

  -- an act with no change leaves the memory
  pub apply-unchanged : a.changes ≡ unchanged → (apply a w).memory ≡ w.memory
  unfolding apply memory_after
  apply-unchanged e = rw e

  -- an act with no change and the control state as it was leaves the world
  pub apply_nothing : a.changes ≡ unchanged → a.control ≡ w.state.control → apply a w ≡ w
  unfolding apply memory_after ring_after
  apply_nothing e k = rw (e, k)
