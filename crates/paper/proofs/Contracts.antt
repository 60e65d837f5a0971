-- What a call's contract comes to: laws that the code cites in place of the text of `step`.
--   world s m             a state and a lent memory
--   with_control k s      the state s with another control state
--   told_short, told_lost a call whose memory is not 4,096 words; a call whose state is out of range
--   told_act              a call that does the act a
--   told_still            such an act that changes nothing
--   told_same, told_control, told_decided    past the entry test: what is decided changes nothing, the control state alone, or anything
--   levels_are            the words waiting, as numbers, are the rings' counts
--   none_waits, oldest_waits    a FIFO with no word, and one with its oldest word
-- Assumes nothing.
use Rattle.std.specs.Prelude.{Err}
use mathlib.Core.Path.{◌≡◌, refl, ap, ◌∙◌}
use mathlib.Core.Bool.{true, false}
use mathlib.Core.List.{List, [], ◌∷◌}
use Prim.Native.Nat.{ℕ, suc, ◌+◌, ◌<◌}
use lib.ListN.{length, get_or}
use borrow.Author.Tests.{eq-eqb, ne_eqb}
use Rattle.paper.specs.declared.Control.{Control}
use Rattle.paper.specs.declared.State.{State}
use Rattle.paper.specs.declared.Refusal.TheVariants.{MemoryLength, OutOfRange}
use Rattle.paper.specs.declared.Fifo.{Fifo}
use Rattle.paper.specs.declared.Fifo.TheVariants.{TxData, TxStatus, RxData, RxStatus}
use Rattle.paper.specs.Memory.{words_lent, Four, of, size, base, takes, ring_after, memory_after, waiting}
use Rattle.paper.specs.Refusals.{in_range}
use Rattle.paper.specs.Calls.{Call, is_reset, lends}
use Rattle.paper.specs.Acts.{Act, unchanged, refuses}
use Rattle.paper.specs.Machine.{World, waits, levels, decide, apply, act, step}
use Rattle.paper.specs.Promises.{told, told_of}
use Rattle.paper.proofs.Memory.{waiting_none, waiting_oldest}
use Rattle.paper.specs.Memory.{ring}
use Rattle.paper.proofs.Rings.{waits_of, apply_nothing}
use Rattle.paper.proofs.Fifos.{waits_count}
use Rattle.paper.proofs.KeepsRanges.{in_range_act}

abbrev pub world : State → List ℕ → World
world s m = record { state = s; memory = m }

abbrev pub with_control : Control → State → State
with_control k s = record { control = k; txdata = s.txdata; txstatus = s.txstatus; rxdata = s.rxdata; rxstatus = s.rxstatus }

abbrev pub counts : State → Four ℕ
counts s = record { txdata = s.txdata.count; txstatus = s.txstatus.count; rxdata = s.rxdata.count; rxstatus = s.rxstatus.count }

module _ (c : Call) (s : State) (m : List ℕ) where
  -- A call that does an act, lends no out buffer and sends nothing.
  pub told_act : (a : Act) → act c (world s m) ≡ a → a.sent ≡ [] → lends c ≡ []
      → told_of c s m ≡ told a.answer (apply a (world s m)).state (apply a (world s m)).memory
  unfolding step
  told_act a e none lent = rw (e, none, lent)

  -- Such an act that changes nothing leaves state and memory.
  pub told_still : (a : Act) → act c (world s m) ≡ a → a.sent ≡ [] → lends c ≡ [] → a.changes ≡ unchanged → a.control ≡ s.control
      → told_of c s m ≡ told a.answer s m
  told_still a e none lent same kept = told_act a e none lent ∙ ap (λ (w : World). told a.answer w.state w.memory) (apply_nothing a (world s m) same kept)

  -- Memory that is not 4,096 words: 14.
  pub told_short : (length m ≡ words_lent → ⊥) → lends c ≡ [] → told_of c s m ≡ told (Err MemoryLength) s m
  unfolding act
  told_short short lent = told_still (refuses MemoryLength s.control) (rw (ne_eqb (length m) words_lent short)) refl lent refl refl

  -- A state out of range: 15, but for reset.
  pub told_lost : length m ≡ words_lent → in_range s ≡ false → is_reset c ≡ false → lends c ≡ [] → told_of c s m ≡ told (Err OutOfRange) s m
  unfolding act
  told_lost long lost other lent = told_still (refuses OutOfRange s.control) (rw (eq-eqb (length m) words_lent long, lost, other)) refl lent refl refl

  module _ (long : length m ≡ words_lent) (range : in_range s ≡ true) (lent : lends c ≡ []) where
    -- What is decided, past the entry test, that changes nothing.
    pub told_same : (a : Act) → decide c s.control (waits (world s m)) ≡ a → a.sent ≡ [] → a.changes ≡ unchanged → a.control ≡ s.control
        → told_of c s m ≡ told a.answer s m
    told_same a e none same kept = told_still a (in_range_act c (world s m) long range ∙ e) none lent same kept

    -- What is decided, past the entry test, whatever it changes.
    pub told_decided : (a : Act) → decide c s.control (waits (world s m)) ≡ a → a.sent ≡ []
        → told_of c s m ≡ told a.answer (apply a (world s m)).state (apply a (world s m)).memory
    told_decided a e none = told_act a (in_range_act c (world s m) long range ∙ e) none lent

    -- What is decided, past the entry test, that changes the control state alone.
    pub told_control : (a : Act) → decide c s.control (waits (world s m)) ≡ a → a.sent ≡ [] → a.changes ≡ unchanged
        → told_of c s m ≡ told a.answer (with_control a.control s) m
    unfolding apply ring_after memory_after
    told_control a e none same = told_decided a e none ∙ (rw same)

-- The words waiting, as numbers, are the rings' counts.
pub levels_are : (s : State) (m : List ℕ) → levels (waits (world s m)) ≡ counts s
levels_are s m =
    let level = waits_count (world s m) in
    λ i. record { txdata = level TxData i; txstatus = level TxStatus i; rxdata = level RxData i; rxstatus = level RxStatus i }

-- A FIFO with no word has none waiting.
pub none_waits : (f : Fifo) (s : State) (m : List ℕ) → (ring f s).count ≡ 0 → of (waits (world s m)) f ≡ []
none_waits f s m e = waits_of f (world s m) ∙ waiting_none _ _ (ring f s) m e

-- One with words has its oldest word first: that at the ring's place.
pub oldest_waits : (f : Fifo) (s : State) (m : List ℕ) (k : ℕ) → (ring f s).count ≡ suc k → (ring f s).at < size f s.control.registers.n
    → of (waits (world s m)) f
    ≡ get_or m (base f s.control.registers.n + (ring f s).at) 0
    ∷ waiting (base f s.control.registers.n) (size f s.control.registers.n) (ring_after (size f s.control.registers.n) (takes 1) (ring f s)) m
oldest_waits f s m k e inside = waits_of f (world s m) ∙ waiting_oldest _ _ k (ring f s) m e inside
