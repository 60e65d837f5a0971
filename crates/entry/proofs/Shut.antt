-- What the test of entry says to the calls behind it.
--   told_shut             what a call's contract comes to where it did not pass: the refusal, with state and memory as they were
--   told_entered          and of a call made behind the test, where it did not pass and where it did
-- Assumes nothing.
use Rattle.std.specs.Prelude.{if◌then◌else◌, Option, Some, None, Err}
use mathlib.Core.Path.{◌≡◌, refl, sym}
use mathlib.Core.Bool.{Bool, true, false, not}
use mathlib.Core.List.{List, []}
use Prim.Native.Nat.{ℕ}
use lib.Dec.{eqb}
use lib.ListN.{length}
use borrow.Author.Tests.{eqb-true, eqb-false}
use Rattle.paper.specs.declared.State.{State}
use Rattle.paper.specs.declared.Reply.{Reply}
use Rattle.paper.specs.declared.Refusal.{Refusal}
use Rattle.paper.specs.declared.Refusal.TheVariants.{MemoryLength, OutOfRange}
use Rattle.paper.specs.Memory.{words_lent}
use Rattle.paper.specs.Refusals.{in_range}
use Rattle.paper.specs.Calls.{Call, is_reset, lends}
use Rattle.paper.specs.Promises.{told, told_of}
use Rattle.paper.proofs.Contracts.{told_short, told_lost}
use Rattle.entry.specs.Entry.{entry_of}

-- the test, by what its two parts say
abbrev answers : (long range : Bool) → Option Refusal
answers long range = if not long then Some MemoryLength else if not range then Some OutOfRange else None

-- A call that did not pass is refused so, and changes nothing.
pub told_shut : (c : Call) (s : State) (m : List ℕ) (k : Refusal) → is_reset c ≡ false → lends c ≡ [] → entry_of s (length m) ≡ Some k
    → told_of c s m ≡ told (Err k) s m
told_shut c s m k other lent e = by_cases (eqb (length m) words_lent) refl (in_range s) refl e
  where
    by_cases : (long : Bool) → eqb (length m) words_lent ≡ long → (range : Bool) → in_range s ≡ range → answers long range ≡ Some k
        → told_of c s m ≡ told (Err k) s m
    by_cases false l range r f = let same : MemoryLength ≡ k = cc in rw (← same) (told_short c s m (eqb-false _ _ l) lent)
    by_cases true l false r f = let same : OutOfRange ≡ k = cc in rw (← same) (told_lost c s m (eqb-true _ _ l) r other lent)
    by_cases true l true r f = cc

-- A call made behind the test: refused so where the test refuses, and where it is passed what the call behind it is told.
pub told_entered : (c : Call) (s : State) (m : List ℕ) (r : Reply ℕ) → is_reset c ≡ false → lends c ≡ []
    → ((k : Refusal) → entry_of s (length m) ≡ Some k → r ≡ record { answer = Err k; state = s })
    → (entry_of s (length m) ≡ None → length m ≡ words_lent → told r.answer r.state m ≡ told_of c s m)
    → told r.answer r.state m ≡ told_of c s m
told_entered c s m r other lent shut clear = by_cases (entry_of s (length m)) refl
  where
    long : (l range : Bool) → eqb (length m) words_lent ≡ l → in_range s ≡ range → answers l range ≡ None → length m ≡ words_lent
    long false range e f n = cc
    long true range e f n = eqb-true _ _ e

    by_cases : (x : Option Refusal) → entry_of s (length m) ≡ x → told r.answer r.state m ≡ told_of c s m
    by_cases (Some k) e = rw (shut k e) (sym (told_shut c s m k other lent e))
    by_cases None e = clear e (long (eqb (length m) words_lent) (in_range s) refl refl e)
