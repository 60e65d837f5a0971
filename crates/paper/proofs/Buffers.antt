-- Buffers that grow at their end: what one more buffer, or one more payload word of the last one, means for sizes, for what a port accepts and for TX data.
--   sizes_of-snoc          the bytes of buffers with one more
--   run_then, run-snoc, ended_snoc    buffers that a port accepted, with one more behind them
--   kept_stored, kept_thrown    the stored words of a buffer after a word that is stored, and after one that is thrown away
--   laid_begins, laid_grows, laid_all-snoc, all_good_snoc    the words in TX data after a later A, after a payload word, after a whole packet
-- Assumes nothing.
use mathlib.Core.Path.{◌≡◌, refl, sym, ap, ◌∙◌}
use mathlib.Core.Bool.{Bool, true, false}
use mathlib.Core.List.{List, [], ◌∷◌, ◌++◌, append_assoc, append-nil}
use Prim.Native.Nat.{ℕ, ◌+◌}
use native.Mathlib.Nat.{add_assoc, add-zero, zero-add}
use native.Mathlib.Omega.{arith}
use lib.ListN.{length, length-append, length-drop, drop_of_length-le}
use lib.Seq.{take_all, take-nil, drop-nil, take-append-le, drop-append-le}
use Rattle.paper.specs.Transmission.{buffer_size, is_last, is_stored}
use Rattle.paper.specs.Ledger.{Written, Whole, kept_of, laid_later, laid_first, laid, laid_all}
use Rattle.paper.proofs.Kept.{sizes_of, Fine, Run, Ended, GoodWhole, AllGood, open_behind}
use Rattle.std.proofs.lemmas.Bool.Decides.{nat_tests}
use Rattle.paper.proofs.KeptRange.{laid_all-append}

-- The bytes of buffers, with one more behind them.
pub sizes_of-snoc : (xs : List Written) (x : Written) → sizes_of (xs ++ (x ∷ [])) ≡ sizes_of xs + buffer_size x.a
unfolding sizes_of
sizes_of-snoc [] x = omega arith
sizes_of-snoc (y ∷ xs) x = omega (arith, sizes_of-snoc xs x)

-- ---- what a port accepts

-- buffers of a kind R, of which the first may stand before others
module _ (R : (is_open : Bool) (b sizes : ℕ) → List Written → Type 0)
    (before : (is_open : Bool) (b sizes : ℕ) (x : Written) (xs : List Written)
    → Fine is_open b sizes x → is_last x.a ≡ false → R true b (sizes + buffer_size x.a) xs → R is_open b sizes (x ∷ xs)) where
  -- Accepted buffers of an open packet, with others behind them.
  open_then : {b sizes : ℕ} {xs : List Written} (ys : List Written) → Run true b sizes xs → R true b (sizes + sizes_of xs) ys → R true b sizes (xs ++ ys)
  unfolding sizes_of
  open_then ys Run.none r = rw add-zero at r
  open_then ys (Run.more f l run) r = before _ _ _ _ _ f l (open_then ys run (rw add_assoc r))

  -- Accepted buffers from a packet's first on, with others behind them.
  pub run_then : {b : ℕ} {xs : List Written} (ys : List Written) → Run false b 0 xs → R (open_behind xs) b (sizes_of xs) ys → R false b 0 (xs ++ ys)
  unfolding sizes_of
  run_then ys Run.none r = r
  run_then ys (Run.more f l run) r = before _ _ _ _ _ f l (open_then ys run (rw zero-add r))

-- Accepted buffers, with one more that is not Last.
pub run-snoc : {b : ℕ} {xs : List Written} {x : Written}
    → Run false b 0 xs → Fine (open_behind xs) b (sizes_of xs) x → is_last x.a ≡ false → Run false b 0 (xs ++ (x ∷ []))
run-snoc {x = x} run f l = run_then Run (λ o b s y ys. Run.more) (x ∷ []) run (Run.more f l Run.none)

-- Accepted buffers, with the Last one.
pub ended_snoc : {b : ℕ} {xs : List Written} {x : Written}
    → Run false b 0 xs → Fine (open_behind xs) b (sizes_of xs) x → is_last x.a ≡ true → Ended false b 0 (xs ++ (x ∷ []))
ended_snoc {x = x} run f l = run_then Ended (λ o b s y ys. Ended.more) (x ∷ []) run (Ended.last f l)

-- With one more buffer a packet is open.
pub open_snoc : (xs : List Written) (x : Written) → open_behind (xs ++ (x ∷ [])) ≡ true
open_snoc [] x = refl
open_snoc (y ∷ xs) x = refl

-- ---- the words of a buffer that are stored

-- no word, none stored
pub kept_none : (a : ℕ) → kept_of a [] ≡ []
kept_none a = rw (drop-nil, take-nil)

-- A payload word that is stored goes behind those stored.
pub kept_stored : (a : ℕ) (words : List ℕ) (w : ℕ) → is_stored a (length words) ≡ true → kept_of a (words ++ (w ∷ [])) ≡ kept_of a words ++ (w ∷ [])
kept_stored a words w e = grind (arith, nat_tests, drop-append-le, take_all, length-drop, length-append)

-- A payload word that is thrown away changes nothing.
pub kept_thrown : (a : ℕ) (words : List ℕ) (w : ℕ) → is_stored a (length words) ≡ false → kept_of a (words ++ (w ∷ [])) ≡ kept_of a words
kept_thrown a words w e = grind (arith, nat_tests, drop-append-le, take-append-le, drop_of_length-le, length-drop, length-append)

-- ---- the words in TX data

-- The words of later buffers, with one more behind them.
laid_later-snoc : (xs : List Written) (x : Written) → laid_later (xs ++ (x ∷ [])) ≡ laid_later xs ++ (x.a ∷ kept_of x.a x.words)
unfolding laid_later
laid_later-snoc [] x = rw append-nil
laid_later-snoc (y ∷ xs) x = rw (laid_later-snoc xs x, append_assoc)

-- The words of a packet after a First A and its B.
pub laid_first_lem : (b a : ℕ) → laid_first b (record { a = a; words = [] } ∷ []) ≡ a ∷ b ∷ []
unfolding laid_first laid_later
laid_first_lem b a = rw (kept_none a)

-- The words of a packet with one more buffer, where there were some.
laid_first-snoc : (b : ℕ) (xs : List Written) (x : Written) → open_behind xs ≡ true
    → laid_first b (xs ++ (x ∷ [])) ≡ laid_first b xs ++ (x.a ∷ kept_of x.a x.words)
unfolding laid_first
laid_first-snoc b [] x o = cc
laid_first-snoc b (y ∷ xs) x o = rw (laid_later-snoc xs x, append_assoc)

-- The words of a packet after a later A.
pub laid_begins : (b : ℕ) (xs : List Written) (a : ℕ) → open_behind xs ≡ true
    → laid_first b (xs ++ (record { a = a; words = [] } ∷ [])) ≡ laid_first b xs ++ (a ∷ [])
laid_begins b xs a o = rw (laid_first-snoc b xs _ o, kept_none a)

-- The words of a packet after one more payload word, stored or not.
pub laid_grows : (b : ℕ) (xs : List Written) (a : ℕ) (words words' new : List ℕ) → kept_of a words' ≡ kept_of a words ++ new
    → laid_first b (xs ++ (record { a = a; words = words' } ∷ [])) ≡ laid_first b (xs ++ (record { a = a; words = words } ∷ [])) ++ new
unfolding laid_first laid_later
laid_grows b [] a words words' new e = ap (λ s. a ∷ b ∷ s) (append-nil _ ∙ e ∙ ap (λ s. s ++ new) (sym (append-nil (kept_of a words))))
laid_grows b (x ∷ xs) a words words' new e =
    cc (
      laid_first-snoc b (x ∷ xs) (record { a = a; words = words' }) refl,
      laid_first-snoc b (x ∷ xs) (record { a = a; words = words }) refl,
      append_assoc (laid_first b (x ∷ xs)) (a ∷ kept_of a words) new,
    )

-- The words of packets, with one more behind them.
pub laid_all-snoc : (ps : List Whole) (p : Whole) → laid_all (ps ++ (p ∷ [])) ≡ laid_all ps ++ laid p
unfolding laid_all
laid_all-snoc ps p = rw (laid_all-append ps (p ∷ []), append-nil (laid p))

-- Good packets, with one more good one behind them.
pub all_good_snoc : (ps : List Whole) (p : Whole) → AllGood ps → GoodWhole p → AllGood (ps ++ (p ∷ []))
unfolding AllGood
all_good_snoc [] p h g = (g, tt)
all_good_snoc (q ∷ ps) p h g = (h.0, all_good_snoc ps p h.1 g)
