-- The laws of the vocabulary: a series, the bytes of words, and the test that two lists are equal.
--   series-length, series-append, series-drop, series-get_or    a series' length, its two parts, what a drop leaves, its elements
--   series_agree, series_lists    two series are equal where their values are; a series that reads a list's elements is the list
--   bytes_of-length               four bytes a word
--   same_refl, same_true          the test `same` is equality
-- Assumes nothing.
use mathlib.Core.Path.{◌≡◌, refl, ap}
use mathlib.Core.Bool.{true}
use mathlib.Core.List.{List, [], ◌∷◌, ◌++◌}
use Prim.Native.Nat.{ℕ, zero, suc, ◌+◌, ◌-◌, ◌*◌, ◌≤◌, ◌<◌}
use native.Mathlib.Nat.{zero-add, add-zero, suc-add}
use native.Mathlib.Omega.{arith}
use lib.ListN.{length, get_or, drop}
use Rattle.paper.specs.Words.{series, bytes_of, same}
use Rattle.std.proofs.lemmas.List.{same_lists, ext_get_or}
use Rattle.std.proofs.lemmas.Bool.Decides.{nat_tests}

-- a series of n values has length n
pub series-length : {A : Type 0} (f : ℕ → A) (k n : ℕ) → length (series f k n) ≡ n
unfolding series
series-length f k zero = refl
series-length f k (suc n) = ap suc (series-length f (suc k) n)

-- a series of m + n values: the first m, then n more
pub series-append : {A : Type 0} (f : ℕ → A) (k m n : ℕ) → series f k (m + n) ≡ series f k m ++ series f (k + m) n
unfolding series
series-append f k zero n = rw (zero-add, add-zero)
series-append f k (suc m) n = rw (suc-add m n) (grind (arith, series-append f (suc k) m n))

-- a series without its first j values
pub series-drop : {A : Type 0} (f : ℕ → A) (k j n : ℕ) → j ≤ n → drop j (series f k n) ≡ series f (k + j) (n - j)
unfolding series
series-drop f k zero n h = grind arith
series-drop f k (suc j) zero h = grind arith
series-drop f k (suc j) (suc n) h = grind (arith, series-drop f (suc k) j n)

-- element i of a series
pub series-get_or : {A : Type 0} (f : ℕ → A) (k n i : ℕ) (d : A) → i < n → get_or (series f k n) i d ≡ f (k + i)
unfolding series
series-get_or f k zero i d h = grind arith
series-get_or f k (suc n) zero d h = grind arith
series-get_or f k (suc n) (suc i) d h = grind (arith, series-get_or f (suc k) n i d)

-- two series, from one start or from two, are equal if their values are
pub series_agree : {A : Type 0} (f g : ℕ → A) (k j n : ℕ) → ((i : ℕ) → i < n → f (k + i) ≡ g (j + i)) → series f k n ≡ series g j n
series_agree f g k j n h =
    same_lists _ _ (cc (series-length f k n, series-length g j n)) λ i d l.
    grind (arith, series-length f k n, series-get_or f k n i d, series-get_or g j n i d, h i)

-- a series that reads the elements of a list is the list
pub series_lists : {A : Type 0} (f : ℕ → A) (k : ℕ) (xs : List A) (d : A)
    → ((i : ℕ) → i < length xs → f (k + i) ≡ get_or xs i d) → series f k (length xs) ≡ xs
series_lists f k xs d h =
    ext_get_or d _ _ (series-length f k (length xs)) λ i l.
    grind (arith, series-length f k (length xs), series-get_or f k (length xs) i d, h i)

-- a word is four bytes
pub bytes_of-length : (ws : List ℕ) → length (bytes_of ws) ≡ 4 * length ws
unfolding bytes_of
bytes_of-length [] = refl
bytes_of-length (w ∷ ws) = omega (arith, bytes_of-length ws)

-- a list is the same as itself
pub same_refl : (s : List ℕ) → same s s ≡ true
unfolding same
same_refl [] = refl
same_refl (a ∷ s) = grind (arith, nat_tests, same_refl s)

-- lists that test as the same are equal
pub same_true : (s t : List ℕ) → same s t ≡ true → s ≡ t
unfolding same
same_true [] [] e = refl
same_true [] (b ∷ t) e = cc
same_true (a ∷ s) [] e = cc
same_true (a ∷ s) (b ∷ t) e = grind (arith, nat_tests, same_true s t)
