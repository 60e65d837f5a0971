-- Masks: a word and a mask are the bits of the word that the mask has.
--   mask_gathers    below bit k, v and a mask are the bits of v that the mask's bits number
--   mask_only       v keeps all its bits under a mask exactly where it has no other bit set
-- Assumes nothing.
use mathlib.Core.Path.{◌≡◌, refl, sym, ap, ap₂, ◌∙◌}
use Prim.Native.Nat.{ℕ, zero, suc, ◌+◌, ◌*◌, ◌%◌, ◌^◌, ◌<◌}
use native.Mathlib.Nat.{mod-lt, mod-one, mod-eq_of_lt, zero-mul, zero-add}
use native.Mathlib.Omega.{arith}
use lib.Bits.{bit_and, and_block, and_mask, and_zero_r}
use lib.Dec.{eqb}
use lib.Pow.{pow_pos}
use Rattle.std.proofs.lemmas.Nat.{mod-pow-add}
use borrow.Author.Tests.{eqb-true, eqb-false}
use Rattle.std.proofs.lemmas.Bool.{cond_both}
use Rattle.paper.specs.Words.{bit, digit, gathered, only_bits}
use Rattle.words.specs.Masks.{bits_below}

-- Digit k apart from what is below it.
top_digit : (k n : ℕ) → n % 2 ^ suc k ≡ digit k n * 2 ^ k + n % 2 ^ k
top_digit k n = ap (λ i. n % 2 ^ i) (omega arith) ∙ mod-pow-add n 1 k

-- Below bit k, a word and a mask are the bits of the word that the mask's bits number.
mask_gathers : (k m v : ℕ) → bit_and (v % 2 ^ k) (m % 2 ^ k) ≡ gathered (bits_below k m) v
unfolding gathered bits_below
mask_gathers zero m v = rw (mod-one m) (and_zero_r (v % 1))
mask_gathers (suc k) m v =
    let rest = mask_gathers k m v in
    let small = pow_pos k in
    let low : digit k v % 2 ≡ digit k v = omega arith in
    rw (top_digit k v, top_digit k m, and_block k (digit k v) (digit k m) (v % 2 ^ k) (m % 2 ^ k) (mod-lt v small) (mod-lt m small), rest)
    (cond_both (bit k m) _ _ (λ is. bit_and (digit k v) (digit k m) * 2 ^ k + gathered (bits_below k m) v ≡ gathered is v)
    (λ h. rw (eqb-true (digit k m) 1 h, and_mask (digit k v) 1, low) refl)
    (λ h. let none : digit k m ≡ 0 = omega (arith, eqb-false (digit k m) 1 h) in rw (none, and_zero_r (digit k v), zero-mul (2 ^ k), zero-add) refl))

-- A word keeps all its bits under a mask exactly where it has no other bit set.
pub mask_only : (m v : ℕ) → m < 2 ^ 32 → v < 2 ^ 32 → eqb v (bit_and v m) ≡ only_bits (bits_below 32 m) v
mask_only m v h k = ap (eqb v) (ap₂ bit_and (sym (mod-eq_of_lt k)) (sym (mod-eq_of_lt h)) ∙ mask_gathers 32 m v)
