-- Lists of bits and their numbers (specs/Checksum of `paper`).
--   worth b                        a bit as a number, 0 or 1
--   number_of-cons                 the number of a list, its first bit split off
--   number_of_half, number_of_odd  its half is the number of the rest, its lowest bit the first
--   number_of-plus, number_of_not  of a sum; of a complement
--   number_of-bits_of              the number of the k low bits of v is v % 2^k
--   bits_of-length                 they are k
--   bits_of-number_of              the k low bits of a list's number are its first k
--   number_of_six                  the number of six bits turned round
-- Assumes nothing.
use Rattle.std.specs.Prelude.{if◌then◌else◌}
use mathlib.Core.Path.{◌≡◌, refl, sym, ap, ◌∙◌}
use mathlib.Core.Bool.{Bool, true, false, not, xor}
use mathlib.Core.List.{List, [], ◌∷◌, map, reverse, reverse_aux}
use Prim.Native.Nat.{ℕ, zero, suc, ◌+◌, ◌*◌, ◌/◌, ◌%◌, ◌^◌, ◌≤◌, ◌<◌}
use native.Mathlib.Nat.{mod-one, pow-suc, add_comm, le_of_suc-le-suc, not-suc-le-zero}
use native.Mathlib.Numerals.{add-one}
use native.Mathlib.Omega.{arith}
use lib.Arith.{digits_div}
use lib.Bits.{bit_xor, xor_zero_l, xor_zero_r, xor_block}
use Rattle.std.specs.Int.{w32, reverse_bits, reverse_bits_onto}
use lib.Dec.{eqb}
use lib.ListN.{length, take}
use lib.Pow.{mod-pow-add, shr-shr}
use Rattle.paper.specs.Checksum.{plus, bits_of, number_of}

-- A bit as a number, as `number_of` counts it.
abbrev pub worth : Bool → ℕ
worth b = if b then 1 else 0

-- It is a digit.
pub worth_lt : (b : Bool) → worth b < 2
worth_lt true = omega arith
worth_lt false = omega arith

-- The lowest bit of x is worth x % 2.
worth_lowest : (x : ℕ) → worth (eqb (x % 2) 1) ≡ x % 2
worth_lowest x = digit (x % 2) (omega arith)
  where
    digit : (d : ℕ) → d < 2 → worth (eqb d 1) ≡ d
    digit zero h = refl
    digit (suc zero) h = refl
    digit (suc (suc d)) h = omega arith

-- A bit is that of its number.
bit_worth : (b : Bool) → eqb (worth b) 1 ≡ b
bit_worth true = refl
bit_worth false = refl

-- The sum of two bits.
pub worth_xor : (a b : Bool) → worth (xor a b) ≡ bit_xor (worth a) (worth b)
unfolding xor
worth_xor true true = refl
worth_xor true false = refl
worth_xor false true = refl
worth_xor false false = refl

-- The number of a list, its first bit split off.
pub number_of-cons : (b : Bool) (bs : List Bool) → number_of (b ∷ bs) ≡ number_of bs * 2 + worth b
unfolding number_of
number_of-cons b bs = add_comm (worth b) (number_of bs * 2)

-- No bits are 0.
pub number_of-nil : number_of [] ≡ 0
unfolding number_of
number_of-nil = refl

-- The half of a list's number is the number of the rest.
pub number_of_half : (b : Bool) (bs : List Bool) → number_of (b ∷ bs) / 2 ≡ number_of bs
number_of_half b bs = omega (arith, number_of-cons b bs, worth_lt b)

-- Its lowest bit is the first.
pub number_of_odd : (b : Bool) (bs : List Bool) → number_of (b ∷ bs) % 2 ≡ worth b
number_of_odd b bs = omega (arith, number_of-cons b bs, worth_lt b)

-- The number of a sum of polynomials is the sum of their numbers.
pub number_of-plus : (a b : List Bool) → number_of (plus a b) ≡ bit_xor (number_of a) (number_of b)
unfolding plus
number_of-plus [] q = cc (number_of-nil, xor_zero_l (number_of q))
number_of-plus (a ∷ p) [] = cc (number_of-nil, xor_zero_r (number_of (a ∷ p)))
number_of-plus (a ∷ p) (b ∷ q) = cc (
  number_of-cons (xor a b) (plus p q),
  number_of-plus p q,
  worth_xor a b,
  number_of-cons a p,
  number_of-cons b q,
  xor_block 1 (number_of p) (number_of q) (worth a) (worth b) (worth_lt a) (worth_lt b),
)

-- A number and that of its bits' complement make all ones.
pub number_of_not : (bs : List Bool) → number_of bs + number_of (map not bs) + 1 ≡ 2 ^ length bs
unfolding number_of
number_of_not [] = refl
number_of_not (true ∷ bs) = omega (arith, number_of_not bs, pow-suc 2 (length bs))
number_of_not (false ∷ bs) = omega (arith, number_of_not bs, pow-suc 2 (length bs))

-- The number of the k low bits of v.
pub number_of-bits_of : (k v : ℕ) → number_of (bits_of k v) ≡ v % 2 ^ k
unfolding bits_of
number_of-bits_of zero v = number_of-nil ∙ sym (mod-one v)
number_of-bits_of (suc k) v = cc (
  number_of-cons (eqb (v % 2) 1) (bits_of k (v / 2)),
  number_of-bits_of k (v / 2),
  worth_lowest v,
  mod-pow-add v k 1,
  add-one k,
)

-- The k low bits are k.
pub bits_of-length : (k v : ℕ) → length (bits_of k v) ≡ k
unfolding bits_of
bits_of-length zero v = refl
bits_of-length (suc k) v = ap suc (bits_of-length k (v / 2))

-- The k low bits of a list's number are its first k.
pub bits_of-number_of : (k : ℕ) (l : List Bool) → k ≤ length l → bits_of k (number_of l) ≡ take k l
unfolding bits_of
bits_of-number_of zero l h = refl
bits_of-number_of (suc k) [] h = absurd (not-suc-le-zero h)
bits_of-number_of (suc k) (b ∷ l) h = cc (
  number_of_odd b l,
  number_of_half b l,
  bit_worth b,
  bits_of-number_of k l (le_of_suc-le-suc h),
)

-- The k low bits of n, turned round onto others.
reversed_onto : (k n : ℕ) (bs : List Bool) → reverse_bits_onto k n (number_of bs) ≡ number_of (reverse_aux (bits_of k n) bs)
unfolding reverse_bits_onto bits_of
reversed_onto zero n bs = refl
reversed_onto (suc k) n bs = cc (reversed_onto k (n / 2) (eqb (n % 2) 1 ∷ bs), number_of-cons (eqb (n % 2) 1) bs, worth_lowest n)

-- Behind them, the first are shifted out again.
reversed_shr : (k n a : ℕ) → reverse_bits_onto k n a / 2 ^ k ≡ a
unfolding reverse_bits_onto
reversed_shr zero n a = grind arith
reversed_shr (suc k) n a = cc (
  reversed_shr k (n / 2) (a * 2 + n % 2),
  shr-shr (reverse_bits_onto k (n / 2) (a * 2 + n % 2)) k 1,
  add-one k,
  digits_div a {m = 2} {r = n % 2} (omega arith),
)

-- Of 32 bits turned round, the six high ones are the six low ones turned round.
pub number_of_six : (x : ℕ) → reverse_bits w32 x / 2 ^ 26 ≡ number_of (reverse (bits_of 6 x))
unfolding reverse_bits_onto number_of
number_of_six x = reversed_shr 26 (x / 2 / 2 / 2 / 2 / 2 / 2) (reverse_bits_onto 6 x 0) ∙ reversed_onto 6 x []
