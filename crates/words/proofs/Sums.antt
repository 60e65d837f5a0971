-- Fields of a word put together from the highest down: each lies in bits that those above it leave clear, so the or of them is their sum.
--   Sums k y z                y, put together by ors, is the sum z, whose bits below k are clear
--   lowest, shifted, is_mark  a field as it stands, one of w bits shifted to place k, and a mark
--   under, mark_under         a field, or a mark, under those above it
-- Places and widths are numerals where these are cited, so that the tests of them compute: `tt` proves each.
-- Assumes nothing.
use mathlib.Core.Path.{◌≡◌, ◌∙◌, refl, ap, sym}
use mathlib.Core.Bool.{Bool, true, false}
use Prim.Native.Nat.{ℕ, ◌+◌, ◌-◌, ◌*◌, ◌%◌, ◌^◌, ◌<◌, ◌≤◌}
use native.Mathlib.Nat.{one-mul, zero-mul, mul-one, add-mul, mul_assoc}
use native.Mathlib.Omega.{arith}
use lib.Bits.{bit_or, or_shifted}
use lib.Dec.{T, leb, leb→le}
use lib.Pow.{pow-add, pow_pos, shl_exact}
use Rattle.std.proofs.lemmas.Nat.{pow_below}
use Rattle.paper.specs.Words.{mark}

pub record Sums (k y z : ℕ) : Type 0 where
  pub sum : y ≡ z
  pub top : ℕ
  pub clear : z ≡ top * 2 ^ k

-- A field as it stands.
pub lowest : (x : ℕ) → Sums 0 x x
lowest x = record { sum = refl; top = x; clear = sym (mul-one x) }

-- A field of w bits, shifted to place k.
pub shifted : (k w x : ℕ) → T (leb (w + k) 32) → x < 2 ^ w → Sums k (x * 2 ^ k % 2 ^ 32) (x * 2 ^ k)
shifted k w x fits h = record { sum = shl_exact w k 32 h (leb→le (w + k) 32 fits); top = x; clear = refl }

-- A mark.
pub is_mark : (k : ℕ) (b : Bool) {x : ℕ} → x ≡ mark k b → Sums k x (mark k b)
is_mark k true e = record { sum = e; top = 1; clear = sym (one-mul (2 ^ k)) }
is_mark k false e = record { sum = e; top = 0; clear = sym (zero-mul (2 ^ k)) }

-- A field under those above it.
pub under : {j k y z x u : ℕ} → Sums j y z → Sums k x u → u < 2 ^ j → k ≤ j → Sums k (bit_or y x) (z + u)
under {j} {k} {u = u} s f small lies =
    let split : 2 ^ j ≡ 2 ^ (j - k) * 2 ^ k = ap (λ i. 2 ^ i) (omega arith) ∙ pow-add 2 (j - k) k in
    record {
      sum = rw (s.sum, f.sum, s.clear) (or_shifted s.top j u small);
      top = s.top * 2 ^ (j - k) + f.top;
      clear = rw (s.clear, f.clear, split) (simp (add-mul, mul_assoc));
    }

-- A mark is below the bit above it.
mark_small : (k j : ℕ) (b : Bool) → 1 + k ≤ j → mark k b < 2 ^ j
mark_small k j true h = pow_below k j (omega arith)
mark_small k j false h = pow_pos j

-- A mark under those above it.
pub mark_under : {j y z : ℕ} (k : ℕ) (b : Bool) {x : ℕ} → x ≡ mark k b → T (leb (1 + k) j) → Sums j y z → Sums k (bit_or y x) (z + mark k b)
mark_under {j} k b e lies s =
    let below = leb→le (1 + k) j lies in
    under s (is_mark k b e) (mark_small k j b below) (omega arith)
