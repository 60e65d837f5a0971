-- Laws of `bit_xor`, the sum of two polynomials as numbers, that lib.Bits lacks.
--   xor_swap    of four terms the inner two may change places
--   xor_split   a number is the sum of its high and its low part
--   xor_join    a number above the low part of another is added to it
-- Assumes nothing.
use mathlib.Core.Path.{◌≡◌, sym, ◌∙◌}
use Prim.Native.Nat.{ℕ, ◌+◌, ◌*◌, ◌/◌, ◌%◌, ◌^◌, ◌<◌}
use native.Mathlib.Nat.{mod-lt, add_comm}
use lib.Pow.{pow_pos, split}
use lib.Bits.{bit_xor, xor_comm, xor_assoc, xor_shifted}

pub xor_swap : (a b c d : ℕ) → bit_xor (bit_xor a b) (bit_xor c d) ≡ bit_xor (bit_xor a c) (bit_xor b d)
xor_swap a b c d = cc (
  xor_assoc a b (bit_xor c d),
  xor_assoc b c d,
  xor_comm b c,
  xor_assoc c b d,
  xor_assoc a c (bit_xor b d),
)

pub xor_split : (x k : ℕ) → bit_xor (x / 2 ^ k * 2 ^ k) (x % 2 ^ k) ≡ x
xor_split x k = xor_shifted (x / 2 ^ k) k (x % 2 ^ k) (mod-lt x (pow_pos k)) ∙ split x k

pub xor_join : (a b k : ℕ) → a < 2 ^ k → a + b * 2 ^ k ≡ bit_xor a (b * 2 ^ k)
xor_join a b k h = add_comm a (b * 2 ^ k) ∙ sym (xor_shifted b k a h) ∙ xor_comm (b * 2 ^ k) a
