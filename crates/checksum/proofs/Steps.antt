-- The steps of the register as a number, for any generator p. A step is linear, which is what every table rests on.
--   steps_xor     the steps of a sum are the sum of the steps
--   steps_shift   zeros at the low end fall out
--   steps_add     n bits on and then k bits on
--   peel          the c low bits go by themselves: what a table holds, and the rest
--   join          a message of n bits and k bits more: added at once, or one after the other
-- Assumes nothing.
use mathlib.Core.Path.{◌≡◌, refl, ap, ◌∙◌}
use Prim.Native.Nat.{ℕ, zero, suc, ◌+◌, ◌*◌, ◌/◌, ◌%◌, ◌^◌, ◌<◌}
use native.Mathlib.Nat.{pow-suc, mul_assoc, suc-add}
use native.Mathlib.Omega.{arith}
use lib.Bits.{bit_xor, xor_comm, xor_assoc, xor_zero_r, xor_self, xor_shr, xor_mod}
use Rattle.checksum.specs.Register.{step, steps}
use Rattle.checksum.proofs.Xor.{xor_swap, xor_split, xor_join}

-- A sum of digits times p is the sum of p so many times.
digit_mul : (p x y : ℕ) → x < 2 → y < 2 → bit_xor x y * p ≡ bit_xor (x * p) (y * p)
digit_mul p zero y hx hy = grind arith
digit_mul p (suc zero) zero hx hy = grind (arith, xor_zero_r)
digit_mul p (suc zero) (suc zero) hx hy = grind (arith, xor_self)
digit_mul p (suc zero) (suc (suc y)) hx hy = omega arith
digit_mul p (suc (suc x)) y hx hy = omega arith

-- A step is linear.
pub step_xor : (p a b : ℕ) → step p (bit_xor a b) ≡ bit_xor (step p a) (step p b)
unfolding step
step_xor p a b = cc (
  xor_shr a b 1,
  xor_mod a b 1,
  digit_mul p (a % 2) (b % 2) (omega arith) (omega arith),
  xor_swap (a / 2) (b / 2) (a % 2 * p) (b % 2 * p),
)

-- Any number of steps is linear.
pub steps_xor : (p n a b : ℕ) → steps p n (bit_xor a b) ≡ bit_xor (steps p n a) (steps p n b)
unfolding steps
steps_xor p zero a b = refl
steps_xor p (suc n) a b = ap (steps p n) (step_xor p a b) ∙ steps_xor p n (step p a) (step p b)

-- The step of an even number is its half.
pub step_even : (p m : ℕ) → step p (m * 2) ≡ m
unfolding step
step_even p m = grind (arith, xor_zero_r)

-- n zeros at the low end fall out in n steps.
pub steps_shift : (p n k m : ℕ) → steps p (n + k) (m * 2 ^ n) ≡ steps p k m
unfolding steps
steps_shift p zero k m = grind arith
steps_shift p (suc n) k m = cc (suc-add n k, pow-suc 2 n, mul_assoc m (2 ^ n) 2, step_even p (m * 2 ^ n), steps_shift p n k m)

-- n + k steps are n steps and then k.
pub steps_add : (p n k x : ℕ) → steps p (n + k) x ≡ steps p k (steps p n x)
unfolding steps
steps_add p zero k x = grind arith
steps_add p (suc n) k x = cc (suc-add n k, steps_add p n k (step p x))

-- The c low bits of x go by themselves, and the rest of x starts c steps later.
pub peel : (p c k x : ℕ) → steps p (c + k) x ≡ bit_xor (steps p (c + k) (x % 2 ^ c)) (steps p k (x / 2 ^ c))
peel p c k x = cc (
  xor_split x c,
  steps_xor p (c + k) (x / 2 ^ c * 2 ^ c) (x % 2 ^ c),
  steps_shift p c k (x / 2 ^ c),
  xor_comm (steps p k (x / 2 ^ c)) (steps p (c + k) (x % 2 ^ c)),
)

-- n bits a and k bits b behind them, added to the register r at once, or one after the other.
pub join : (p n k r a b : ℕ) → a < 2 ^ n → steps p (n + k) (bit_xor r (a + b * 2 ^ n)) ≡ steps p k (bit_xor (steps p n (bit_xor r a)) b)
join p n k r a b h = cc (
  xor_join a b n h,
  xor_assoc r a (b * 2 ^ n),
  steps_xor p (n + k) (bit_xor r a) (b * 2 ^ n),
  steps_add p n k (bit_xor r a),
  steps_shift p n k b,
  steps_xor p k (steps p n (bit_xor r a)) b,
)
