-- The table, and what is put together from its entries, for any generator p.
--   nibbles_at    an entry
--   two_nibbles, one_byte, four_bytes    eight bits, a register eight bits on, a register of 32 bits that goes all out
-- Assumes nothing.
use mathlib.Core.Path.{◌≡◌, sym}
use Prim.Native.Nat.{ℕ, ◌+◌, ◌*◌, ◌/◌, ◌%◌, ◌^◌, ◌<◌}
use native.Mathlib.Nat.{zero-add}
use native.Mathlib.Omega.{arith}
use lib.Arith.{digits_div, digits_mod}
use lib.Bits.{bit_xor, xor_assoc}
use lib.ListN.{get_or}
use lib.Pow.{field}
use Rattle.paper.proofs.Words.{series-get_or}
use Rattle.checksum.specs.Register.{steps}
use Rattle.checksum.specs.Table.{entry, nibbles}
use Rattle.checksum.proofs.Steps.{peel}

-- Entry n of row e.
pub nibbles_at : (p e n : ℕ) → e < 16 → n < 16 → get_or (nibbles p) (e * 16 + n) 0 ≡ steps p ((e + 1) * 4) n
unfolding nibbles entry
nibbles_at p e n he hn = cc (
  series-get_or (entry p) 0 256 (e * 16 + n) 0 (omega arith),
  zero-add (e * 16 + n),
  digits_div e hn,
  digits_mod e hn,
)

-- Eight bits are two entries.
pub two_nibbles : (p e x : ℕ) → bit_xor (steps p ((e + 1 + 1) * 4) (x % 16)) (steps p ((e + 1) * 4) (x / 16 % 16)) ≡ steps p ((e + 2) * 4) (x % 256)
two_nibbles p e x =
    let low : x % 256 % 16 ≡ x % 16 = omega arith in
    let high : x % 256 / 16 ≡ x / 16 % 16 = field x 4 4 in
    let all : 4 + (e + 1) * 4 ≡ (e + 2) * 4 = omega arith in
    let one : (e + 1 + 1) * 4 ≡ (e + 2) * 4 = omega arith in
    cc (peel p 4 ((e + 1) * 4) (x % 256))

-- A register eight bits on.
pub one_byte : (p x : ℕ) → bit_xor (steps p 8 (x % 256)) (x / 256) ≡ steps p 8 x
unfolding steps
one_byte p x = sym (peel p 8 0 x)

-- A register of 32 bits goes all out, a byte at a time.
pub four_bytes : (p e x : ℕ) → x < 2 ^ 32
    → bit_xor (bit_xor (bit_xor (steps p ((e + 6 + 2) * 4) (x % 256)) (steps p ((e + 4 + 2) * 4) (x / 256 % 256)))
    (steps p ((e + 2 + 2) * 4) (x / 65536 % 256))) (steps p ((e + 2) * 4) (x / 16777216 % 256)) ≡ steps p ((e + 8) * 4) x
four_bytes p e x h =
    let a = peel p 8 ((e + 6) * 4) x in
    let b = peel p 8 ((e + 4) * 4) (x / 256) in
    let c = peel p 8 ((e + 2) * 4) (x / 65536) in
    let n8 : 8 + (e + 6) * 4 ≡ (e + 8) * 4 = omega arith in
    let m8 : (e + 6 + 2) * 4 ≡ (e + 8) * 4 = omega arith in
    let n6 : 8 + (e + 4) * 4 ≡ (e + 6) * 4 = omega arith in
    let m6 : (e + 4 + 2) * 4 ≡ (e + 6) * 4 = omega arith in
    let n4 : 8 + (e + 2) * 4 ≡ (e + 4) * 4 = omega arith in
    let m4 : (e + 2 + 2) * 4 ≡ (e + 4) * 4 = omega arith in
    let x2 : x / 256 / 256 ≡ x / 65536 = omega arith in
    let x3 : x / 65536 / 256 ≡ x / 16777216 = omega arith in
    let top : x / 16777216 % 256 ≡ x / 16777216 = omega arith in
    let u : ℕ = steps p ((e + 8) * 4) (x % 256) in
    let v : ℕ = steps p ((e + 6) * 4) (x / 256 % 256) in
    let w : ℕ = steps p ((e + 4) * 4) (x / 65536 % 256) in
    let y : ℕ = steps p ((e + 2) * 4) (x / 16777216) in
    cc (a, b, c, xor_assoc u v (bit_xor w y), xor_assoc (bit_xor u v) w y)
