-- The register of specs/Checksum in `paper` as the code holds it: a number whose lowest bit is the highest coefficient, so that bytes off the wire are
-- added to it as they are. proofs/Register shows that the two are one register. The contracts of the inner functions cite these.
--   step p r       the register r one bit on: its half, and p is added where a 1 fell out; p is the generator, as such a number
--   steps p n r    n bits on
--   run p r s      after the bytes s: each is added to the low end, then eight bits on
--   reflected      the generator of 802.3, as such a number
-- Assumes nothing.
use Rattle.std.specs.Prelude.{List, [], ◌∷◌, ℕ, zero, suc, ◌*◌, ◌/◌, ◌%◌}
use Rattle.std.specs.Int.Bits.{bit_xor}

unfoldable pub step : (p r : ℕ) → ℕ
step p r = bit_xor (r / 2) (r % 2 * p)

unfoldable pub steps : (p n r : ℕ) → ℕ
steps p zero r = r
steps p (suc n) r = steps p n (step p r)

unfoldable pub run : (p r : ℕ) → List ℕ → ℕ
run p r [] = r
run p r (b ∷ s) = run p (steps p 8 (bit_xor r (b % 256))) s

-- 04C1_1DB7h with its 32 bits turned round
abbrev pub reflected : ℕ
reflected = 0xEDB8_8320
