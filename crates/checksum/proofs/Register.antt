-- The register of specs/Checksum in `paper` and that of specs/Register are one, at any width and generator; then the FCS and the hash from its number.
--   number_of-feed, number_of-feeds  one bit and many bits of the message
--   run-feeds, crc32_run             the bytes of a message; those of 802.3
--   length-feeds, crc32-length       the register keeps its length; that of 802.3 has 32 bits
--   fcs_register, hash_register      the FCS and the hash from the register's number
-- Assumes nothing.
use Rattle.std.specs.Prelude.{if◌then◌else◌}
use mathlib.Core.Path.{◌≡◌, refl, sym, ap, ◌∙◌}
use mathlib.Core.Bool.{Bool, true, false, xor}
use mathlib.Core.List.{List, [], ◌∷◌, ◌++◌, reverse}
use Prim.Native.Nat.{ℕ, suc, ◌+◌, ◌-◌, ◌*◌, ◌/◌, ◌%◌, ◌≤◌}
use native.Mathlib.Nat.{zero-mul, one-mul, le_of_suc-le-suc, not-suc-le-zero}
use native.Mathlib.Numerals.{add-one}
use native.Mathlib.Omega.{arith}
use lib.Bits.{bit_xor, xor_comm, xor_assoc, xor_zero_r, xor_shifted, xor_shr, xor_mod}
use lib.ListN.{length, length-append, replicate}
use Rattle.paper.specs.Checksum.{plus, highest, times_x, feed, feeds, bits_of, number_of, wire, generator, crc32, fcs, hash}
use Rattle.checksum.specs.Register.{step, steps, run, reflected}
use Rattle.checksum.proofs.Steps.{step_xor, step_even}
use Rattle.checksum.proofs.Numbers.{worth, worth_lt, worth_xor, number_of-nil, number_of-cons, number_of_half, number_of_odd, number_of-plus}
use Rattle.checksum.proofs.Numbers.{number_of_not, number_of-bits_of, bits_of-length, bits_of-number_of}

-- A zero at the end adds nothing.
number_of-zero : (t : List Bool) → number_of (t ++ (false ∷ [])) ≡ number_of t
unfolding number_of
number_of-zero [] = refl
number_of-zero (b ∷ t) = ap (λ (x : ℕ). worth b + x * 2) (number_of-zero t)

-- Times x, and without the highest coefficient: the half.
number_of-times_x : (r : List Bool) → number_of (times_x r) ≡ number_of r / 2
unfolding number_of
number_of-times_x [] = refl
number_of-times_x (h ∷ t) = cc (number_of-zero t, number_of_half h t)

-- The highest coefficient is the lowest bit.
worth_highest : (r : List Bool) → worth (highest r) ≡ number_of r % 2
unfolding number_of
worth_highest [] = refl
worth_highest (h ∷ t) = sym (number_of_odd h t)

-- The generator is taken off, or not.
number_of_choice : (b : Bool) (g r : List Bool) → number_of (if b then plus r g else r) ≡ bit_xor (number_of r) (worth b * number_of g)
number_of_choice true g r = cc (number_of-plus r g, one-mul (number_of g))
number_of_choice false g r = cc (zero-mul (number_of g), xor_zero_r (number_of r))

-- A bit alone: above it there is nothing.
worth_half : (b : Bool) → worth b / 2 ≡ 0
worth_half true = refl
worth_half false = refl

worth_odd : (b : Bool) → worth b % 2 ≡ worth b
worth_odd true = refl
worth_odd false = refl

-- One bit of the message: it is added to the lowest bit, and the register goes a step.
pub number_of-feed : (g r : List Bool) (b : Bool) → number_of (feed g r b) ≡ step (number_of g) (bit_xor (number_of r) (worth b))
unfolding feed step
number_of-feed g r b = cc (
  number_of_choice (xor (highest r) b) g (times_x r),
  number_of-times_x r,
  worth_xor (highest r) b,
  worth_highest r,
  worth_half b,
  worth_odd b,
  xor_shr (number_of r) (worth b) 1,
  xor_mod (number_of r) (worth b) 1,
  xor_zero_r (number_of r / 2),
)

-- Many bits of the message: they are added to the register as one number, and stepped out.
pub number_of-feeds : (g r bs : List Bool) → number_of (feeds g r bs) ≡ steps (number_of g) (length bs) (bit_xor (number_of r) (number_of bs))
unfolding feeds steps
number_of-feeds g r [] = cc (number_of-nil, xor_zero_r (number_of r))
number_of-feeds g r (b ∷ bs) = cc (
  number_of-feeds g (feed g r b) bs,
  number_of-feed g r b,
  step_even (number_of g) (number_of bs),
  step_xor (number_of g) (bit_xor (number_of r) (worth b)) (number_of bs * 2),
  xor_assoc (number_of r) (worth b) (number_of bs * 2),
  xor_comm (worth b) (number_of bs * 2),
  xor_shifted (number_of bs) 1 (worth b) (worth_lt b),
  number_of-cons b bs,
)

-- A message in two parts.
feeds-append : (g r a b : List Bool) → feeds g r (a ++ b) ≡ feeds g (feeds g r a) b
unfolding feeds
feeds-append g r [] b = refl
feeds-append g r (x ∷ a) b = feeds-append g (feed g r x) a b

-- The bytes of a message: the two registers are one.
pub run-feeds : (g r : List Bool) (s : List ℕ) → number_of (feeds g r (wire s)) ≡ run (number_of g) (number_of r) s
unfolding wire feeds run
run-feeds g r [] = refl
run-feeds g r (b ∷ s) = cc (
  feeds-append g r (bits_of 8 b) (wire s),
  run-feeds g (feeds g r (bits_of 8 b)) s,
  number_of-feeds g r (bits_of 8 b),
  bits_of-length 8 b,
  number_of-bits_of 8 b,
)

-- The generator of 802.3 as a number; computed.
number_of-generator : number_of generator ≡ reflected
unfolding number_of generator bits_of
number_of-generator = refl

-- The register all ones as a number; computed.
number_of_ones : number_of (replicate 32 true) ≡ 0xFFFF_FFFF
unfolding number_of
number_of_ones = refl

-- The register of 802.3 after the bytes s.
pub crc32_run : (s : List ℕ) → run reflected 0xFFFF_FFFF s ≡ number_of (crc32 s)
unfolding crc32
crc32_run s = cc (run-feeds generator (replicate 32 true) s, number_of-generator, number_of_ones)

-- A sum is as long as its longer term.
length-plus : (a b : List Bool) → length b ≤ length a → length (plus a b) ≡ length a
unfolding plus
length-plus [] [] h = refl
length-plus [] (b ∷ q) h = absurd (not-suc-le-zero h)
length-plus (a ∷ p) [] h = refl
length-plus (a ∷ p) (b ∷ q) h = ap suc (length-plus p q (le_of_suc-le-suc h))

-- Times x, a register keeps its length.
length-times_x : (r : List Bool) → length (times_x r) ≡ length r
length-times_x [] = refl
length-times_x (h ∷ t) = length-append t (false ∷ []) ∙ add-one (length t)

-- With the generator taken off or not, it keeps its length.
length_choice : (b : Bool) (g r : List Bool) → length g ≤ length r → length (if b then plus r g else r) ≡ length r
length_choice true g r h = length-plus r g h
length_choice false g r h = refl

-- After one bit of the message it has the length that it had.
length-feed : (g r : List Bool) (b : Bool) → length g ≤ length r → length (feed g r b) ≡ length r
unfolding feed
length-feed g r b h = length_choice (xor (highest r) b) g (times_x r) (rw length-times_x h) ∙ length-times_x r

-- After many bits too.
pub length-feeds : (g r bs : List Bool) → length g ≤ length r → length (feeds g r bs) ≡ length r
unfolding feeds
length-feeds g r [] h = refl
length-feeds g r (b ∷ bs) h = length-feeds g (feed g r b) bs (rw length-feed h) ∙ length-feed g r b h

-- The generator of 802.3 has 32 coefficients; computed.
generator-length : length generator ≡ 32
unfolding generator bits_of
generator-length = refl

-- So has its register.
pub crc32-length : (s : List ℕ) → length (crc32 s) ≡ 32
unfolding crc32
crc32-length s = length-feeds generator (replicate 32 true) (wire s) (rw generator-length (omega arith))

-- The FCS is the complement of the register's number.
pub fcs_register : (s : List ℕ) → 0xFFFF_FFFF - number_of (crc32 s) ≡ fcs s
unfolding fcs
fcs_register s = let all = number_of_not (crc32 s) in let at32 = rw crc32-length at all in omega arith

-- The hash is the number of the six low bits of the register's number, turned round.
pub hash_register : (s : List ℕ) → number_of (reverse (bits_of 6 (number_of (crc32 s)))) ≡ hash s
unfolding hash
hash_register s = ap (λ (l : List Bool). number_of (reverse l)) (bits_of-number_of 6 (crc32 s) (rw crc32-length (omega arith)))
