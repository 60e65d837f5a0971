-- The checksum as IEEE 802.3 states it, a bit at a time: the FCS, "the FCS fits", and the hash. Paper 01, An arriving frame.
-- A polynomial over 0 and 1 is the list of its coefficients, highest power first. The generator g is written without its leading term, so that its
-- length is the width; the register has as many coefficients.
--   plus p q              the sum of two polynomials
--   feed g r b            the register r after one more bit b of the message
--   wire s                the bits of the bytes s in the order of the wire
--   number_of bs          the number whose bits, lowest first, are bs
--   crc32 s               the register after the bytes s
--   fcs s, with_fcs s     the FCS of s, its first byte on the wire lowest; s followed by it
--   fcs_fits s            the last four bytes of s are the FCS of those before; fewer than four bytes never fit
--   hash s                the register's top six bits as a number, 0 to 63
-- Assumes nothing.
use Rattle.std.specs.Prelude.{if◌then◌else◌, Bool, true, false, not, ◌&&◌, List, [], ◌∷◌, ◌++◌, map, reverse, ℕ, zero, suc, ◌+◌, ◌-◌, ◌*◌, ◌/◌, ◌%◌, leb, eqb, length, take, replicate}
use Rattle.std.specs.Bool.{xor}
use Rattle.paper.specs.Words.{word_at, bytes_of}

unfoldable pub plus : List Bool → List Bool → List Bool
plus [] q = q
plus (a ∷ p) [] = a ∷ p
plus (a ∷ p) (b ∷ q) = xor a b ∷ plus p q

-- the coefficient of the highest power, and the rest times x
abbrev pub highest : List Bool → Bool
highest [] = false
highest (h ∷ t) = h

abbrev pub times_x : List Bool → List Bool
times_x [] = []
times_x (h ∷ t) = t ++ (false ∷ [])

-- the bit is added to the highest coefficient, all is multiplied by x, and where x^width came up the generator is taken off
unfoldable pub feed : (g r : List Bool) → Bool → List Bool
feed g r b = if xor (highest r) b then plus (times_x r) g else times_x r

unfoldable pub feeds : (g r : List Bool) → List Bool → List Bool
feeds g r [] = r
feeds g r (b ∷ bs) = feeds g (feed g r b) bs

-- the k low bits of v, lowest first, and the number of such bits
unfoldable pub bits_of : (k v : ℕ) → List Bool
bits_of zero v = []
bits_of (suc k) v = eqb (v % 2) 1 ∷ bits_of k (v / 2)

unfoldable pub number_of : List Bool → ℕ
number_of [] = 0
number_of (b ∷ bs) = (if b then 1 else 0) + number_of bs * 2

-- 01: "lowest bit of each byte first"
unfoldable pub wire : List ℕ → List Bool
wire [] = []
wire (b ∷ bs) = bits_of 8 b ++ wire bs

-- 01: "the 802.3 CRC-32 (04C11DB7h, register all ones, lowest bit of each byte first, no final complement, ours)"
unfoldable pub generator : List Bool
generator = reverse (bits_of 32 0x04C1_1DB7)

unfoldable pub crc32 : List ℕ → List Bool
crc32 s = feeds generator (replicate 32 true) (wire s)

-- 802.3: the FCS is the complement of the register, sent x^31 first; so its first byte, which is the word's lowest, has x^31 in its lowest bit
unfoldable pub fcs : List ℕ → ℕ
fcs s = number_of (map not (crc32 s))

abbrev pub with_fcs : List ℕ → List ℕ
with_fcs s = s ++ bytes_of (fcs s ∷ [])

-- 01: "the FCS does not fit the bytes before it (ours)"
unfoldable pub fcs_fits : List ℕ → Bool
fcs_fits s = leb 4 (length s) && eqb (word_at s (length s - 4)) (fcs (take (length s - 4) s))

-- 01: "of the register's top six bits, x^31 down, the highest chooses HASHH (1) or HASHL (0), the other five, x^30 the highest, number the bit"
unfoldable pub hash : List ℕ → ℕ
hash s = number_of (reverse (take 6 (crc32 s)))
