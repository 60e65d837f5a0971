-- The vocabulary: the bits of a word, words and bytes, a series; a choice `if b then x else y` is std's. Paper 01 uses these; of them it says only how a word holds its bytes.
--   digit i v             bit i of v, as 0 or 1; 0 above v's highest bit
--   bit i v               bit i of v is set
--   bits high low v       the number in bits high to low of v
--   mark i b              the word whose bit i is b and whose other bits are 0
--   gathered is v         the bits of v that the list is numbers, each at its place
--   only_bits is v        no other bit of v is set
--   series f k n          f k, f (k + 1) and so on, n values
--   word_at s i           the word of the four bytes from byte i of s on; past the end of s bytes are 0
--   bytes_of ws           the bytes of words, four each
--   same s t              the lists s and t are equal
-- Assumes nothing.
use Rattle.std.specs.Prelude.{if◌then◌else◌, Bool, true, false, ◌&&◌, List, [], ◌∷◌, ℕ, zero, suc, ◌+◌, ◌-◌, ◌*◌, ◌/◌, ◌%◌, ◌^◌, eqb, get_or}

abbrev pub digit : ℕ → ℕ → ℕ
digit i v = v / 2 ^ i % 2

abbrev pub bit : ℕ → ℕ → Bool
bit i v = eqb (digit i v) 1

abbrev pub bits : (high low v : ℕ) → ℕ
bits high low v = v / 2 ^ low % 2 ^ (high + 1 - low)

abbrev pub mark : ℕ → Bool → ℕ
mark i b = if b then 2 ^ i else 0

unfoldable pub gathered : List ℕ → ℕ → ℕ
gathered [] v = 0
gathered (i ∷ is) v = digit i v * 2 ^ i + gathered is v

abbrev pub only_bits : List ℕ → ℕ → Bool
only_bits is v = eqb v (gathered is v)

unfoldable pub series : {A : Type 0} → (ℕ → A) → (k n : ℕ) → List A
series f k zero = []
series f k (suc n) = f k ∷ series f (suc k) n

-- 01, Words for transmission: "A word's first byte is in bits 7 to 0."
abbrev pub word_at : List ℕ → ℕ → ℕ
word_at s i = get_or s i 0 + get_or s (i + 1) 0 * 2 ^ 8 + get_or s (i + 2) 0 * 2 ^ 16 + get_or s (i + 3) 0 * 2 ^ 24

-- 01: "A word's first byte is in bits 7 to 0."
unfoldable pub bytes_of : List ℕ → List ℕ
bytes_of [] = []
bytes_of (w ∷ ws) = bits 7 0 w ∷ bits 15 8 w ∷ bits 23 16 w ∷ bits 31 24 w ∷ bytes_of ws

unfoldable pub same : List ℕ → List ℕ → Bool
same [] [] = true
same [] (b ∷ t) = false
same (a ∷ s) [] = false
same (a ∷ s) (b ∷ t) = eqb a b && same s t
