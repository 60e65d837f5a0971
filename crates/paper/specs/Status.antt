-- What is judged of an arriving frame, and its RX status. Paper 01, An arriving frame, "RX status".
--   Look                  all that a rule may see of a frame: length, first fourteen bytes, wire flags, checksum verdict
--   look frame flags      the look of a frame
--   length_or_type head   V, the number in the two bytes that begin at offset 12
--   longest               the longest frame of 802.3, 1,518 bytes; status takes it as an argument
--   kept l                the bytes of a frame that are stored: all of them
--   status limit miss l   the status word, where miss says that the filter said no
-- Differs from 000: the flags go in as they came, in any combination (DECISIONS 17).
-- Assumes nothing.
use Rattle.std.specs.Prelude.{Bool, not, ◌&&◌, ◌||◌, List, ℕ, ◌+◌, ◌*◌, ◌^◌, ltb, leb, eqb, length, take, get_or}
use Rattle.paper.specs.Words.{bit, mark}
use Rattle.paper.specs.Checksum.{fcs_fits}
use Rattle.paper.specs.Filter.{is_broadcast, is_group}

-- 01: "Input: bytes from destination address to FCS, length L, and flags"
pub record Look : Type 0 where
  pub len : ℕ
  pub head : List ℕ
  pub flags : ℕ
  pub fits : Bool

abbrev pub look : List ℕ → ℕ → Look
look frame flags = record { len = length frame; head = take 14 frame; flags = flags; fits = fcs_fits frame }

-- 01: "bits 6 (collision seen), 3 (MII error) and 2 (dribble)"
abbrev pub collision : Look → Bool
collision l = bit 6 l.flags

-- 01: "with V the number in the two bytes that begin at offset 12, high byte first"
abbrev pub length_or_type : List ℕ → ℕ
length_or_type head = get_or head 12 0 * 2 ^ 8 + get_or head 13 0

abbrev pub longest : ℕ
longest = 1518

abbrev pub kept : Look → ℕ
kept l = l.len

-- 01: "12: V is at most 1,500 and either V + 18 > L, or L > 64 and V + 18 is not L (ours)."
abbrev pub wrong_length : (v len : ℕ) → Bool
wrong_length v len = leb v 1500 && (ltb len (v + 18) || (ltb 64 len && not (eqb (v + 18) len)))

-- 01: "11: L < 64. 7: L > 1,518."
abbrev pub is_runt : Look → Bool
is_runt l = ltb l.len 64

abbrev pub is_long : ℕ → Look → Bool
is_long limit l = ltb limit l.len

-- 01: "15: 11, 7, 6 or 1 is set."
abbrev pub is_error : ℕ → Look → Bool
is_error limit l = is_runt l || is_long limit l || collision l || not l.fits

-- 01: "30: the filter said no (RXALL). The packet length in bits 29 to 16." "13: broadcast. 10: group, not broadcast (ours)." "5: V > 1,500."
-- "6, 3, 2: the flags. 1: the FCS does not fit the bytes before it (ours). Others 0."
unfoldable pub status : (limit : ℕ) → (miss : Bool) → Look → ℕ
status limit miss l =
    mark 30 miss
    + kept l * 2 ^ 16
    + mark 15 (is_error limit l)
    + mark 13 (is_broadcast l.head)
    + mark 12 (wrong_length (length_or_type l.head) l.len)
    + mark 11 (is_runt l)
    + mark 10 (is_group l.head && not (is_broadcast l.head))
    + mark 7 (is_long limit l)
    + mark 6 (collision l)
    + mark 5 (ltb 1500 (length_or_type l.head))
    + mark 3 (bit 3 l.flags)
    + mark 2 (bit 2 l.flags)
    + mark 1 (not l.fits)
