-- An arriving frame. Paper 01, An arriving frame: the seven lines in their order, room, and the data words.
--   words_for len          data words that len bytes take; 0 for none
--   data_words frame       the frame's data words
--   room                   whether these and one status are free
--   refuses_length, discards    the tests of lines 1 and 4
--   Verdict                what an arriving frame meets: a line, or a refusal
--   arrival                the first line that applies
--   line, arrival_answer   01's value for a line; the answer to an arrival
-- Differs from 000: full means full (DECISIONS 12).
-- Assumes nothing.
use Rattle.std.specs.Prelude.{if◌then◌else◌, Bool, not, ◌&&◌, ◌||◌, List, [], ◌∷◌, ℕ, ◌+◌, ◌*◌, ◌/◌, ltb, eqb, length, Result, Err, Ok}
use Rattle.paper.specs.declared.Registers.{Registers}
use Rattle.paper.specs.declared.Room.{Room}
use Rattle.paper.specs.declared.Room.TheVariants.{Fits, Short}
use Rattle.paper.specs.declared.Refusal.{Refusal}
use Rattle.paper.specs.declared.Refusal.TheVariants.{ArrivingLength, OtherBits}
use Rattle.paper.specs.Answers.{Answer}
use Rattle.paper.specs.declared.Arrival.{Arrival}
use Rattle.paper.specs.declared.Arrival.TheVariants.{Ignored, Discarded, Filtered, Dropped, Stored}
use Rattle.paper.specs.Words.{bit, only_bits, series, word_at}
use Rattle.paper.specs.Registers.{RXEN, PASSBAD, RXALL}
use Rattle.paper.specs.Filter.{passes}
use Rattle.paper.specs.Status.{Look, collision, is_runt, kept}

-- what an arriving frame meets: line 3 to 7, or the refusal of line 1 or 2
abbrev pub Verdict : Type 0
Verdict = Result Arrival Refusal

-- 01, line 6: "L/4 rounded up"
abbrev pub words_for : ℕ → ℕ
words_for len = (len + 3) / 4

-- 01, line 7: "data words, first byte in bits 7 to 0, unused bytes of the last word zero (ours)"
unfoldable pub data_words : List ℕ → List ℕ
data_words frame = series (λ k. word_at frame (4 * k)) 0 (words_for (length frame))

-- 01, line 6: "Free RX data words below L/4 rounded up, or no free RX status: Dropped". Sees a length and how many words and
-- statuses are free.
unfoldable pub room : (len words statuses : ℕ) → Room
room len words statuses = if ltb words (words_for len) || eqb statuses 0 then Short else Fits

-- 01, line 1: "L is 0 or above 2,048"
abbrev pub refuses_length : ℕ → Bool
refuses_length len = eqb len 0 || ltb 2048 len

-- 01: "flags, of which only bits 6 (collision seen), 3 (MII error) and 2 (dribble) may be set"
abbrev pub good_flags : ℕ → Bool
good_flags flags = only_bits (6 ∷ 3 ∷ 2 ∷ []) flags

-- 01, line 4: "L below 14 (ours); or, with PASSBAD clear, L below 64 or collision seen"
abbrev pub discards : Registers → Look → Bool
discards r l = ltb l.len 14 || (not (bit PASSBAD r.maccr) && (is_runt l || collision l))

-- lines 6 and 7
abbrev pub by_room : Room → Arrival
by_room Short = Dropped
by_room Fits = Stored

-- 01: "The first line that applies answers: 1. L is 0 or above 2,048: refusal 1. 2. Other flag bits: refusal 2. 3. RXEN clear: Ignored." "5. Filter says no
-- and RXALL is clear: Filtered." words and statuses are the free RX data words and the free RX statuses.
unfoldable pub arrival : Registers → (words statuses : ℕ) → Look → Verdict
arrival r words statuses l =
    if refuses_length l.len then Err ArrivingLength else
    if not (good_flags l.flags) then Err OtherBits else
    if not (bit RXEN r.maccr) then Ok Ignored else
    if discards r l then Ok Discarded else
    if not (passes r l.head) && not (bit RXALL r.maccr) then Ok Filtered else
    Ok (by_room (room (kept l) words statuses))

-- 01's value for the line that answered: its number (DECISIONS 2)
abbrev pub line : Arrival → ℕ
line Ignored = 3
line Discarded = 4
line Filtered = 5
line Dropped = 6
line Stored = 7

abbrev pub arrival_answer : Verdict → Answer
arrival_answer (Err r) = Err r
arrival_answer (Ok a) = Ok (line a)
