-- The test that every call but reset makes first. Paper 01, Refusal numbers: "Order: 14, 15 (ranges), then …".
--   entry_of s len         the refusal of the test, for a state and the number of words lent; none where it is passed
-- Assumes nothing.
use Rattle.std.specs.Prelude.{if◌then◌else◌, not, ℕ, eqb, Option, Some, None}
use Rattle.paper.specs.declared.State.{State}
use Rattle.paper.specs.declared.Refusal.{Refusal}
use Rattle.paper.specs.declared.Refusal.TheVariants.{MemoryLength, OutOfRange}
use Rattle.paper.specs.Memory.{words_lent}
use Rattle.paper.specs.Refusals.{in_range}

-- 01, refusals 14 and 15: "lent memory not 4,096 words", "a state number out of its range"
abbrev pub entry_of : State → (len : ℕ) → Option Refusal
entry_of s len =
    if not (eqb len words_lent) then Some MemoryLength else
    if not (in_range s) then Some OutOfRange else
    None
