-- The bits of a mask by their numbers, which the contract of `words::fields::has_only` cites.
--   bits_below k mask     the bits of mask below k that are set, the highest first
-- Assumes nothing.
use Rattle.std.specs.Prelude.{if◌then◌else◌, List, [], ◌∷◌, ℕ, zero, suc}
use Rattle.paper.specs.Words.{bit}

-- With its bits listed a mask says what 01 says of a word: which bits may be set.
unfoldable pub bits_below : (k mask : ℕ) → List ℕ
bits_below zero mask = []
bits_below (suc k) mask = if bit k mask then k ∷ bits_below k mask else bits_below k mask
