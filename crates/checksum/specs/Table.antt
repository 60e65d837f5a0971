-- The table that the code reads: 16 rows of 16 entries.
--   entry p j      entry j, n of row e where j is 16 e + n: the register n, four bits and then e times four bits on
--   nibbles p      the table for the generator p
-- Assumes nothing.
use Rattle.std.specs.Prelude.{List, ℕ, ◌+◌, ◌*◌, ◌/◌, ◌%◌}
use Rattle.paper.specs.Words.{series}
use Rattle.checksum.specs.Register.{steps}

unfoldable pub entry : (p j : ℕ) → ℕ
entry p j = steps p ((j / 16 + 1) * 4) (j % 16)

unfoldable pub nibbles : ℕ → List ℕ
nibbles p = series (entry p) 0 256
