-- The split of a state.
--   split_of s             n, TX_FIF_SZ, of a state
-- Assumes nothing.
use Rattle.std.specs.Prelude.{ℕ}
use Rattle.paper.specs.declared.State.{State}

abbrev pub split_of : State → ℕ
split_of s = s.control.registers.n
