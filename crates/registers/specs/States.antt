-- The levels of a state.
--   levels_of s            the words waiting in each FIFO, as numbers
-- Assumes nothing.
use Rattle.std.specs.Prelude.{ℕ}
use Rattle.paper.specs.declared.State.{State}
use Rattle.paper.specs.Memory.{Four}

abbrev pub levels_of : State → Four ℕ
levels_of s = record { txdata = s.txdata.count; txstatus = s.txstatus.count; rxdata = s.rxdata.count; rxstatus = s.rxstatus.count }
