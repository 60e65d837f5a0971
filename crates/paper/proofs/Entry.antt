-- What it means that a state is in range. Paper 01, Refusal numbers, 15.
--   Ready s               each number of the state s in its range, by name
--   ready, in_range_lem   a state is in range exactly when it is ready
--   fresh_in_range        the fresh state is in range
--   ready_sound           a world whose state is ready is sound
-- Assumes nothing.
use mathlib.Core.Path.{◌≡◌, refl}
use mathlib.Core.Bool.{true, and-eq-true_iff}
use Prim.Native.Nat.{◌≤◌, ◌<◌, ◌*◌}
use borrow.Author.Tests.{ltb-true, leb-true}
use Rattle.paper.specs.declared.State.{State}
use Rattle.paper.specs.declared.Fifo.TheVariants.{TxData, TxStatus, RxData, RxStatus}
use Rattle.paper.specs.Memory.{size}
use Rattle.paper.specs.Registers.{good_maccr, good_registers}
use Rattle.paper.specs.Fresh.{fresh_state}
use Rattle.paper.specs.Refusals.{expect_in_range, in_range}
use Rattle.paper.proofs.Compute.{everything}
use Rattle.std.proofs.lemmas.Bool.Decides.{nat_tests}
use Rattle.std.proofs.Common.{arith, rules}
use Rattle.paper.specs.Machine.{World}
use Rattle.paper.specs.Runs.{Lent}
use Rattle.paper.proofs.Rings.{Sound}
use Rattle.paper.proofs.Fifos.{each}

-- The fresh state is in range.
pub fresh_in_range : in_range fresh_state ≡ true
unfolding everything
fresh_in_range = refl

-- Each number of a state in its range.
pub record Ready (s : State) : Type 0 where
  pub low : 2 ≤ s.control.registers.n
  pub high : s.control.registers.n ≤ 14
  pub registers : good_maccr s.control.registers.maccr ≡ true
  pub addrh : s.control.registers.addrh ≤ 0xFFFF
  pub txdata_at : s.txdata.at < size TxData s.control.registers.n
  pub txdata_count : s.txdata.count ≤ size TxData s.control.registers.n
  pub txstatus_at : s.txstatus.at < size TxStatus s.control.registers.n
  pub txstatus_count : s.txstatus.count ≤ size TxStatus s.control.registers.n
  pub rxdata_at : s.rxdata.at < size RxData s.control.registers.n
  pub rxdata_count : s.rxdata.count ≤ size RxData s.control.registers.n
  pub rxstatus_at : s.rxstatus.at < size RxStatus s.control.registers.n
  pub rxstatus_count : s.rxstatus.count ≤ size RxStatus s.control.registers.n
  pub expect : expect_in_range s.control.port.expect ≡ true
  pub whole : 3 * s.control.port.whole ≤ s.txdata.count

-- A state in range is ready.
pub ready : (s : State) → in_range s ≡ true → Ready s
unfolding in_range good_registers
ready s e = let parts = simp and-eq-true_iff at e in search (rules, ltb-true, leb-true)

-- A ready state is in range.
pub in_range_lem : (s : State) → Ready s → in_range s ≡ true
unfolding in_range good_registers
in_range_lem s h = grind (arith, nat_tests)

-- A ready state over 4,096 words makes a sound world.
pub ready_sound : (w : World) → Lent w.memory → Ready w.state → Sound w
ready_sound w lent r =
    record {
      lent = lent;
      low = r.low;
      high = r.high;
      rings =
          each _
          (record { at_lt = r.txdata_at; count_le = r.txdata_count })
          (record { at_lt = r.txstatus_at; count_le = r.txstatus_count })
          (record { at_lt = r.rxdata_at; count_le = r.rxdata_count })
          (record { at_lt = r.rxstatus_at; count_le = r.rxstatus_count });
    }
