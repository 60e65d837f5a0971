-- What the contract of each register call comes to, for a state that passed the entry test and any lent memory of 4,096 words.
--   reset_anew                            reset, on any state
--   rx_within, tx_within                  what RX_FIFO_INF and TX_FIFO_INF ask of the counts of a state in range
--   refuses_so, keeps_so, sets_so         a call that decides to refuse; to answer a value and change nothing, or the registers alone
--   write_refused .. rx_dumped            each call and case
-- Assumes nothing.
use Rattle.std.specs.Prelude.{Err, Ok}
use mathlib.Core.Path.{◌≡◌, refl, ap}
use mathlib.Core.Bool.{true, false}
use mathlib.Core.List.{List, []}
use Prim.Native.Nat.{ℕ, ◌≤◌}
use native.Mathlib.Omega.{arith}
use Rattle.std.proofs.lemmas.Grind.{common_steps}
use lib.ListN.{length}
use borrow.Author.Tests.{eq-eqb}
use Rattle.paper.specs.declared.Registers.{Registers}
use Rattle.paper.specs.declared.State.{State}
use Rattle.paper.specs.declared.Refusal.{Refusal}
use Rattle.paper.specs.declared.Refusal.TheVariants.{BadValue, NotNow}
use Rattle.paper.specs.Memory.{Four, words_lent, keeps, restarts, ring_after, memory_after}
use Rattle.paper.specs.Refusals.{in_range}
use Rattle.paper.specs.Registers.{good_n, with_drops, with_n, may_resize, may_dump_tx_data, may_dump_rx, rx_fifo_inf, tx_fifo_inf}
use Rattle.paper.specs.Fresh.{empty, fresh_port, fresh_control, fresh_state}
use Rattle.paper.specs.Calls.{Call, Reset, MacWrite, MacRead, SetSplit, Split, RxFifoInf, TxFifoInf, RxDrop, DumpTxData, DumpTxStatus, DumpRx, lends}
use Rattle.paper.specs.Acts.{unchanged, restarted, does, refuses, with_registers, with_port}
use Rattle.paper.specs.Machine.{waits, decide, apply, act}
use Rattle.paper.specs.Promises.{told, told_of}
use Rattle.paper.proofs.Contracts.{world, with_control, told_act, told_same, told_control, told_decided, levels_are}
use Rattle.paper.proofs.Entry.{ready}
use Rattle.words.specs.Status.{TxLevels}
use Rattle.registers.specs.Mac.{read_of, written_of}
use Rattle.registers.specs.States.{levels_of}

-- Reset, on any state: the fresh state.
pub reset_anew : (s : State) (m : List ℕ) → length m ≡ words_lent → told_of Reset s m ≡ told (Ok 0) fresh_state m
unfolding act decide apply ring_after memory_after
reset_anew s m long = told_act Reset s m (does fresh_control restarted 0) (rw (eq-eqb (length m) words_lent long)) refl refl

-- What RX_FIFO_INF asks of the counts of a state in range.
pub rx_within : (s : State) → in_range s ≡ true → (s.rxstatus.count ≤ 224) × (s.rxdata.count ≤ 3360)
rx_within s range =
    let within = ready s range in
    omega (arith, within.low, within.rxstatus_count, within.rxdata_count)

-- What TX_FIFO_INF asks of them.
pub tx_within : (s : State) → in_range s ≡ true → TxLevels s.control.registers.n s.txstatus.count
tx_within s range =
    let within = ready s range in
    record { least = within.low; most = within.high; few = omega (arith, within.txstatus_count) }

module _ (s : State) (m : List ℕ) (range : in_range s ≡ true) (long : length m ≡ words_lent) where
  -- A call that decides to refuse.
  refuses_so : (c : Call) (k : Refusal) → lends c ≡ [] → decide c s.control (waits (world s m)) ≡ refuses k s.control
      → told_of c s m ≡ told (Err k) s m
  refuses_so c k lent e = told_same c s m long range lent (refuses k s.control) e refl refl refl

  -- A call that decides to answer a value and change nothing.
  keeps_so : (c : Call) (v : ℕ) → lends c ≡ [] → decide c s.control (waits (world s m)) ≡ does s.control unchanged v
      → told_of c s m ≡ told (Ok v) s m
  keeps_so c v lent e = told_same c s m long range lent (does s.control unchanged v) e refl refl refl

  -- A call that decides to answer a value and change the registers alone.
  sets_so : (c : Call) (r : Registers) (v : ℕ) → lends c ≡ []
      → decide c s.control (waits (world s m)) ≡ does (with_registers r s.control) unchanged v
      → told_of c s m ≡ told (Ok v) (with_control (with_registers r s.control) s) m
  sets_so c r v lent e = told_control c s m long range lent (does (with_registers r s.control) unchanged v) e refl refl

  module _ (k v : ℕ) where
    -- A write that is refused.
    pub write_refused : (e : Refusal) → written_of k v s.control.registers ≡ Err e → told_of (MacWrite k v) s m ≡ told (Err e) s m
    unfolding decide
    write_refused e h = refuses_so (MacWrite k v) e refl (grind (arith, common_steps))

    -- A write.
    pub written : (r : Registers) → written_of k v s.control.registers ≡ Ok r
        → told_of (MacWrite k v) s m ≡ told (Ok 0) (with_control (with_registers r s.control) s) m
    unfolding decide
    written r h = sets_so (MacWrite k v) r 0 refl (grind (arith, common_steps))

  -- A read.
  pub read : (k : ℕ) → told_of (MacRead k) s m ≡ told (read_of k s.control.registers) s m
  unfolding decide
  read k =
      told_same (MacRead k) s m long range refl
      (record { control = s.control; changes = unchanged; sent = []; answer = read_of k s.control.registers }) (grind (arith, common_steps)) refl refl refl

  module _ (n : ℕ) where
    -- n outside 2 to 14.
    pub split_bad_value : good_n n ≡ false → told_of (SetSplit n) s m ≡ told (Err BadValue) s m
    unfolding decide
    split_bad_value e = refuses_so (SetSplit n) BadValue refl (rw e)

    -- n not allowed now.
    pub split_not_now : good_n n ≡ true → may_resize s.control.registers s.control.port (levels_of s) ≡ false
        → told_of (SetSplit n) s m ≡ told (Err NotNow) s m
    unfolding decide
    split_not_now e f = refuses_so (SetSplit n) NotNow refl (rw (e, levels_are s m, f))

    -- n set.
    pub split_set : good_n n ≡ true → may_resize s.control.registers s.control.port (levels_of s) ≡ true
        → told_of (SetSplit n) s m ≡ told (Ok 0) (record fresh_state { control = with_registers (with_n n s.control.registers) s.control }) m
    unfolding decide apply ring_after memory_after
    split_set e f =
        told_decided (SetSplit n) s m long range refl (does (with_registers (with_n n s.control.registers) s.control) restarted 0)
        (rw (e, levels_are s m, f)) refl

  -- n read.
  pub split_read : told_of Split s m ≡ told (Ok s.control.registers.n) s m
  unfolding decide
  split_read = keeps_so Split s.control.registers.n refl refl

  -- RX_FIFO_INF, by the rings' counts.
  pub rx_levels : told_of RxFifoInf s m ≡ told (Ok (rx_fifo_inf s.rxstatus.count s.rxdata.count)) s m
  unfolding decide
  rx_levels =
      keeps_so RxFifoInf (rx_fifo_inf s.rxstatus.count s.rxdata.count) refl
      (ap (λ (l : Four ℕ). does s.control unchanged (rx_fifo_inf l.rxstatus l.rxdata)) (levels_are s m))

  -- TX_FIFO_INF, by the rings' counts.
  pub tx_levels : told_of TxFifoInf s m ≡ told (Ok (tx_fifo_inf s.control.registers.n s.txstatus.count s.txdata.count)) s m
  unfolding decide
  tx_levels =
      keeps_so TxFifoInf (tx_fifo_inf s.control.registers.n s.txstatus.count s.txdata.count) refl
      (ap (λ (l : Four ℕ). does s.control unchanged (tx_fifo_inf s.control.registers.n l.txstatus l.txdata)) (levels_are s m))

  -- RX_DROP, read and cleared.
  pub drops_read : told_of RxDrop s m ≡ told (Ok s.control.registers.drops) (with_control (with_registers (with_drops 0 s.control.registers) s.control) s) m
  unfolding decide
  drops_read = sets_so RxDrop (with_drops 0 s.control.registers) s.control.registers.drops refl refl

  -- A dump of TX data with TXEN set.
  pub tx_data_not_now : may_dump_tx_data s.control.registers ≡ false → told_of DumpTxData s m ≡ told (Err NotNow) s m
  unfolding decide
  tx_data_not_now e = refuses_so DumpTxData NotNow refl (rw e)

  -- TX data dumped.
  pub tx_data_dumped : may_dump_tx_data s.control.registers ≡ true → told_of DumpTxData s m ≡ told (Ok 0) (record s { control = with_port fresh_port s.control; txdata = empty }) m
  unfolding decide apply ring_after memory_after
  tx_data_dumped e =
      told_decided DumpTxData s m long range refl
      (does (with_port fresh_port s.control) (record { txdata = restarts; txstatus = keeps; rxdata = keeps; rxstatus = keeps }) 0) (rw e) refl

  -- TX status dumped.
  pub tx_status_dumped : told_of DumpTxStatus s m ≡ told (Ok 0) (record s { txstatus = empty }) m
  unfolding decide apply ring_after memory_after
  tx_status_dumped = told_decided DumpTxStatus s m long range refl _ refl refl

  -- A dump of RX with RXEN set.
  pub rx_not_now : may_dump_rx s.control.registers ≡ false → told_of DumpRx s m ≡ told (Err NotNow) s m
  unfolding decide
  rx_not_now e = refuses_so DumpRx NotNow refl (rw e)

  -- RX dumped.
  pub rx_dumped : may_dump_rx s.control.registers ≡ true → told_of DumpRx s m ≡ told (Ok 0) (record s { rxdata = empty; rxstatus = empty }) m
  unfolding decide apply ring_after memory_after
  rx_dumped e =
      told_decided DumpRx s m long range refl
      (does s.control (record { txdata = keeps; txstatus = keeps; rxdata = restarts; rxstatus = restarts }) 0) (rw e) refl
