-- The calls that read and write registers, and those that read the oldest word of a FIFO, keep the invariant: a law for each call, named by it.
--   kept_mac_write, kept_mac_read, kept_split, kept_rx_fifo_inf, kept_tx_fifo_inf, kept_rx_drop             the registers
--   kept_rx_data_read, kept_rx_status_pop, kept_rx_status_peek, kept_tx_status_pop, kept_tx_status_peek     the words read
-- The restarts are in KeptRestarts, the arrival is in KeptArrive.
-- Assumes nothing.
use Rattle.std.specs.Prelude.{not}
use mathlib.Core.Path.{◌≡◌, refl}
use mathlib.Core.Bool.{true}
use Prim.Native.Nat.{ℕ}
use borrow.Author.Tests.{not-false}
use Rattle.paper.specs.declared.Registers.{Registers}
use Rattle.paper.specs.declared.Refusal.TheVariants.{NoRegister, BadValue}
use Rattle.paper.specs.declared.Fifo.TheVariants.{TxStatus, RxData, RxStatus}
use Rattle.paper.specs.Registers.{good_value, good_registers, write_register, is_register}
use Rattle.paper.specs.Calls.{MacWrite, MacRead, Split, RxFifoInf, TxFifoInf, RxDrop, RxDataRead, RxStatusPop, RxStatusPeek, TxStatusPop, TxStatusPeek}
use Rattle.paper.specs.Machine.{World, decide}
use Rattle.paper.specs.Ledger.{Ledger, entered, note, put, taken}
use Rattle.paper.proofs.Kept.{Kept}
use Rattle.paper.proofs.Fifos.{each}
use Rattle.paper.proofs.KeptMoves.{KeptBy, kept_by, kept_still, kept_unless, kept_registers, kept_oldest}
use Rattle.std.proofs.lemmas.Bool.Decides.{nat_tests}
use native.Mathlib.Omega.{arith}

-- What may be written leaves registers that a write accepts.
written_good : (k v : ℕ) (r : Registers) → good_value k v ≡ true → good_registers r ≡ true → good_registers (write_register k v r) ≡ true
unfolding good_registers write_register
written_good k v r good e = grind (arith, nat_tests)

module _ {l : Ledger} {w : World} where
  -- Writing a MAC register.
  pub kept_mac_write : (register value : ℕ) → Kept l w → KeptBy (MacWrite register value) l w
  unfolding decide note entered write_register
  kept_mac_write k v h =
      kept_by h (MacWrite k v) (
      kept_unless h (MacWrite k v) (not (is_register k)) NoRegister _ refl λ _.
      kept_unless h (MacWrite k v) (not (good_value k v)) BadValue _ refl λ good.
      kept_registers h _ _ _ (written_good k v l.registers (not-false _ good) h.legal.registers) refl refl refl)

  -- Reading a MAC register.
  pub kept_mac_read : (register : ℕ) → Kept l w → KeptBy (MacRead register) l w
  unfolding decide note entered
  kept_mac_read k h =
      kept_by h (MacRead k) (kept_unless h (MacRead k) (not (is_register k)) NoRegister _ refl λ _. kept_still h _ refl refl)

  -- Reading n.
  pub kept_split : Kept l w → KeptBy Split l w
  unfolding decide note entered
  kept_split h = kept_by h Split (kept_still h _ refl refl)

  -- Reading RX_FIFO_INF.
  pub kept_rx_fifo_inf : Kept l w → KeptBy RxFifoInf l w
  unfolding decide note entered
  kept_rx_fifo_inf h = kept_by h RxFifoInf (kept_still h _ refl refl)

  -- Reading TX_FIFO_INF.
  pub kept_tx_fifo_inf : Kept l w → KeptBy TxFifoInf l w
  unfolding decide note entered
  kept_tx_fifo_inf h = kept_by h TxFifoInf (kept_still h _ refl refl)

  -- Reading RX_DROP, which clears it.
  pub kept_rx_drop : Kept l w → KeptBy RxDrop l w
  unfolding decide note entered
  kept_rx_drop h = kept_by h RxDrop (kept_registers h _ _ _ h.legal.registers refl refl refl)

  -- Reading a word of RX data.
  pub kept_rx_data_read : Kept l w → KeptBy RxDataRead l w
  unfolding decide note entered put taken
  kept_rx_data_read h =
      kept_by h RxDataRead (kept_oldest h RxDataRead RxData _ _ _ (λ _. refl) (λ some. each _ tt tt some tt) (λ f. grind arith))

  -- Popping an RX status.
  pub kept_rx_status_pop : Kept l w → KeptBy RxStatusPop l w
  unfolding decide note entered put taken
  kept_rx_status_pop h =
      kept_by h RxStatusPop (kept_oldest h RxStatusPop RxStatus _ _ _ (λ _. refl) (λ some. each _ tt tt tt some) (λ f. grind arith))

  -- Peeking at an RX status.
  pub kept_rx_status_peek : Kept l w → KeptBy RxStatusPeek l w
  unfolding decide note entered put taken
  kept_rx_status_peek h =
      kept_by h RxStatusPeek (kept_oldest h RxStatusPeek RxStatus _ _ _ (λ _. refl) (λ _. each _ tt tt tt tt) (λ f. grind arith))

  -- Popping a TX status.
  pub kept_tx_status_pop : Kept l w → KeptBy TxStatusPop l w
  unfolding decide note entered put taken
  kept_tx_status_pop h =
      kept_by h TxStatusPop (kept_oldest h TxStatusPop TxStatus _ _ _ (λ _. refl) (λ some. each _ tt some tt tt) (λ f. grind arith))

  -- Peeking at a TX status.
  pub kept_tx_status_peek : Kept l w → KeptBy TxStatusPeek l w
  unfolding decide note entered put taken
  kept_tx_status_peek h =
      kept_by h TxStatusPeek (kept_oldest h TxStatusPeek TxStatus _ _ _ (λ _. refl) (λ _. each _ tt tt tt tt) (λ f. grind arith))
