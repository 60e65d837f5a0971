-- The calls that restart FIFOs keep the invariant: a law for each call, named by it.
--   kept_reset, kept_set_split, kept_dump_tx_data, kept_dump_tx_status, kept_dump_rx
--   resized_port          where n may be set, the port is the fresh one
-- Assumes nothing.
use mathlib.Core.Path.{◌≡◌, refl, ap}
use mathlib.Core.Bool.{true, not, and-eq-true_iff}
use Prim.Native.Nat.{ℕ, ◌-◌}
use native.Mathlib.Omega.{arith}
use lib.ListN.{length, length-append}
use borrow.Author.Tests.{eqb-true, not-false}
use Rattle.paper.specs.declared.Registers.{Registers}
use Rattle.paper.specs.declared.Refusal.TheVariants.{BadValue, NotNow}
use Rattle.paper.specs.declared.Expect.TheVariants.{CommandA}
use Rattle.paper.specs.declared.Packet.TheVariants.{Closed}
use Rattle.paper.specs.declared.Fifo.TheVariants.{TxData}
use Rattle.paper.specs.Registers.{good_n, good_registers, with_n, is_idle, expects_first, may_resize, may_dump_rx, may_dump_tx_data}
use Rattle.paper.specs.Fresh.{fresh_registers, fresh_port}
use Rattle.paper.specs.Calls.{Reset, SetSplit, DumpTxData, DumpTxStatus, DumpRx}
use Rattle.paper.specs.Acts.{with_registers, with_port}
use Rattle.paper.specs.Machine.{World, waits, levels, decide}
use Rattle.paper.specs.Ledger.{Taking, Wrote, Received, Confirmed, Ledger, none_wrote}
use Rattle.paper.specs.Ledger.{entered, note, laid_all, laid_so_far, all_words, put, taken}
use Rattle.paper.proofs.Compute.{everything}
use Rattle.paper.proofs.Kept.{expect_of, port_of, control_of, AllGood, GoodTaking, Legal, Kept, kept_apply, kept_anew}
use Rattle.paper.proofs.Fifos.{each}
use Rattle.paper.proofs.KeptMoves.{KeptBy, kept_by, kept_unless, kept_beside}
use Rattle.paper.proofs.KeptRange.{whole_held}
use Rattle.std.proofs.Common.{rules}
use Rattle.paper.proofs.Kept.{kept_held}

-- The registers of the fresh state are ones that a write accepts.
fresh_good : good_registers fresh_registers ≡ true
unfolding everything
fresh_good = refl

-- A ledger with no packet written is legal.
none_legal : (r : Registers) (d : ℕ) (x : Received) (y : Confirmed) → good_registers r ≡ true
    → Legal (record { registers = r; dropped = d; received = x; wrote = none_wrote; confirmed = y })
unfolding AllGood GoodTaking
none_legal r d x y good = record { registers = good; packets = tt; taking = tt; sent = omega arith }

-- Where TX data is empty, every packet is sent.
all_sent : {l : Ledger} {w : World} → Kept l w → length (waits w).txdata ≡ 0 → length l.wrote.packets - l.wrote.sent ≡ 0
unfolding put taken
all_sent {l} {w} h e = grind (arith, kept_held h TxData, length-append, whole_held l.wrote.sent l.wrote.packets h.legal.packets)

-- A port that expects a first A has no packet open.
first_closed : (t : Taking) → expects_first (expect_of t) ≡ true → expect_of t ≡ CommandA Closed
unfolding expect_of
first_closed t e = grind arith

-- An idle port with every packet sent is the fresh one.
idle_port : (x : Wrote) → is_idle (port_of x) ≡ true → length x.packets - x.sent ≡ 0 → port_of x ≡ fresh_port
idle_port x idle none = grind (arith, first_closed)

-- Where n may be set, the port is the fresh one.
resized_port : {l : Ledger} {w : World} → Kept l w → may_resize (control_of l).registers (port_of l.wrote) (levels (waits w)) ≡ true
    → port_of l.wrote ≡ fresh_port
unfolding may_resize
resized_port {l} {w} h e =
    let parts = simp and-eq-true_iff at e in
    idle_port l.wrote (search rules) (all_sent h (search (rules, eqb-true)))

-- Another good n leaves registers that a write accepts.
resized_good : (n : ℕ) (r : Registers) → good_n n ≡ true → good_registers r ≡ true → good_registers (with_n n r) ≡ true
unfolding good_registers
resized_good n r good e = grind arith

module _ {l : Ledger} {w : World} where
  -- Dumping TX status.
  pub kept_dump_tx_status : Kept l w → KeptBy DumpTxStatus l w
  unfolding decide note entered put taken
  kept_dump_tx_status h =
      kept_by h DumpTxStatus (kept_beside h _ _ _ _ _ h.legal.registers refl refl (each _ tt tt tt tt)
      (λ f. grind arith))

  -- Dumping RX.
  pub kept_dump_rx : Kept l w → KeptBy DumpRx l w
  unfolding decide note entered put taken all_words
  kept_dump_rx h =
      kept_by h DumpRx (
      kept_unless h DumpRx (not (may_dump_rx l.registers)) NotNow _ refl λ _.
      kept_beside h _ _ _ _ _ h.legal.registers refl refl (each _ tt tt tt tt) (λ f. grind arith))

  -- Dumping TX data.
  pub kept_dump_tx_data : Kept l w → KeptBy DumpTxData l w
  unfolding decide note entered put taken laid_all laid_so_far expect_of
  kept_dump_tx_data h =
      kept_by h DumpTxData (
      kept_unless h DumpTxData (not (may_dump_tx_data l.registers)) NotNow _ refl λ _.
      kept_apply h (record {
        legal = none_legal _ _ _ _ h.legal.registers;
        control = refl;
        split = refl;
        fits = each _ tt tt tt tt;
        follows = each _ (refl, refl) (refl, refl) (refl, refl) (refl, refl);
      }))

  -- Reset.
  pub kept_reset : Kept l w → KeptBy Reset l w
  unfolding decide note entered put taken laid_all laid_so_far all_words expect_of
  kept_reset h =
      kept_by h Reset (kept_anew _ w h.sound.lent refl refl (none_legal _ _ _ _ fresh_good) (each _ refl refl refl refl) (each _ refl refl refl refl))

  -- Setting n.
  pub kept_set_split : (n : ℕ) → Kept l w → KeptBy (SetSplit n) l w
  unfolding decide note entered put taken laid_all laid_so_far all_words expect_of
  kept_set_split n h =
      kept_by h (SetSplit n) (
      kept_unless h (SetSplit n) _ BadValue _ refl λ good.
      kept_unless h (SetSplit n) _ NotNow _ refl λ now.
      kept_anew _ w h.sound.lent refl
      (ap (λ p. with_port p (with_registers (with_n n (control_of l).registers) (control_of l))) (resized_port h (not-false _ now)))
      (none_legal _ _ _ _ (resized_good n l.registers (not-false _ good) h.legal.registers))
      (each _ refl refl refl refl) (each _ refl refl refl refl))
