-- Arrivals, reads, pops and peeks keep the ranges, on any state in range and with any 4,096 words, reached or not.
--   in_range_act          in range, with 4,096 words lent, a call does what is decided
--   keeps_ranges
-- Assumes nothing.
use Rattle.std.specs.Prelude.{Err, Ok}
use mathlib.Core.Path.{◌≡◌, refl, ap}
use mathlib.Core.Bool.{true, and-false}
use mathlib.Core.List.{List, [], ◌∷◌}
use Prim.Native.Nat.{ℕ, ◌<◌}
use native.Mathlib.Omega.{arith}
use lib.ListN.{length}
use borrow.Author.Tests.{eq-eqb}
use Rattle.paper.specs.declared.Arrival.TheVariants.{Ignored, Discarded, Filtered, Dropped, Stored}
use Rattle.paper.specs.declared.Fifo.{Fifo}
use Rattle.paper.specs.declared.Fifo.TheVariants.{TxData, TxStatus, RxData, RxStatus}
use Rattle.paper.specs.Memory.{Four, Change, keeps, size, of, ring_after}
use Rattle.paper.specs.Registers.{with_drops}
use Rattle.paper.specs.Status.{Look, look}
use Rattle.paper.specs.Arrivals.{Verdict, data_words}
use Rattle.paper.specs.Refusals.{in_range}
use Rattle.paper.specs.Calls.{Call}
use Rattle.paper.specs.Acts.{Act, arrives, oldest, with_registers}
use Rattle.paper.specs.Machine.{World, waits, decide, apply, act, step}
use Rattle.paper.specs.Runs.{Lent, Reading, arrives as arrival, reads, pops, peeks, pops_tx, peeks_tx}
use Rattle.paper.specs.Promises.{KeepsRanges}
use Rattle.paper.proofs.Memory.{Fits}
use Rattle.paper.specs.Memory.{ring}
use Rattle.paper.proofs.Rings.{split, AllFit, apply_sound}
use Rattle.paper.proofs.Fifos.{each, waits_count}
use Rattle.paper.proofs.Entry.{Ready, ready, in_range_lem}
use Rattle.paper.proofs.ArrivalLines.{arrival_says, arrives_fits}
use Rattle.paper.proofs.Entry.{ready_sound}

-- In range, with 4,096 words lent, a call does what is decided.
pub in_range_act : (c : Call) (w : World) → Lent w.memory → in_range w.state ≡ true → act c w ≡ decide c w.state.control (waits w)
unfolding act
in_range_act c w lent e = rw (eq-eqb _ _ lent, e, and-false)

-- the control state may differ in RX_DROP
abbrev ButDrops : Act → World → Type 0
ButDrops a w = (d : ℕ) × (a.control ≡ with_registers (with_drops d w.state.control.registers) w.state.control)

module _ (w : World) (lent : Lent w.memory) (r : Ready w.state) where
  -- An act that fits, and changes neither TX data nor the control state but for RX_DROP, leaves the state in range.
  act_in_range : (a : Act) → AllFit a w → a.changes.txdata ≡ keeps → ButDrops a w → in_range (apply a w).state ≡ true
  unfolding apply ring_after
  act_in_range a fits same (d, control) =
      let s = apply_sound a w (ready_sound w lent r) fits (ap (λ k. k.registers.n) control) in
      in_range_lem (apply a w).state (record {
        low = s.low;
        high = s.high;
        registers = rw control r.registers;
        addrh = rw control r.addrh;
        txdata_at = (s.rings TxData).at_lt;
        txdata_count = (s.rings TxData).count_le;
        txstatus_at = (s.rings TxStatus).at_lt;
        txstatus_count = (s.rings TxStatus).count_le;
        rxdata_at = (s.rings RxData).at_lt;
        rxdata_count = (s.rings RxData).count_le;
        rxstatus_at = (s.rings RxStatus).at_lt;
        rxstatus_count = (s.rings RxStatus).count_le;
        expect = rw control r.expect;
        whole = rw (control, same) r.whole;
      })

  -- So does reading the oldest word of a FIFO, whether it is taken or not.
  oldest_in_range : (f : Fifo) (changes : Four Change) → changes.txdata ≡ keeps
      → (0 < (ring f w.state).count → (g : Fifo) → Fits (size g (split w)) (of changes g) (ring g w.state))
      → in_range (apply (oldest w.state.control changes (of (waits w) f)) w).state ≡ true
  oldest_in_range f changes same fits = by_cases (of (waits w) f) (waits_count w f)
    where
      by_cases : (q : List ℕ) → length q ≡ (ring f w.state).count → in_range (apply (oldest w.state.control changes q) w).state ≡ true
      by_cases [] e = act_in_range _ (each _ tt tt tt tt) refl (_, refl)
      by_cases (v ∷ q) e = act_in_range _ (fits (omega arith)) same (_, refl)

  -- So does what an arrival does, whichever line answers, if it fits.
  line_in_range : (a : Verdict) (l : Look) (words : List ℕ) → AllFit (arrives a w.state.control l words) w
      → in_range (apply (arrives a w.state.control l words) w).state ≡ true
  unfolding arrives
  line_in_range (Err e) l words fits = act_in_range _ fits refl (_, refl)
  line_in_range (Ok Ignored) l words fits = act_in_range _ fits refl (_, refl)
  line_in_range (Ok Discarded) l words fits = act_in_range _ fits refl (_, refl)
  line_in_range (Ok Filtered) l words fits = act_in_range _ fits refl (_, refl)
  line_in_range (Ok Dropped) l words fits = act_in_range _ fits refl (_, refl)
  line_in_range (Ok Stored) l words fits = act_in_range _ fits refl (_, refl)

  -- So does what is decided of an arrival, a read, a pop or a peek.
  decided_in_range : {c : Call} → Reading c → in_range (apply (decide c w.state.control (waits w)) w).state ≡ true
  unfolding decide
  decided_in_range (arrival {frame} {flags}) =
      line_in_range _ (look frame flags) (data_words frame) (arrives_fits _ w.state.control w frame flags (ready_sound w lent r) refl (arrival_says _ _ _ _))
  decided_in_range reads = oldest_in_range RxData _ refl λ some. each _ tt tt some tt
  decided_in_range pops = oldest_in_range RxStatus _ refl λ some. each _ tt tt tt some
  decided_in_range peeks = oldest_in_range RxStatus _ refl λ _. each _ tt tt tt tt
  decided_in_range pops_tx = oldest_in_range TxStatus _ refl λ some. each _ tt some tt tt
  decided_in_range peeks_tx = oldest_in_range TxStatus _ refl λ _. each _ tt tt tt tt

-- Arrivals, reads, pops and peeks keep the ranges on any state in range.
pub keeps_ranges : KeepsRanges
unfolding step
keeps_ranges c reading w lent e = rw (in_range_act c w lent e) (decided_in_range w lent (ready w.state e) reading)
