-- A world as its ledger says is in range, so no call of a run gets 14 or 15 at entry. Paper 01, Refusal numbers.
--   agree_within, run_within    sizes so far are at most p
--   good_either                 an A that is good with a packet open, or with none, is good by its own First bit
--   taking_in_range             what the port expects is in range
--   laid_all-append, good_drop, laid_all_three, whole_held    the whole packets hold at least three words each
--   kept_in_range, kept_act     the world is in range; each call does what is decided by what the ledger implies
-- Assumes nothing.
use mathlib.Core.Path.{◌≡◌, refl, sym, ap, ◌∙◌}
use mathlib.Core.Bool.{Bool, true, not, and-false}
use mathlib.Core.List.{List, [], ◌∷◌, ◌++◌, append_assoc}
use Prim.Native.Nat.{ℕ, zero, suc, ◌+◌, ◌-◌, ◌*◌, ◌≤◌}
use native.Mathlib.Omega.{arith}
use lib.Dec.{leb}
use lib.ListN.{length, take, drop, length-append, length-drop, take-append-drop}
use borrow.Author.Tests.{le-leb, eq-eqb}
use Rattle.paper.specs.declared.Fifo.TheVariants.{TxData, TxStatus, RxData, RxStatus}
use Rattle.paper.specs.Registers.{good_maccr, good_registers}
use Rattle.paper.specs.Transmission.{buffer_size, is_first, packet_length, good_a, sizes_agree}
use Rattle.paper.specs.Refusals.{expect_in_range, in_range}
use Rattle.paper.specs.Calls.{Call, is_reset}
use Rattle.paper.specs.Acts.{Act}
use Rattle.paper.specs.Machine.{World, waits, act, decide, step, answer}
use Rattle.paper.specs.Ledger.{Written, Whole, Taking, Ledger, laid_all, laid_so_far, put, taken}
use Rattle.paper.proofs.Entry.{in_range_lem}
use Rattle.paper.proofs.Kept.{sizes_of, expect_of, control_of, Run, none, more, AllGood, GoodOpen, GoodTaking, Kept, kept_count}
use Rattle.paper.proofs.Packets.{laid_three}
use Rattle.std.proofs.lemmas.Bool.Decides.{nat_tests}

-- ---- What the port expects

-- Sizes that agree with p, at Last or before it, are at most p.
pub agree_within : (a b sizes : ℕ) → sizes_agree a b sizes ≡ true → sizes + buffer_size a ≤ packet_length b
unfolding sizes_agree
agree_within a b sizes e = grind (arith, nat_tests)

-- The sizes of accepted buffers are at most p.
pub run_within : {is_open : Bool} {b sizes : ℕ} {xs : List Written} → Run is_open b sizes xs → sizes ≤ packet_length b → sizes + sizes_of xs ≤ packet_length b
unfolding sizes_of
run_within none h = omega arith
run_within {b = b} {sizes} (more {x = x} fine before run) h =
    omega (arith, run_within run (agree_within x.a b sizes fine.begun.agree))

-- So are those of the packet that is open.
open_within : {b : ℕ} {xs : List Written} → GoodOpen b xs → leb (sizes_of xs) (packet_length b) ≡ true
open_within {b} {xs} o = le-leb (sizes_of xs) (packet_length b) (omega (arith, run_within o.run (omega arith)))

-- An A that is good with a packet open, or with none, is good by its own First bit.
pub good_either : (is_open : Bool) (a : ℕ) → good_a is_open a ≡ true → good_a (not (is_first a)) a ≡ true
unfolding good_a
good_either is_open a good = grind (arith, nat_tests)

-- What the port expects is in range.
pub taking_in_range : (t : Taking) → GoodTaking t → expect_in_range (expect_of t) ≡ true
unfolding GoodTaking expect_of expect_in_range
taking_in_range t g = grind (arith, nat_tests, open_within, agree_within, good_either)

-- ---- The whole packets

-- Packets lie one behind the other.
pub laid_all-append : (ps qs : List Whole) → laid_all (ps ++ qs) ≡ laid_all ps ++ laid_all qs
unfolding laid_all
laid_all-append [] qs = refl
laid_all-append (p ∷ ps) qs = rw (laid_all-append ps qs, append_assoc)

-- Of good packets, those behind the first n are good.
pub good_drop : (n : ℕ) (ps : List Whole) → AllGood ps → AllGood (drop n ps)
unfolding AllGood
good_drop zero ps g = g
good_drop (suc n) [] g = g
good_drop (suc n) (p ∷ ps) g = good_drop n ps g.1

-- Good packets hold at least three words each.
pub laid_all_three : (ps : List Whole) → AllGood ps → 3 * length ps ≤ length (laid_all ps)
unfolding AllGood laid_all
laid_all_three [] g = omega arith
laid_all_three (p ∷ ps) g = rw length-append (omega (arith, laid_three p g.0, laid_all_three ps g.1))

-- So do those behind the first n, in the words behind those of the first n.
pub whole_held : (n : ℕ) (ps : List Whole) → AllGood ps → 3 * (length ps - n) + length (laid_all (take n ps)) ≤ length (laid_all ps)
whole_held n ps g =
    let parts : length (laid_all ps) ≡ length (laid_all (take n ps)) + length (laid_all (drop n ps)) =
    ap (λ qs. length (laid_all qs)) (sym (take-append-drop n ps)) ∙ simp (laid_all-append, length-append) in
    omega (arith, parts, length-drop n ps, laid_all_three (drop n ps) (good_drop n ps g))

-- ---- The whole state

-- As many words are held as the whole packets need.
kept_whole : {l : Ledger} {w : World} → Kept l w → 3 * (length l.wrote.packets - l.wrote.sent) ≤ w.state.txdata.count
unfolding put taken
kept_whole {l} h =
    omega (
      arith,
      kept_count h TxData,
      length-append (laid_all l.wrote.packets) (laid_so_far l.wrote.taking),
      whole_held l.wrote.sent l.wrote.packets h.legal.packets,
    )

-- A world as the ledger says has every number in its range.
pub kept_in_range : {l : Ledger} {w : World} → Kept l w → in_range w.state ≡ true
unfolding good_registers
kept_in_range {l} {w} h =
    let r = l.registers in
    let good : (good_maccr r.maccr ≡ true) × (r.addrh ≤ 0xFFFF) = grind (arith, nat_tests, h.legal.registers) in
    in_range_lem w.state
    (record {
      low = h.sound.low;
      high = h.sound.high;
      registers = rw h.control good.0;
      addrh = rw h.control good.1;
      txdata_at = (h.sound.rings TxData).at_lt;
      txdata_count = (h.sound.rings TxData).count_le;
      txstatus_at = (h.sound.rings TxStatus).at_lt;
      txstatus_count = (h.sound.rings TxStatus).count_le;
      rxdata_at = (h.sound.rings RxData).at_lt;
      rxdata_count = (h.sound.rings RxData).count_le;
      rxstatus_at = (h.sound.rings RxStatus).at_lt;
      rxstatus_count = (h.sound.rings RxStatus).count_le;
      expect = rw h.control (taking_in_range l.wrote.taking h.legal.taking);
      whole = rw h.control (kept_whole h);
    })

-- So no call gets 14 or 15 at entry, and each does what is decided by what the ledger implies.
pub kept_act : {l : Ledger} {w : World} (c : Call) → Kept l w → act c w ≡ decide c (control_of l) (waits w)
unfolding act
kept_act {l} {w} c h = rw (eq-eqb _ _ h.sound.lent, kept_in_range h, and-false (not (is_reset c)), h.control)

-- Each call is answered so.
pub kept_answer : {l : Ledger} {w : World} (c : Call) → Kept l w → answer c w ≡ (decide c (control_of l) (waits w)).answer
unfolding step
kept_answer c h = ap (λ (a : Act). a.answer) (kept_act c h)
