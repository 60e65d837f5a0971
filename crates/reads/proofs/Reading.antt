-- What is decided of a call that reads the oldest word of a FIFO is that word's reply.
--   taking f              the changes of a read that takes the oldest word of FIFO f
--   at_below, held_below  in range, where the words of FIFO f lie
--   at_inside             in range, the place of its oldest word is in the lent memory
--   read_told             the contract of any call that reads the oldest word of FIFO f
--   data_read, rx_popped, tx_popped, rx_peeked, tx_peeked    that of each call, from its reply
-- Assumes nothing.
use Rattle.std.specs.Prelude.{Ok}
use mathlib.Core.Path.{◌≡◌, refl, sym, ap, ◌∙◌}
use mathlib.Core.Bool.{true, false}
use mathlib.Core.List.{List, []}
use Prim.Native.Nat.{ℕ, zero, suc, ◌+◌, ◌≤◌, ◌<◌}
use native.Mathlib.Omega.{arith}
use lib.Dec.{eqb}
use lib.ListN.{length, get_or}
use borrow.Author.Tests.{eq-eqb, ne_eqb}
use Rattle.paper.specs.declared.Control.{Control}
use Rattle.paper.specs.declared.State.{State}
use Rattle.paper.specs.declared.Refusal.TheVariants.{NothingThere}
use Rattle.paper.specs.declared.Fifo.{Fifo}
use Rattle.paper.specs.declared.Fifo.TheVariants.{TxData, TxStatus, RxData, RxStatus}
use Rattle.paper.specs.Memory.{words_lent, Four, of, ring, with_ring, size, base, Change, keeps, takes, ring_after, memory_after}
use Rattle.paper.specs.Refusals.{in_range}
use Rattle.paper.specs.Calls.{Call, RxDataRead, RxStatusPop, RxStatusPeek, TxStatusPop, TxStatusPeek, lends}
use Rattle.paper.specs.Acts.{unchanged, does, refuses, oldest}
use Rattle.paper.specs.Machine.{World, waits, decide, apply}
use Rattle.paper.specs.Promises.{told, told_of}
use Rattle.paper.proofs.Memory.{within}
use Rattle.paper.proofs.Rings.{apply_nothing}
use Rattle.paper.proofs.Contracts.{world, told_same, told_decided, none_waits, oldest_waits}
use Rattle.entry.proofs.Parts.{split_range, in_ring}
use Rattle.reads.specs.Oldest.{oldest_of, oldest_in, left_of}

abbrev taking : Fifo → Four Change
taking TxData = record { txdata = takes 1; txstatus = keeps; rxdata = keeps; rxstatus = keeps }
taking TxStatus = record { txdata = keeps; txstatus = takes 1; rxdata = keeps; rxstatus = keeps }
taking RxData = record { txdata = keeps; txstatus = keeps; rxdata = takes 1; rxstatus = keeps }
taking RxStatus = record { txdata = keeps; txstatus = keeps; rxdata = keeps; rxstatus = takes 1 }

-- A read that takes changes the FIFO's ring, and no memory.
apply_taking : (f : Fifo) (s : State) (m : List ℕ) (v : ℕ)
    → apply (does s.control (taking f) v) (world s m) ≡ world (with_ring f (ring_after (size f s.control.registers.n) (takes 1) (ring f s)) s) m
unfolding apply ring_after memory_after
apply_taking TxData s m v = refl
apply_taking TxStatus s m v = refl
apply_taking RxData s m v = refl
apply_taking RxStatus s m v = refl

-- the word at the place of a FIFO's oldest
abbrev word : Fifo → State → List ℕ → ℕ
word f s m = get_or m (base f s.control.registers.n + (ring f s).at) 0

-- Of some words the count is not 0.
some_count : (k : ℕ) → eqb (suc k) 0 ≡ false
some_count k = ne_eqb (suc k) 0 (λ e. omega arith)

-- In range, the place of each FIFO's oldest word is in its part, and no more words wait than are in it.
pub at_below : (f : Fifo) (s : State) → in_range s ≡ true → (ring f s).at < size f s.control.registers.n
at_below f s range = (in_ring s range f).at_lt

pub held_below : (f : Fifo) (s : State) → in_range s ≡ true → (ring f s).count ≤ size f s.control.registers.n
held_below f s range = (in_ring s range f).count_le

-- And the place of the oldest word is in the lent memory.
pub at_inside : (f : Fifo) (s : State) → in_range s ≡ true → base f s.control.registers.n + (ring f s).at < words_lent
at_inside f s range =
    let n = split_range s range in
    omega (arith, within f s.control.registers.n n.0 n.1, at_below f s range)

module _ (s : State) (m : List ℕ) (long : length m ≡ words_lent) (range : in_range s ≡ true) where
  module _ (c : Call) (f : Fifo) (lent : lends c ≡ []) where
    -- The oldest word, where one waits, is told, and 11 where none does. The state t after it is s where none waits, else s with the changes made.
    read_told : (changes : Four Change) → ((k : Control) (w : Four (List ℕ)) → decide c k w ≡ oldest k changes (of w f))
        → (t : State) → ((ring f s).count ≡ 0 → t ≡ s)
        → ((k : ℕ) → (ring f s).count ≡ suc k → apply (does s.control changes (word f s m)) (world s m) ≡ world t m)
        → told (oldest_in f s m) t m ≡ told_of c s m
    read_told changes rule t none some = by_count (ring f s).count refl
      where
        decided : {w : List ℕ} → of (waits (world s m)) f ≡ w → decide c s.control (waits (world s m)) ≡ oldest s.control changes w
        decided there = rule s.control (waits (world s m)) ∙ ap (oldest s.control changes) there

        by_count : (k : ℕ) → (ring f s).count ≡ k → told (oldest_of k (word f s m)) t m ≡ told_of c s m
        by_count zero empty =
            rw (none empty)
            (sym (told_same c s m long range lent (refuses NothingThere s.control) (decided (none_waits f s m empty)) refl refl refl))
        by_count (suc k) there =
            rw (some_count k)
            (ap (λ (w : World). told (Ok (word f s m)) w.state w.memory) (sym (some k there))
            ∙ sym (told_decided c s m long range lent (does s.control changes (word f s m))
            (decided (oldest_waits f s m k there (in_ring s range f).at_lt)) refl))

    -- The oldest word, taken.
    pop_told : ((k : Control) (w : Four (List ℕ)) → decide c k w ≡ oldest k (taking f) (of w f)) → told (oldest_in f s m) (left_of f s) m ≡ told_of c s m
    pop_told rule =
        read_told (taking f) rule (left_of f s) (λ empty. rw (eq-eqb _ _ empty)) (λ k there. rw (there, some_count k) (apply_taking f s m (word f s m)))

    -- The oldest word, left.
    peek_told : ((k : Control) (w : Four (List ℕ)) → decide c k w ≡ oldest k unchanged (of w f)) → told (oldest_in f s m) s m ≡ told_of c s m
    peek_told rule = read_told unchanged rule s (λ _. refl) (λ _ _. apply_nothing _ (world s m) refl refl)

  -- A read of RX data and a pop take the oldest word of their FIFO.
  pub data_read : told (oldest_in RxData s m) (left_of RxData s) m ≡ told_of RxDataRead s m
  unfolding decide
  data_read = pop_told RxDataRead RxData refl (λ k w. refl)

  pub rx_popped : told (oldest_in RxStatus s m) (left_of RxStatus s) m ≡ told_of RxStatusPop s m
  unfolding decide
  rx_popped = pop_told RxStatusPop RxStatus refl (λ k w. refl)

  pub tx_popped : told (oldest_in TxStatus s m) (left_of TxStatus s) m ≡ told_of TxStatusPop s m
  unfolding decide
  tx_popped = pop_told TxStatusPop TxStatus refl (λ k w. refl)

  -- A peek leaves it.
  pub rx_peeked : told (oldest_in RxStatus s m) s m ≡ told_of RxStatusPeek s m
  unfolding decide
  rx_peeked = peek_told RxStatusPeek RxStatus refl (λ k w. refl)

  pub tx_peeked : told (oldest_in TxStatus s m) s m ≡ told_of TxStatusPeek s m
  unfolding decide
  tx_peeked = peek_told TxStatusPeek TxStatus refl (λ k w. refl)
