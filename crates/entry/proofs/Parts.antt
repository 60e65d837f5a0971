-- What the functions of rings ask, for each FIFO of a state that passed the entry test.
--   split_range           n is 2 to 14
--   in_ring               each ring is in range
--   part_inside           each part lies in the lent memory
--   words_fit             so many words more fit, where the ring has room for them
-- Assumes nothing.
use mathlib.Core.Path.{◌≡◌}
use mathlib.Core.Bool.{true}
use mathlib.Core.List.{List}
use Prim.Native.Nat.{ℕ, ◌+◌, ◌≤◌}
use native.Mathlib.Omega.{arith}
use lib.ListN.{length}
use Rattle.paper.specs.declared.State.{State}
use Rattle.paper.specs.declared.Fifo.{Fifo}
use Rattle.paper.specs.Memory.{words_lent, size, base}
use Rattle.paper.specs.Refusals.{in_range}
use Rattle.paper.proofs.Memory.{InRing, within}
use Rattle.paper.specs.Memory.{ring}
use Rattle.paper.proofs.Entry.{ready}
use Rattle.paper.proofs.Fifos.{each}
use Rattle.rings.specs.Rings.{HasRoom}
use Rattle.entry.specs.Parts.{split_of}

-- In range, n is 2 to 14.
pub split_range : (s : State) → in_range s ≡ true → (2 ≤ split_of s) × (split_of s ≤ 14)
split_range s e = ((ready s e).low, (ready s e).high)

-- In range, each ring is.
pub in_ring : (s : State) → in_range s ≡ true → (f : Fifo) → InRing (size f (split_of s)) (ring f s)
in_ring s e =
    let r = ready s e in
    each (λ f. InRing (size f (split_of s)) (ring f s))
    (record { at_lt = r.txdata_at; count_le = r.txdata_count })
    (record { at_lt = r.txstatus_at; count_le = r.txstatus_count })
    (record { at_lt = r.rxdata_at; count_le = r.rxdata_count })
    (record { at_lt = r.rxstatus_at; count_le = r.rxstatus_count })

-- A FIFO's part lies in the lent memory.
pub part_inside : (f : Fifo) (s : State) (m : List ℕ) → in_range s ≡ true → length m ≡ words_lent → base f (split_of s) + size f (split_of s) ≤ length m
part_inside f s m range long = let n = split_range s range in omega (arith, within f (split_of s) n.0 n.1, long)

-- Words for which there is room can be put.
pub words_fit : (f : Fifo) (s : State) (m : List ℕ) → in_range s ≡ true → length m ≡ words_lent → (k : ℕ) → (ring f s).count + k ≤ size f (split_of s)
    → HasRoom (base f (split_of s)) (size f (split_of s)) (ring f s).at (ring f s).count k (length m)
words_fit f s m range long k h = record { inside = part_inside f s m range long; oldest = (in_ring s range f).at_lt; room = h }
