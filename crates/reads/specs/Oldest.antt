-- A read of a FIFO, by its ring. Paper 01, Refusal numbers, 11: "nothing to read, peek or send".
--   oldest_of count w      the answer where count words wait and w is at the place of the oldest
--   oldest_in f s m        that of FIFO f
--   left_of f s            the state without the oldest word of FIFO f; the state itself where none waits
--   popped, peeked f s m   the reply of a read that takes the oldest word, and of one that leaves it
-- Assumes nothing.
use Rattle.std.specs.Prelude.{if◌then◌else◌, List, ℕ, ◌+◌, eqb, get_or, Err, Ok}
use Rattle.paper.specs.declared.State.{State}
use Rattle.paper.specs.declared.Reply.{Reply}
use Rattle.paper.specs.declared.Fifo.{Fifo}
use Rattle.paper.specs.declared.Refusal.TheVariants.{NothingThere}
use Rattle.paper.specs.Answers.{Answer}
use Rattle.paper.specs.Memory.{ring, with_ring, size, base, takes, ring_after}

-- 01, refusal 11: "nothing to read, peek or send"
abbrev pub oldest_of : (count w : ℕ) → Answer
oldest_of count w = if eqb count 0 then Err NothingThere else Ok w

abbrev pub oldest_in : Fifo → State → List ℕ → Answer
oldest_in f s m = oldest_of (ring f s).count (get_or m (base f s.control.registers.n + (ring f s).at) 0)

-- 01: "Room freed by a read is used again."
abbrev pub left_of : Fifo → State → State
left_of f s =
    if eqb (ring f s).count 0 then s else
    with_ring f (ring_after (size f s.control.registers.n) (takes 1) (ring f s)) s

abbrev pub popped : Fifo → State → List ℕ → Reply ℕ
popped f s m = record { answer = oldest_in f s m; state = left_of f s }

abbrev pub peeked : Fifo → State → List ℕ → Reply ℕ
peeked f s m = record { answer = oldest_in f s m; state = s }
