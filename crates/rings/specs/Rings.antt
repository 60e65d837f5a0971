-- What the functions of this crate ask, as facts on numbers, and what they leave, in the definitions of `paper`.
-- A ring has size words from word base on, in a memory of len words; its oldest word is at place at, and count words wait.
--   HasRoom     so many words more fit into the ring; 0 words always do
--   Waits       the k oldest words wait
--   InReach     word i, the oldest being word 0, can be asked for; it need not wait
--   Changed     the ring q and the memory m' are what a change makes of r and m
--   Placed      the place of word k, and that it lies in the ring's part
-- That base and size are at most 4096 is the invariant of `Part`; with numbers of words up to 4096 and 8192 it keeps sums within 32 bits.
-- That the part lies in the len words is asked here.
-- Assumes nothing.
use Rattle.std.specs.Prelude.{◌≡◌, List, ℕ, ◌+◌, ◌≤◌, ◌<◌}
use Rattle.paper.specs.declared.Ring.{Ring}
use Rattle.paper.specs.Memory.{place, Change, ring_after, memory_after}

pub record HasRoom (base size at count words len : ℕ) : Type 0 where
  pub inside : base + size ≤ len
  pub oldest : at < size
  pub room : count + words ≤ size

pub record Waits (size at count k : ℕ) : Type 0 where
  pub oldest : at < size
  pub held : count ≤ size
  pub there : k ≤ count

pub record InReach (base size at i len : ℕ) : Type 0 where
  pub inside : base + size ≤ len
  pub oldest : at < size
  pub near : i ≤ 4096

pub record Changed (base size : ℕ) (c : Change) (r q : Ring) (m m' : List ℕ) : Type 0 where
  pub ring : q ≡ ring_after size c r
  pub memory : m' ≡ memory_after base size c r m

pub record Placed (base size k p : ℕ) : Type 0 where
  pub spot : p ≡ place base size k
  pub inside : p < base + size
