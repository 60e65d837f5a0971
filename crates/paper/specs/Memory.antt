-- The lent memory and its four FIFOs. Paper 01, Memory.
--   words_lent            the words that the caller lends
--   size f n, base f n    the words of a FIFO, and its first word in memory, for TX_FIF_SZ n
--   Four A, of q f        one A for each FIFO, and that of FIFO f
--   ring f s, with_ring f r s    the ring of FIFO f in the state s, and s with another one
--   place b s k           the word of memory for word k of a ring of s words from word b on
--   waiting b s r m       the words waiting in a ring of s words from word b on, oldest first
--   put_all b s k ws m    the memory after the words ws are put as words number k, k + 1 and so on
--   Change                what a call does to a FIFO: keeps it, puts words, takes the k oldest, or restarts it
--   ring_after, memory_after, waiting_after    the ring, the memory and the words waiting after a change
-- A ring's `at` is the place of its oldest word, so the next word put goes to place at + count, mod size (DECISIONS 18).
-- Assumes nothing.
use Rattle.std.specs.Prelude.{List, [], ◌∷◌, ◌++◌, ℕ, suc, ◌+◌, ◌-◌, ◌*◌, ◌%◌, length, get_or, set, drop}
use Rattle.paper.specs.declared.Ring.{Ring}
use Rattle.paper.specs.declared.State.{State}
use Rattle.paper.specs.declared.Fifo.{Fifo}
use Rattle.paper.specs.declared.Fifo.TheVariants.{TxData, TxStatus, RxData, RxStatus}
use Rattle.paper.specs.Words.{series}

-- 01: "The caller lends exactly 4,096 words of 32 bits, 16 KB."
abbrev pub words_lent : ℕ
words_lent = 4096

-- 01: the table of words. "TX_FIF_SZ is n, 2 to 14"
abbrev pub size : Fifo → (n : ℕ) → ℕ
size TxData n = 256 * n - 128
size TxStatus n = 128
size RxData n = 240 * (16 - n)
size RxStatus n = 16 * (16 - n)

-- 01: "In words, in this order from word 0"
abbrev pub base : Fifo → (n : ℕ) → ℕ
base TxData n = 0
base TxStatus n = size TxData n
base RxData n = size TxData n + size TxStatus n
base RxStatus n = size TxData n + size TxStatus n + size RxData n

pub record Four (A : Type 0) : Type 0 where
  pub txdata : A
  pub txstatus : A
  pub rxdata : A
  pub rxstatus : A

abbrev pub of : {A : Type 0} → Four A → Fifo → A
of q TxData = q.txdata
of q TxStatus = q.txstatus
of q RxData = q.rxdata
of q RxStatus = q.rxstatus

-- the ring of a FIFO, and the state with another ring of it
abbrev pub ring : Fifo → State → Ring
ring TxData s = s.txdata
ring TxStatus s = s.txstatus
ring RxData s = s.rxdata
ring RxStatus s = s.rxstatus

abbrev pub with_ring : Fifo → Ring → State → State
with_ring TxData r s = record { control = s.control; txdata = r; txstatus = s.txstatus; rxdata = s.rxdata; rxstatus = s.rxstatus }
with_ring TxStatus r s = record { control = s.control; txdata = s.txdata; txstatus = r; rxdata = s.rxdata; rxstatus = s.rxstatus }
with_ring RxData r s = record { control = s.control; txdata = s.txdata; txstatus = s.txstatus; rxdata = r; rxstatus = s.rxstatus }
with_ring RxStatus r s = record { control = s.control; txdata = s.txdata; txstatus = s.txstatus; rxdata = s.rxdata; rxstatus = r }

-- 01: "Word k put into a FIFO since its last restart, counting from 0, goes to place k mod size of that FIFO."
abbrev pub place : (base size k : ℕ) → ℕ
place base size k = base + k % size

unfoldable pub waiting : (base size : ℕ) → Ring → List ℕ → List ℕ
waiting base size r m = series (λ k. get_or m (place base size k) 0) r.at r.count

-- 01: "A put writes that word only"
unfoldable pub put_all : (base size k : ℕ) → List ℕ → List ℕ → List ℕ
put_all base size k [] m = m
put_all base size k (w ∷ ws) m = put_all base size (suc k) ws (set m (place base size k) w)

pub data Change : Type 0 where
  keeps : Change
  puts : List ℕ → Change
  takes : ℕ → Change
  restarts : Change

-- 01: "Room freed by a read is used again."
unfoldable pub ring_after : (size : ℕ) → Change → Ring → Ring
ring_after size keeps r = r
ring_after size (puts ws) r = record { at = r.at; count = r.count + length ws }
ring_after size (takes k) r = record { at = (r.at + k) % size; count = r.count - k }
ring_after size restarts r = record { at = 0; count = 0 }

-- 01: "A put writes that word only; a read or restart writes no memory."
unfoldable pub memory_after : (base size : ℕ) → Change → Ring → List ℕ → List ℕ
memory_after base size keeps r m = m
memory_after base size (puts ws) r m = put_all base size (r.at + r.count) ws m
memory_after base size (takes k) r m = m
memory_after base size restarts r m = m

-- What a change means for the words waiting: a put goes last, a take takes first. That rings do this is proved.
unfoldable pub waiting_after : Change → List ℕ → List ℕ
waiting_after keeps q = q
waiting_after (puts ws) q = q ++ ws
waiting_after (takes k) q = drop k q
waiting_after restarts q = []
