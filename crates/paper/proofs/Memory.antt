-- The four FIFOs in the lent memory, and one ring in its part of it: that rings are queues.
--   sizes_sum, size_positive, within, apart    the four parts fill the memory, none is empty, each lies in it, no two meet
--   InRing s r, Fits s c r    the ring r is in range for s words; the change c fits it
--   waiting_length, waiting_none, waiting_oldest    how many words wait; none; the oldest, and the others
--   put_all-length, put_all-append, put_all_other, put_all_reads    the memory after a put: its length, two puts, the words elsewhere, the words put
--   change_length, change_in_ring, change_waiting, change_elsewhere    what a change does to the memory's length, the ring, its words and those of others
--   put_last, take_first      a put goes last, a take takes first
-- Assumes nothing.
use mathlib.Core.Path.{◌≡◌, refl, sym, ◌∙◌, ap}
use mathlib.Core.Logic.{◌≢◌}
use mathlib.Core.List.{List, [], ◌∷◌, ◌++◌}
use Prim.Native.Nat.{ℕ, zero, suc, ◌+◌, ◌-◌, ◌%◌, ◌≤◌, ◌<◌}
use native.Mathlib.Nat.{add-zero, suc-add, add-suc, mod-lt, mod-eq_of_lt, mod-add-mod}
use native.Mathlib.Omega.{arith}
use lib.ListN.{length, get_or, set, drop, length-set}
use lib.Seq.{get_or-set_same, get_or-set_other}
use Rattle.paper.specs.declared.Ring.{Ring}
use Rattle.paper.specs.Words.{series}
use Rattle.paper.specs.declared.Fifo.{Fifo}
use Rattle.paper.specs.declared.Fifo.TheVariants.{TxData, TxStatus, RxData, RxStatus}
use Rattle.paper.specs.Memory.{words_lent, size, base, place, waiting, put_all}
use Rattle.paper.specs.Memory.{Change, keeps, puts, takes, restarts, ring_after, memory_after, waiting_after}
use Rattle.paper.proofs.Words.{series-length, series-append, series-drop, series_agree, series_lists}

-- ---- the four parts of the memory

-- together they are all of it
pub sizes_sum : (n : ℕ) → 2 ≤ n → n ≤ 14 → size TxData n + size TxStatus n + size RxData n + size RxStatus n ≡ words_lent
sizes_sum n low high = omega arith

-- none is empty
pub size_positive : (f : Fifo) (n : ℕ) → 2 ≤ n → n ≤ 14 → 0 < size f n
size_positive f n low high = grind arith

-- each lies in it
pub within : (f : Fifo) (n : ℕ) → 2 ≤ n → n ≤ 14 → base f n + size f n ≤ words_lent
within f n low high = grind arith

-- s words from word b on, and s' words from b' on, with no word in both
pub data Apart (b s b' s' : ℕ) : Type 0 where
  before : b + s ≤ b' → Apart b s b' s'
  behind : b' + s' ≤ b → Apart b s b' s'

-- no two parts meet
pub apart : (f g : Fifo) (n : ℕ) → f ≢ g → 2 ≤ n → n ≤ 14 → Apart (base f n) (size f n) (base g n) (size g n)
apart f g n d low high = grind arith

-- places of two parts that do not meet are two places
pub apart_places : {b s b' s' : ℕ} → Apart b s b' s' → 0 < s → 0 < s' → (i j : ℕ) → place b' s' j ≢ place b s i
apart_places a p p' i j = grind (arith, mod-lt)

-- two numbers that differ by less than s differ modulo s
mods_differ : (s i j : ℕ) → i < j → j < i + s → j % s ≢ i % s
mods_differ s i j h l e = grind (arith, mod-add-mod, mod-lt)

-- two words whose numbers differ by less than the size are at two places
pub places_differ : (b s i j : ℕ) → i < j → j < i + s → place b s i ≢ place b s j
places_differ b s i j h l e = mods_differ s i j h l (omega arith)

-- ---- a ring and the words waiting in it

-- the ring r is in range, for s words
pub record InRing (s : ℕ) (r : Ring) : Type 0 where
  pub at_lt : r.at < s
  pub count_le : r.count ≤ s

-- a change fits: there is room for the words put, and the words taken are there
abbrev pub Fits : (size : ℕ) → Change → Ring → Type 0
Fits size keeps r = Unit {0}
Fits size (puts ws) r = r.count + length ws ≤ size
Fits size (takes k) r = k ≤ r.count
Fits size restarts r = Unit {0}

-- as many words wait as the ring counts
pub waiting_length : (b s : ℕ) (r : Ring) (m : List ℕ) → length (waiting b s r m) ≡ r.count
unfolding waiting
waiting_length b s r m = series-length _ r.at r.count

-- in a ring that counts none, none waits
pub waiting_none : (b s : ℕ) (r : Ring) (m : List ℕ) → r.count ≡ 0 → waiting b s r m ≡ []
unfolding waiting series
waiting_none b s r m e = rw e

-- the words waiting in one memory wait in another that has the same words in the ring's part
pub waiting_agree : (b s : ℕ) (r : Ring) (m m' : List ℕ)
    → ((i : ℕ) → i < r.count → get_or m (place b s (r.at + i)) 0 ≡ get_or m' (place b s (r.at + i)) 0) → waiting b s r m ≡ waiting b s r m'
unfolding waiting
waiting_agree b s r m m' h = series_agree _ _ r.at r.at r.count h

-- the words of a ring from word k on wait in the ring without its first k
pub waiting_past : (b s k : ℕ) (r : Ring) (m : List ℕ) → k ≤ r.count → waiting b s (ring_after s (takes k) r) m ≡ drop k (waiting b s r m)
unfolding waiting ring_after
waiting_past b s k r m h =
    series_agree _ _ ((r.at + k) % s) (r.at + k) (r.count - k) (λ i l. rw (mod-add-mod (r.at + k) s i))
    ∙ sym (series-drop _ r.at k r.count h)

-- the oldest word is at the ring's place, and the others wait in the ring without it
pub waiting_oldest : (b s k : ℕ) (r : Ring) (m : List ℕ) → r.count ≡ suc k → r.at < s
    → waiting b s r m ≡ get_or m (b + r.at) 0 ∷ waiting b s (ring_after s (takes 1) r) m
unfolding waiting series
waiting_oldest b s k r m e h = rw (waiting_past b s 1 r m (omega arith), e, mod-eq_of_lt h)

-- ---- words put into a ring

-- a put leaves the memory's length
pub put_all-length : (b s k : ℕ) (ws m : List ℕ) → length (put_all b s k ws m) ≡ length m
unfolding put_all
put_all-length b s k [] m = refl
put_all-length b s k (w ∷ ws) m = put_all-length b s (suc k) ws (set m (place b s k) w) ∙ length-set m (place b s k) w

-- two puts, one behind the other
pub put_all-append : (b s k : ℕ) (ws vs m : List ℕ) → put_all b s k (ws ++ vs) m ≡ put_all b s (k + length ws) vs (put_all b s k ws m)
unfolding put_all
put_all-append b s k [] vs m = grind arith
put_all-append b s k (w ∷ ws) vs m = grind (arith, put_all-append b s (suc k) ws vs (set m (place b s k) w))

-- a put of one more word
pub put_all-snoc : (b s k : ℕ) (ws : List ℕ) (w : ℕ) (m : List ℕ) → put_all b s k (ws ++ w ∷ []) m ≡ set (put_all b s k ws m) (place b s (k + length ws)) w
unfolding put_all
put_all-snoc b s k ws w m = put_all-append b s k ws (w ∷ []) m

-- a put leaves each word that is not at a place of it
pub put_all_other : (b s k : ℕ) (ws m : List ℕ) (p : ℕ) → ((i : ℕ) → i < length ws → p ≢ place b s (k + i))
    → get_or (put_all b s k ws m) p 0 ≡ get_or m p 0
unfolding put_all
put_all_other b s k [] m p h = refl
put_all_other b s k (w ∷ ws) m p h =
    put_all_other b s (suc k) ws (set m (place b s k) w) p (λ i l. simp suc-add (simp add-suc at (h (suc i) (omega arith))))
    ∙ get_or-set_other m (place b s k) p w 0 (rw add-zero at (h 0 (omega arith)))

-- a put of no more words than the ring has writes word i at place k + i
pub put_all_reads : (b s k : ℕ) (ws m : List ℕ) (i : ℕ) → i < length ws → length ws ≤ s → b + s ≤ length m
    → get_or (put_all b s k ws m) (place b s (k + i)) 0 ≡ get_or ws i 0
unfolding put_all
put_all_reads b s k [] m i h l fit = grind arith
put_all_reads b s k (w ∷ ws) m zero h l fit =
    rw add-zero
    (put_all_other b s (suc k) ws (set m (place b s k) w) (place b s k) (λ i t. places_differ b s k (suc k + i) (omega arith) (omega arith))
    ∙ get_or-set_same m (place b s k) w 0 (omega (arith, mod-lt k {m = s} (omega arith))))
put_all_reads b s k (w ∷ ws) m (suc i) h l fit = grind (arith, put_all_reads b s (suc k) ws (set m (place b s k) w) i, length-set)

-- ---- a change of a ring

-- a change leaves the memory's length
pub change_length : (b s : ℕ) (c : Change) (r : Ring) (m : List ℕ) → length (memory_after b s c r m) ≡ length m
unfolding memory_after
change_length b s c r m = grind (arith, put_all-length)

-- a change that fits leaves the ring in range
pub change_in_ring : (s : ℕ) (c : Change) (r : Ring) → InRing s r → Fits s c r → InRing s (ring_after s c r)
unfolding ring_after
change_in_ring s c r o t = grind (arith, mod-lt)

-- a put that fits leaves the words that waited
put_all_old : (b s : ℕ) (ws : List ℕ) (r : Ring) (m : List ℕ) → r.count + length ws ≤ s
    → waiting b s r (put_all b s (r.at + r.count) ws m) ≡ waiting b s r m
put_all_old b s ws r m room =
    waiting_agree b s r _ m λ i h. put_all_other b s _ ws m _ λ j l. places_differ b s (r.at + i) (r.at + r.count + j) (omega arith) (omega arith)

-- behind them wait the words put
put_all_waiting : (b s : ℕ) (ws : List ℕ) (r : Ring) (m : List ℕ) → b + s ≤ length m → r.count + length ws ≤ s
    → waiting b s (ring_after s (puts ws) r) (put_all b s (r.at + r.count) ws m) ≡ waiting b s r m ++ ws
unfolding waiting ring_after
put_all_waiting b s ws r m fit room =
    let k : ℕ = r.at + r.count in
    let new : (i : ℕ) → i < length ws → get_or (put_all b s k ws m) (place b s (k + i)) 0 ≡ get_or ws i 0 = λ i h. put_all_reads b s k ws m i h (omega arith) fit in
    series-append _ r.at r.count (length ws) ∙ cc (put_all_old b s ws r m room, series_lists _ k ws 0 new)

-- what a change that fits does to the words waiting: a ring is a queue
pub change_waiting : (b s : ℕ) (c : Change) (r : Ring) (m : List ℕ) → b + s ≤ length m → Fits s c r
    → waiting b s (ring_after s c r) (memory_after b s c r m) ≡ waiting_after c (waiting b s r m)
unfolding memory_after waiting_after ring_after
change_waiting b s keeps r m fit t = refl
change_waiting b s (puts ws) r m fit t = put_all_waiting b s ws r m fit t
change_waiting b s (takes k) r m fit t = waiting_past b s k r m t
change_waiting b s restarts r m fit t = waiting_none b s _ m refl

-- a put goes last
pub put_last : (b s : ℕ) (ws : List ℕ) (r : Ring) (m : List ℕ) → b + s ≤ length m → r.count + length ws ≤ s
    → waiting b s (ring_after s (puts ws) r) (memory_after b s (puts ws) r m) ≡ waiting b s r m ++ ws
unfolding waiting_after
put_last b s ws r m fit room = change_waiting b s (puts ws) r m fit room

-- a take takes first
pub take_first : (b s : ℕ) (r : Ring) (m : List ℕ) {w : ℕ} {q : List ℕ} → waiting b s r m ≡ w ∷ q
    → waiting b s (ring_after s (takes 1) r) (memory_after b s (takes 1) r m) ≡ q
unfolding memory_after
take_first b s r m e = waiting_past b s 1 r m (omega (arith, ap length e, waiting_length b s r m)) ∙ ap (drop 1) e

-- a change of one ring leaves the words waiting in another, if their parts of the memory do not meet
pub change_elsewhere : {b s b' s' : ℕ} → Apart b s b' s' → 0 < s → 0 < s' → (c : Change) (r r' : Ring) (m : List ℕ)
    → waiting b' s' r' (memory_after b s c r m) ≡ waiting b' s' r' m
unfolding memory_after
change_elsewhere d p p' keeps r r' m = refl
change_elsewhere {b} {s} {b'} {s'} d p p' (puts ws) r r' m =
    waiting_agree b' s' r' _ m λ i h. put_all_other b s _ ws m _ λ j l. apart_places d p p' (r.at + r.count + j) (r'.at + i)
change_elsewhere d p p' (takes k) r r' m = refl
change_elsewhere d p p' restarts r r' m = refl
