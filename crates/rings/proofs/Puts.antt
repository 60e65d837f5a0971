-- Words put one after the other come to the same as all of them at once, and what a run of a frame's words still has to put.
--   put_memory, put_ring      a put of two runs of words: the second goes behind the first
--   none_memory, none_ring    a put of no words
--   words_left, words_done    of a frame's data words from word k on, the first, and the end
--   Going                     k of the words are put, and the words left come to the same as all of them put at the start
--   going_on, going_done      one more word put, and none left
-- Assumes nothing.
use mathlib.Core.Path.{◌≡◌, refl, sym, ap, ◌∙◌}
use mathlib.Core.List.{List, [], ◌∷◌, ◌++◌}
use Prim.Native.Nat.{ℕ, ◌+◌, ◌*◌, ◌≤◌, ◌<◌}
use native.Mathlib.Nat.{add-zero, add_assoc}
use native.Mathlib.Numerals.{add-one}
use native.Mathlib.Omega.{arith}
use lib.ListN.{length, drop, length-append, drop_of_length-le}
use lib.Seq.{drop-cons}
use Rattle.paper.specs.declared.Ring.{Ring}
use Rattle.paper.specs.Words.{word_at}
use Rattle.paper.specs.Memory.{put_all, puts, ring_after, memory_after}
use Rattle.paper.specs.Arrivals.{words_for, data_words}
use Rattle.paper.proofs.Memory.{put_all-append, change_length}
use Rattle.paper.proofs.Counts.{data_words-length, data_words_at}
use Rattle.rings.specs.Rings.{Changed}

-- the memory after two runs of words is that after the second, put behind the first
pub put_memory : (b s : ℕ) (ws vs : List ℕ) (r : Ring) (m : List ℕ)
    → memory_after b s (puts (ws ++ vs)) r m ≡ memory_after b s (puts vs) (ring_after s (puts ws) r) (memory_after b s (puts ws) r m)
unfolding memory_after ring_after
put_memory b s ws vs r m = rw (← add_assoc) (put_all-append b s (r.at + r.count) ws vs m)

-- so is the ring
pub put_ring : (s : ℕ) (ws vs : List ℕ) (r : Ring) → ring_after s (puts (ws ++ vs)) r ≡ ring_after s (puts vs) (ring_after s (puts ws) r)
unfolding ring_after
put_ring s ws vs r = rw (length-append, add_assoc)

-- a put of no words leaves the memory
pub none_memory : (b s : ℕ) (r : Ring) (m : List ℕ) → memory_after b s (puts []) r m ≡ m
unfolding memory_after put_all
none_memory b s r m = refl

-- and the ring
pub none_ring : (s : ℕ) (r : Ring) → ring_after s (puts []) r ≡ r
unfolding ring_after
none_ring s r = rw add-zero

-- of a frame's data words from word k on, the first is that of the four bytes from byte 4k on
pub words_left : (frame : List ℕ) (k : ℕ) → k < words_for (length frame)
    → drop k (data_words frame) ≡ word_at frame (4 * k) ∷ drop (k + 1) (data_words frame)
words_left frame k h =
    drop-cons (data_words frame) k 0 (rw data_words-length h) ∙ rw (add-one k, data_words_at frame k h)

-- past the last there is none
pub words_done : (frame : List ℕ) (k : ℕ) → words_for (length frame) ≤ k → drop k (data_words frame) ≡ []
words_done frame k h = drop_of_length-le (data_words frame) {i = k} (rw data_words-length h)

-- ---- a run of words, one put after the other

-- the words left come to the same as all of them at the start, where the ring was r₀ and the memory m₀
pub record Going (b s : ℕ) (ws : List ℕ) (r₀ : Ring) (m₀ : List ℕ) (r : Ring) (m : List ℕ) (k : ℕ) : Type 0 where
  pub same : length m ≡ length m₀
  pub oldest : r.at ≡ r₀.at
  pub raised : r.count ≡ r₀.count + k
  pub ring : ring_after s (puts (drop k ws)) r ≡ ring_after s (puts ws) r₀
  pub memory : memory_after b s (puts (drop k ws)) r m ≡ memory_after b s (puts ws) r₀ m₀

module _ {b s : ℕ} {ws : List ℕ} {r₀ : Ring} {m₀ : List ℕ} where
  -- so it is after one more word
  pub going_on : {r r' : Ring} {m m' : List ℕ} {k w : ℕ} → Going b s ws r₀ m₀ r m k → drop k ws ≡ w ∷ drop (k + 1) ws
      → Changed b s (puts (w ∷ [])) r r' m m' → Going b s ws r₀ m₀ r' m' (k + 1)
  unfolding ring_after
  going_on {r} {r'} {m} {m'} {k} {w} g e p =
      record {
        same = ap length p.memory ∙ change_length b s (puts (w ∷ [])) r m ∙ g.same;
        oldest = ap (λ (x : Ring). x.at) p.ring ∙ g.oldest;
        raised = omega (arith, ap (λ (x : Ring). x.count) p.ring, g.raised);
        ring = cc (put_ring s (w ∷ []) (drop (k + 1) ws) r);
        memory = cc (put_memory b s (w ∷ []) (drop (k + 1) ws) r m);
      }

  -- where no word is left, all of them are put
  pub going_done : {r : Ring} {m : List ℕ} {k : ℕ} → Going b s ws r₀ m₀ r m k → drop k ws ≡ [] → Changed b s (puts ws) r₀ r m₀ m
  going_done {r} {m} {k} g e =
      record {
        ring = sym (none_ring s r) ∙ rw (← e) g.ring;
        memory = sym (none_memory b s r m) ∙ rw (← e) g.memory;
      }
