-- A whole packet as it lies in TX data: it is read back as the host wrote it.
--   buffer_of x           a written buffer as it lies in TX data
--   kept_length           its payload is as long as its A says
--   bytes_of-drop, bytes_of-take, take_within, kept_bytes    the bytes of a buffer are in the words stored
--   head_of_laid          reading back finds the packet, whatever lies behind it
--   sent_of_laid, freed_of_laid, bytes_of_whole, laid_three    its bytes, its words, its length
-- Assumes nothing.
use Rattle.std.specs.Prelude.{if◌then◌else◌}
use mathlib.Core.Path.{◌≡◌, refl, sym, ap, ◌∙◌}
use mathlib.Core.Bool.{Bool, true, false}
use mathlib.Core.List.{List, [], ◌∷◌, ◌++◌, map, append_assoc}
use Prim.Native.Nat.{ℕ, zero, suc, ◌+◌, ◌*◌, ◌%◌, ◌≤◌}
use native.Mathlib.Omega.{arith}
use native.Mathlib.Nat.{not-suc-le-zero}
use lib.Dec.{ltb}
use lib.ListN.{length, take, drop, length-append, length-drop}
use lib.Seq.{take_at, drop_at, take-take, take-nil, drop-nil, drop-drop}
use borrow.Author.Tests.{le-ltb}
use Rattle.paper.specs.Words.{bytes_of}
use Rattle.paper.specs.Transmission.{offset, buffer_size, host_words, front_words, stored_words, is_last, sizes_agree, packet_length, good_length}
use Rattle.paper.specs.Sending.{Buffer, Found, behind, from_a, buffers_from, head_of, buffer_bytes, sent_bytes, freed}
use Rattle.paper.specs.Ledger.{Written, Whole, kept_of, laid_later, laid_first, laid, written_bytes, buffers_bytes, packet_bytes}
use Rattle.paper.proofs.Counts.{stored_within, stored_words_pos, buffer_bytes-length}
use Rattle.paper.specs.Packets.{last, more}
use Rattle.paper.proofs.Kept.{Fine, Ended, GoodWhole}
use Rattle.std.proofs.lemmas.List.{drop-take}
use lib.ListN.{length-take}
use Prim.Native.Nat.{◌-◌}
use Rattle.std.proofs.lemmas.Bool.Decides.{nat_tests}

-- a written buffer as it lies in TX data
abbrev pub buffer_of : Written → Buffer
buffer_of x = record { a = x.a; payload = kept_of x.a x.words }

-- ---- One buffer

-- The words kept of a full buffer are as many as its A says.
pub kept_length : (a : ℕ) (words : List ℕ) → length words ≡ host_words a → length (kept_of a words) ≡ stored_words a
kept_length a words full = grind (arith, length-take, length-drop, stored_within)

-- Words dropped are four bytes each dropped.
pub bytes_of-drop : (k : ℕ) (ws : List ℕ) → bytes_of (drop k ws) ≡ drop (4 * k) (bytes_of ws)
unfolding bytes_of
bytes_of-drop zero ws = refl
bytes_of-drop (suc k) [] = sym (drop-nil (4 * suc k))
bytes_of-drop (suc k) (w ∷ ws) =
    let four : 4 * suc k ≡ suc (suc (suc (suc (4 * k)))) = omega arith in
    rw four (bytes_of-drop k ws)

-- Words taken are four bytes each taken.
pub bytes_of-take : (k : ℕ) (ws : List ℕ) → bytes_of (take k ws) ≡ take (4 * k) (bytes_of ws)
unfolding bytes_of
bytes_of-take zero ws = refl
bytes_of-take (suc k) [] = sym (take-nil (4 * suc k))
bytes_of-take (suc k) (w ∷ ws) =
    let four : 4 * suc k ≡ suc (suc (suc (suc (4 * k)))) = omega arith in
    rw (four, bytes_of-take k ws)

-- What lies within the first n elements is there without the others.
pub take_within : {A : Type 0} (s r n : ℕ) (l : List A) → r + s ≤ n → take s (drop r (take n l)) ≡ take s (drop r l)
take_within s r n l h =
    let split : n ≡ r + (n - r) = omega arith in
    rw split (rw drop-take (take-take s (n - r) (drop r l) (omega arith)))

-- A buffer's bytes are in the words that are stored.
pub kept_bytes : (x : Written) → buffer_bytes (buffer_of x) ≡ written_bytes x
kept_bytes x =
    let a = x.a in
    let bytes = bytes_of x.words in
    let place : 4 * front_words a + offset a % 4 ≡ offset a = omega arith in
    rw (bytes_of-take (stored_words a) (drop (front_words a) x.words), bytes_of-drop (front_words a) x.words)
    (take_within (buffer_size a) (offset a % 4) (4 * stored_words a) (drop (4 * front_words a) bytes) (omega arith)
    ∙ ap (take (buffer_size a)) (drop-drop (offset a % 4) (4 * front_words a) bytes ∙ ap (λ k. drop k bytes) place))

-- A full buffer has as many bytes as its A says.
pub written_length : (x : Written) → length x.words ≡ host_words x.a → length (written_bytes x) ≡ buffer_size x.a
written_length x full = ap length (sym (kept_bytes x)) ∙ buffer_bytes-length (buffer_of x) (kept_length x.a x.words full)

-- ---- Buffers one behind the other

-- Their bytes are those that the host wrote.
sent_of_buffers : (xs : List Written) → sent_bytes (map buffer_of xs) ≡ buffers_bytes xs
unfolding sent_bytes buffers_bytes
sent_of_buffers [] = refl
sent_of_buffers (x ∷ xs) = rw (kept_bytes x, sent_of_buffers xs)

-- They take as many words as they lie in, and one for the first B.
freed_of_buffers : (xs : List Written) → freed (map buffer_of xs) ≡ 1 + length (laid_later xs)
unfolding freed laid_later
freed_of_buffers [] = refl
freed_of_buffers (x ∷ xs) = simp length-append (omega (arith, freed_of_buffers xs))

-- Each of them has at least one word.
buffers_words : (xs : List Written) → length xs ≤ length (laid_later xs)
unfolding laid_later
buffers_words [] = omega arith
buffers_words (x ∷ xs) = simp length-append (omega (arith, buffers_words xs))

-- Buffers that end a packet bring its bytes to its length.
ended_bytes : {is_open : Bool} {b sizes : ℕ} {xs : List Written} → Ended is_open b sizes xs → sizes + length (buffers_bytes xs) ≡ packet_length b
unfolding buffers_bytes sizes_agree
ended_bytes (last fine ends) = grind (arith, nat_tests, length-append, written_length)
ended_bytes (more fine goes others) = grind (arith, length-append, written_length, ended_bytes others)

-- One buffer is read back, and then what lies behind it.
buffer_read : (most b sizes : ℕ) (x : Written) (q : List ℕ) → sizes_agree x.a b sizes ≡ true → length x.words ≡ host_words x.a
    → buffers_from (suc most) b sizes x.a (kept_of x.a x.words ++ q)
    ≡ behind (buffer_of x) (if is_last x.a then Found b [] else from_a true (λ later rest. buffers_from most b (sizes + buffer_size x.a) later rest) q)
unfolding buffers_from
buffer_read most b sizes x q agree full =
    let stored = stored_words x.a in
    let kept = kept_of x.a x.words in
    let long : length kept ≡ stored = kept_length x.a x.words full in
    let enough : ltb (length (kept ++ q)) stored ≡ false = le-ltb (length (kept ++ q)) stored (rw (length-append kept q) (omega arith)) in
    rw (agree, enough, take_at kept q stored long, drop_at kept q stored long)

-- Buffers that end a packet are read back, whatever lies behind them.
buffers_read : {is_open : Bool} {b sizes : ℕ} {xs : List Written} (most : ℕ) → Ended is_open b sizes xs → length xs ≤ most → (rest : List ℕ)
    → from_a is_open (λ later q. buffers_from most b sizes later q) (laid_later xs ++ rest) ≡ Found b (map buffer_of xs)
unfolding laid_later
buffers_read zero (last fine ends) enough rest = absurd (not-suc-le-zero enough)
buffers_read zero (more fine goes others) enough rest = absurd (not-suc-le-zero enough)
buffers_read {b = b} {sizes = sizes} (suc most) (last {x = x} fine ends) enough rest =
    rw (fine.begun.good, append_assoc (kept_of x.a x.words) [] rest, buffer_read most b sizes x rest fine.begun.agree fine.full, ends)
buffers_read {is_open = is_open} {b = b} {sizes = sizes} (suc most) (more {x = x} {xs = xs} fine goes others) enough rest =
    rw (
      fine.begun.good,
      append_assoc (kept_of x.a x.words) (laid_later xs) rest,
      buffer_read most b sizes x (laid_later xs ++ rest) fine.begun.agree fine.full,
      goes,
      buffers_read {is_open = true} most others (omega arith) rest,
    )

-- ---- The first buffer, with the first B

module _ (b : ℕ) (x : Written) (xs : List Written) (fine : Fine false b 0 x) where
  -- The words of the buffer and of those behind it.
  first_length : length (laid_first b (x ∷ xs)) ≡ 2 + stored_words x.a + length (laid_later xs)
  unfolding laid_first
  first_length = grind (arith, length-append, kept_length)

  -- They are freed when the packet is sent.
  first_freed : freed (map buffer_of (x ∷ xs)) ≡ length (laid_first b (x ∷ xs))
  unfolding freed
  first_freed = omega (arith, first_length, freed_of_buffers xs, kept_length x.a x.words fine.full)

  -- An A, the B and a payload word are three.
  first_three : 3 ≤ length (laid_first b (x ∷ xs))
  first_three = omega (arith, first_length, stored_words_pos false x.a fine.begun.good)

  -- Reading back finds them.
  first_read : (rest : List ℕ) → good_length b ≡ true → Ended false b 0 (x ∷ xs) → head_of (laid_first b (x ∷ xs) ++ rest) ≡ Found b (map buffer_of (x ∷ xs))
  unfolding head_of laid_first laid_later
  first_read rest long ended =
      let kept = kept_of x.a x.words in
      let words : length kept ≡ stored_words x.a = kept_length x.a x.words fine.full in
      let some : 1 ≤ stored_words x.a = stored_words_pos false x.a fine.begun.good in
      let enough : length (x ∷ xs) ≤ length ((kept ++ laid_later xs) ++ rest) = simp length-append (omega (arith, buffers_words xs)) in
      let read = buffers_read (length ((kept ++ laid_later xs) ++ rest)) ended enough rest in
      rw (fine.begun.good, long) (rw fine.begun.good at read)

-- What holds of a packet by its first buffer holds of every whole packet.
by_first : (P : ℕ → List Written → Type 0) → ((b : ℕ) (x : Written) (xs : List Written) → Fine false b 0 x → Ended false b 0 (x ∷ xs) → P b (x ∷ xs))
    → {b : ℕ} {xs : List Written} → Ended false b 0 xs → P b xs
by_first P first {b} (last {x = x} fine ends) = first b x [] fine (last fine ends)
by_first P first {b} (more {x = x} {xs = xs} fine goes others) = first b x xs fine (more fine goes others)

-- ---- A whole packet

-- Reading back the words of a whole packet finds it, whatever lies behind it.
pub head_of_laid : (p : Whole) (rest : List ℕ) → GoodWhole p → head_of (laid p ++ rest) ≡ Found p.b (map buffer_of p.buffers)
head_of_laid p rest good =
    by_first (λ b xs. good_length b ≡ true → head_of (laid_first b xs ++ rest) ≡ Found b (map buffer_of xs))
    (λ b x xs fine e long. first_read b x xs fine rest long e) good.ended good.long

-- Its bytes are those that the host wrote.
pub sent_of_laid : (p : Whole) → GoodWhole p → sent_bytes (map buffer_of p.buffers) ≡ packet_bytes p
sent_of_laid p good = sent_of_buffers p.buffers

-- It takes as many words as are freed when it is sent.
pub freed_of_laid : (p : Whole) → GoodWhole p → freed (map buffer_of p.buffers) ≡ length (laid p)
freed_of_laid p good = by_first (λ b xs. freed (map buffer_of xs) ≡ length (laid_first b xs)) (λ b x xs fine e. first_freed b x xs fine) good.ended

-- It has as many bytes as its first B says.
pub bytes_of_whole : (p : Whole) → GoodWhole p → length (packet_bytes p) ≡ packet_length p.b
bytes_of_whole p good = omega (arith, ended_bytes good.ended)

-- It takes at least three words: an A, its B and a payload word.
pub laid_three : (p : Whole) → GoodWhole p → 3 ≤ length (laid p)
laid_three p good = by_first (λ b xs. 3 ≤ length (laid_first b xs)) (λ b x xs fine e. first_three b x xs fine) good.ended
