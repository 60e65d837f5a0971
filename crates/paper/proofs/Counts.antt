-- Counts and bounds: how many words and bytes there are, and how large they can be. Paper 01, An arriving frame and Words for transmission.
--   data_words-length, data_words_at, words_for_pos, words_for_bound, word_at_bound    the data words of a frame
--   buffer_size_pos, stored_words_.., host_words_.., stored_within, counts_add     the words of a buffer, by its A
--   setting_number_bound, flags_bound, outcome_bound, maccr_bound                  words with few bits
--   status_bound, tx_status_bound, rx_inf_bound, tx_inf_bound, one_more_..         words that a call answers
--   sent_length, frame_length, frame_fits                                          the length of the frame sent
--   buffer_bytes-length, AllStored, HeadFits, head_fits                            the head packet: its bytes, its words, its first B
-- Assumes nothing.
use Rattle.std.specs.Prelude.{if◌then◌else◌}
use mathlib.Core.Path.{◌≡◌, refl, sym, ap, subst, ◌∙◌}
use mathlib.Core.Bool.{Bool, true, false, not, ◌&&◌, ◌||◌}
use mathlib.Core.List.{List, [], ◌∷◌, append-nil}
use Prim.Native.Nat.{ℕ, zero, suc, ◌+◌, ◌-◌, ◌*◌, ◌^◌, ◌≤◌, ◌<◌}
use native.Mathlib.Nat.{mod-eq_of_lt}
use native.Mathlib.Omega.{arith}
use lib.Dec.{ltb}
use lib.ListN.{length, get_or, take, drop, length-append, length-take, length-drop, length-replicate}
use lib.Seq.{length-take-le}
use borrow.Author.Tests.{ltb-false, eqb-true, not-false}
use Rattle.paper.specs.Words.{digit, mark, gathered, only_bits, word_at}
use Rattle.paper.specs.Registers.{setting_number, good_maccr, carried, rx_fifo_inf, tx_fifo_inf, one_more}
use Rattle.paper.specs.Checksum.{with_fcs}
use Rattle.paper.specs.Status.{Look, status}
use Rattle.paper.specs.Arrivals.{words_for, data_words, good_flags}
use Rattle.paper.specs.Transmission.{buffer_size, is_last, host_words, front_words, stored_words, behind_words, good_a, good_length, sizes_agree, no_crc, no_padding, packet_length}
use Rattle.paper.specs.Sending.{Buffer, Head, NoPacket, Found, behind, from_a, from_b, buffers_from, head_of, buffer_bytes, sent_bytes, freed, frame_of, good_outcome, tx_status}
use Rattle.paper.proofs.Words.{series-length, series-get_or, bytes_of-length}
use Rattle.std.proofs.lemmas.Bool.{or_parts}
use Rattle.std.proofs.lemmas.Bool.Decides.{nat_tests}

-- A frame has as many data words as its bytes take.
pub data_words-length : (frame : List ℕ) → length (data_words frame) ≡ words_for (length frame)
unfolding data_words
data_words-length frame = series-length (λ k. word_at frame (4 * k)) 0 (words_for (length frame))

-- Data word i is the word of the four bytes from byte 4 i on.
pub data_words_at : (frame : List ℕ) (i : ℕ) → i < words_for (length frame) → get_or (data_words frame) i 0 ≡ word_at frame (4 * i)
unfolding data_words
data_words_at frame i h = grind (arith, series-get_or)

-- Some bytes take at least one word.
pub words_for_pos : (len : ℕ) → 0 < len → 0 < words_for len
words_for_pos len h = omega arith

-- A frame of at most 2,048 bytes takes at most 512 words.
pub words_for_bound : (len : ℕ) → len ≤ 2048 → words_for len ≤ 512
words_for_bound len h = omega arith

-- Four bytes make a word of 32 bits.
pub word_at_bound : (s : List ℕ) → ((i : ℕ) → get_or s i 0 < 256) → (i : ℕ) → word_at s i < 2 ^ 32
word_at_bound s byte i =
    let a : get_or s i 0 < 256 = byte i in
    let b : get_or s (i + 1) 0 < 256 = byte (i + 1) in
    let c : get_or s (i + 2) 0 < 256 = byte (i + 2) in
    let d : get_or s (i + 3) 0 < 256 = byte (i + 3) in
    omega arith

module _ (is_open : Bool) (a : ℕ) (good : good_a is_open a ≡ true) where
  -- The buffer of a good A has at least one byte.
  pub buffer_size_pos : 1 ≤ buffer_size a
  unfolding good_a
  buffer_size_pos = grind (arith, nat_tests)

  -- A good A has at least one word stored.
  pub stored_words_pos : 1 ≤ stored_words a
  stored_words_pos = omega (arith, buffer_size_pos)

-- At most 513 words of a buffer are stored.
pub stored_words_bound : (a : ℕ) → stored_words a ≤ 513
stored_words_bound a = omega arith

-- The words thrown away in front and those stored are among those that the host writes.
pub stored_within : (a : ℕ) → front_words a + stored_words a ≤ host_words a
unfolding host_words
stored_within a = grind (arith, nat_tests)

-- The host writes at most 520 words for a buffer.
pub host_words_bound : (a : ℕ) → host_words a ≤ 520
unfolding host_words
host_words_bound a = grind (arith, nat_tests)

-- The host writes at least one word for a good A.
pub host_words_pos : (is_open : Bool) (a : ℕ) → good_a is_open a ≡ true → 1 ≤ host_words a
host_words_pos is_open a good = omega (arith, stored_within a, stored_words_pos is_open a good)

-- What the host writes is thrown away in front, stored, or thrown away behind.
pub counts_add : (a : ℕ) → front_words a + stored_words a + behind_words a ≡ host_words a
counts_add a = omega (arith, stored_within a)

-- The settings are numbered 0 to 31.
pub setting_number_bound : (v : ℕ) → setting_number v < 32
setting_number_bound v = omega arith

-- the word whose set bits are those that the list numbers, where it numbers none twice
abbrev all_bits : List ℕ → ℕ
all_bits [] = 0
all_bits (i ∷ is) = 2 ^ i + all_bits is

-- One bit of a word, at its place, is at most that place's value.
digit_bound : (i v : ℕ) → digit i v * 2 ^ i ≤ 2 ^ i
digit_bound i v = grind arith

-- Gathered bits are at most all of them set.
gathered_bound : (is : List ℕ) (v : ℕ) → gathered is v ≤ all_bits is
unfolding gathered
gathered_bound [] v = omega arith
gathered_bound (i ∷ is) v = omega (arith, digit_bound i v, gathered_bound is v)

-- A word with no other bit set than those listed is at most all of them set.
only_bits_bound : (is : List ℕ) (v : ℕ) → only_bits is v ≡ true → v ≤ all_bits is
only_bits_bound is v e = omega (arith, eqb-true v (gathered is v) e, gathered_bound is v)

-- Good flags are at most bits 6, 3 and 2.
pub flags_bound : (flags : ℕ) → good_flags flags ≡ true → flags ≤ 76
flags_bound flags e = only_bits_bound (6 ∷ 3 ∷ 2 ∷ []) flags e

-- A good outcome is at most all its bits.
pub outcome_bound : (o : ℕ) → good_outcome o ≡ true → o ≤ 3965
outcome_bound o e = only_bits_bound (11 ∷ 10 ∷ 9 ∷ 8 ∷ 6 ∷ 5 ∷ 4 ∷ 3 ∷ 2 ∷ 0 ∷ []) o e

-- A good MAC_CR is a word.
pub maccr_bound : (v : ℕ) → good_maccr v ≡ true → v < 2 ^ 32
maccr_bound v e = grind (arith, only_bits_bound carried v)

-- A mark is at most its bit.
mark_bound : (i : ℕ) (b : Bool) → mark i b ≤ 2 ^ i
mark_bound i b = grind arith

-- An RX status is below 2^31.
pub status_bound : (limit : ℕ) (miss : Bool) (l : Look) → l.len ≤ 2048 → status limit miss l < 2 ^ 31
unfolding status
status_bound limit miss l h = omega (arith, mark_bound)

-- A TX status is a word.
pub tx_status_bound : (b o : ℕ) → good_outcome o ≡ true → tx_status b o < 2 ^ 32
unfolding tx_status
tx_status_bound b o e = omega (arith, outcome_bound, mark_bound)

-- RX_FIFO_INF is below 2^24.
pub rx_inf_bound : (statuses words : ℕ) → statuses ≤ 224 → words ≤ 3360 → rx_fifo_inf statuses words < 2 ^ 24
rx_inf_bound statuses words h k = omega arith

-- TX_FIFO_INF is below 2^24.
pub tx_inf_bound : (n statuses words : ℕ) → n ≤ 14 → statuses ≤ 128 → tx_fifo_inf n statuses words < 2 ^ 24
tx_inf_bound n statuses words h k = omega arith

-- The count of dropped frames is a word.
pub one_more_bound : (d : ℕ) → one_more d < 2 ^ 32
one_more_bound d = omega arith

-- One more is one more, while it is a word.
pub one_more_plain : (d : ℕ) → d + 1 < 2 ^ 32 → one_more d ≡ d + 1
one_more_plain d h = mod-eq_of_lt h

-- The count after FFFFFFFFh is 0.
pub one_more_wraps : one_more 0xFFFF_FFFF ≡ 0
one_more_wraps = refl

-- the length of the frame sent for a packet whose first B is b
abbrev pub sent_length : ℕ → ℕ
sent_length b = if ltb (packet_length b) 60 && not (no_padding b) then 64 else if no_crc b then packet_length b else packet_length b + 4

-- The FCS adds four bytes.
with_fcs-length : (s : List ℕ) → length (with_fcs s) ≡ length s + 4
with_fcs-length s = simp (length-append, bytes_of-length)

-- The frame sent has its length by the first B, where the packet has its own.
pub frame_length : (b : ℕ) (bytes : List ℕ) → length bytes ≡ packet_length b → length (frame_of b bytes) ≡ sent_length b
unfolding frame_of
frame_length b bytes h = grind (arith, nat_tests, length-append, length-replicate, with_fcs-length)

-- The frame of a good first B has at most 1,518 bytes.
pub frame_fits : (b : ℕ) (bytes : List ℕ) → good_length b ≡ true → length bytes ≡ packet_length b → length (frame_of b bytes) ≤ 1518
unfolding good_length
frame_fits b bytes good h = rw (frame_length b bytes h) (grind (arith, nat_tests))

-- A buffer whose payload is stored whole has as many bytes as its A says.
pub buffer_bytes-length : (x : Buffer) → length x.payload ≡ stored_words x.a → length (buffer_bytes x) ≡ buffer_size x.a
buffer_bytes-length x h = grind (arith, length-take, length-drop, bytes_of-length)

-- the payload of each buffer is stored whole
abbrev pub AllStored : List Buffer → Type 0
AllStored [] = Unit {0}
AllStored (x ∷ xs) = (length x.payload ≡ stored_words x.a) × AllStored xs

-- A choice that found a packet did not choose none.
found_else : (t : Bool) (h : Head) (b : ℕ) (xs : List Buffer) → (if t then NoPacket else h) ≡ Found b xs → (t ≡ false) × (h ≡ Found b xs)
found_else t h b xs e = grind arith

-- A choice that found a packet chose it.
found_then : (t : Bool) (h : Head) (b : ℕ) (xs : List Buffer) → (if t then h else NoPacket) ≡ Found b xs → (t ≡ true) × (h ≡ Found b xs)
found_then t h b xs e = grind arith

-- what a packet found after sizes bytes says, where q lies behind its first A, or behind its B
record Behind (sizes : ℕ) (q : List ℕ) (b b' : ℕ) (xs : List Buffer) : Type 0 where
  same_b : b' ≡ b
  bytes : sizes + length (sent_bytes xs) ≡ packet_length b
  within : freed xs ≤ 2 + length q
  stored : AllStored xs

-- What is found behind a buffer begins with that buffer.
behind_found : (P : List Buffer → Type 0) (x : Buffer) (h : Head) (b : ℕ) (xs : List Buffer)
    → ((ys : List Buffer) → h ≡ Found b ys → P (x ∷ ys)) → behind x h ≡ Found b xs → P xs
behind_found P x NoPacket b xs on e = absurd (cc)
behind_found P x (Found c ys) b xs on e =
    let same : (x ∷ ys) ≡ xs = cc in
    subst P same (on ys (cc))

module _ (b sizes a : ℕ) (q : List ℕ) (agree : sizes_agree a b sizes ≡ true) (enough : stored_words a ≤ length q) where
  -- the buffer of a, whose payload begins q
  abbrev buffer : Buffer
  buffer = record { a = a; payload = take (stored_words a) q }

  -- The payload of the buffer is whole.
  payload_length : length buffer.payload ≡ stored_words a
  payload_length = length-take-le (stored_words a) q enough

  -- The Last buffer ends the packet.
  last_behind : is_last a ≡ true → Behind sizes q b b (buffer ∷ [])
  unfolding sizes_agree sent_bytes freed
  last_behind last =
      let whole : sizes + buffer_size a ≡ packet_length b = eqb-true _ _ (rw last at agree) in
      record {
        same_b = refl;
        bytes = simp (append-nil, buffer_bytes-length buffer payload_length) whole;
        within = omega (arith, payload_length);
        stored = (payload_length, tt);
      }

  -- A buffer that is not Last stands before the others.
  more_behind : (later : ℕ) (rest : List ℕ) → drop (stored_words a) q ≡ later ∷ rest
      → (b' : ℕ) (ys : List Buffer) → Behind (sizes + buffer_size a) rest b b' ys → Behind sizes q b b' (buffer ∷ ys)
  unfolding sent_bytes freed
  more_behind later rest d b' ys h =
      let left : suc (length rest) ≡ length q - stored_words a = sym (ap length d) ∙ length-drop (stored_words a) q in
      record {
        same_b = h.same_b;
        bytes = simp (length-append, buffer_bytes-length buffer payload_length) (omega (arith, h.bytes));
        within = omega (arith, payload_length, h.within);
        stored = (payload_length, h.stored);
      }

  -- A buffer found is Last, or stands before others.
  buffer_behind : (on : ℕ → List ℕ → Head) (b' : ℕ) (ys : List Buffer)
      → ((later : ℕ) (rest : List ℕ) → on later rest ≡ Found b' ys → Behind (sizes + buffer_size a) rest b b' ys)
      → (if is_last a then Found b [] else from_a true on (drop (stored_words a) q)) ≡ Found b' ys
      → Behind sizes q b b' (buffer ∷ ys)
  buffer_behind on b' ys others e = by_cases (is_last a) refl (drop (stored_words a) q) refl e
    where
      by_cases : (last : Bool) → is_last a ≡ last → (r : List ℕ) → drop (stored_words a) q ≡ r
          → (if last then Found b [] else from_a true on r) ≡ Found b' ys → Behind sizes q b b' (buffer ∷ ys)
      by_cases true l r d f =
          let same_b : b ≡ b' = cc in
          let none : [] ≡ ys = cc in
          rw (← same_b, ← none) (last_behind l)
      by_cases false l [] d f = absurd (cc)
      by_cases false l (later ∷ rest) d f = more_behind later rest d b' ys (others later rest (found_then (good_a true later) _ b' ys f).1)

-- What is found from an A on keeps to the packet length and to the words held.
buffers_behind : (most b sizes a : ℕ) (q : List ℕ) (b' : ℕ) (xs : List Buffer) → buffers_from most b sizes a q ≡ Found b' xs → Behind sizes q b b' xs
unfolding buffers_from
buffers_behind zero b sizes a q b' xs e = absurd (cc)
buffers_behind (suc most) b sizes a q b' xs e =
    let chosen = found_else (not (sizes_agree a b sizes) || ltb (length q) (stored_words a)) _ b' xs e in
    let tests = or_parts (not (sizes_agree a b sizes)) (ltb (length q) (stored_words a)) chosen.0 in
    behind_found (λ ys. Behind sizes q b b' ys) _ _ b' xs
    (λ ys. buffer_behind b sizes a q (not-false _ tests.0) (ltb-false _ _ tests.1) _ b' ys
    (λ later rest. buffers_behind most b (sizes + buffer_size a) later rest b' ys))
    chosen.1

-- What the head packet keeps to: its bytes are as many as its first B says, its first B is good, its words are held, and its payload is whole.
pub record HeadFits (q : List ℕ) (b : ℕ) (buffers : List Buffer) : Type 0 where
  pub bytes : length (sent_bytes buffers) ≡ packet_length b
  pub good : good_length b ≡ true
  pub within : freed buffers ≤ length q
  pub stored : AllStored buffers

-- The head packet fits.
pub head_fits : (q : List ℕ) (b : ℕ) (buffers : List Buffer) → head_of q ≡ Found b buffers → HeadFits q b buffers
unfolding head_of
head_fits [] b buffers e = absurd (cc)
head_fits (a ∷ q) b buffers e = from_b_lem q (found_then (good_a false a) _ b buffers e).1
  where
    from_b_lem : (q : List ℕ) → from_b a q ≡ Found b buffers → HeadFits (a ∷ q) b buffers
    from_b_lem [] f = absurd (cc)
    from_b_lem (c ∷ q) f =
        let chosen = found_then (good_length c) _ b buffers f in
        let h = buffers_behind (length q) c 0 a q b buffers chosen.1 in
        record {
          bytes = omega (arith, h.bytes, ap packet_length h.same_b);
          good = rw h.same_b chosen.0;
          within = omega (arith, h.within);
          stored = h.stored;
        }
