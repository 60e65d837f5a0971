-- Sending. Paper 01, Words for transmission, its last paragraph, and of Refusal numbers "the head packet".
--   Buffer                one buffer as it lies in TX data: its A and its payload words
--   Head                  no packet that the port would store; or its first B and its buffers
--   head_of q             the head packet, read back from the waiting words q
--   sent_bytes buffers    the packet's bytes
--   freed buffers         the words of TX data that it takes
--   frame_of b bytes      the frame sent: padding and FCS by the bits of the first B
--   good_outcome, tx_status the outcome's bits; the TX status
--   shortest_out           the least bytes of an out buffer
--   out_after frame out    the out buffer after a frame is sent
-- The head packet is judged from the oldest word on, within the words held; its payload words are free and nothing behind it is judged (DECISIONS 6).
-- Assumes nothing.
use Rattle.std.specs.Prelude.{if◌then◌else◌, Bool, true, false, not, ◌&&◌, ◌||◌, List, [], ◌∷◌, ◌++◌, ℕ, zero, suc, ◌+◌, ◌-◌, ◌*◌, ◌%◌, ◌^◌, ltb, length, take, drop, replicate}
use Rattle.paper.specs.Words.{bit, mark, only_bits, bytes_of}
use Rattle.paper.specs.Checksum.{with_fcs}
use Rattle.paper.specs.Transmission.{offset, buffer_size, is_last, stored_words, good_a, good_length, sizes_agree, tag, no_crc, no_padding, packet_length}

pub record Buffer : Type 0 where
  pub a : ℕ
  pub payload : List ℕ

pub data Head : Type 0 where
  NoPacket : Head
  Found : (b : ℕ) → List Buffer → Head

abbrev pub behind : Buffer → Head → Head
behind x NoPacket = NoPacket
behind x (Found b xs) = Found b (x ∷ xs)

-- the oldest word is an A that the port accepts, with a packet open or not; then on with what lies behind it
abbrev pub from_a : (is_open : Bool) → (ℕ → List ℕ → Head) → List ℕ → Head
from_a is_open on [] = NoPacket
from_a is_open on (a ∷ q) = if good_a is_open a then on a q else NoPacket

-- the buffers from a on, after sizes bytes of a packet whose first B is b; q lies behind a, or behind b. `most` bounds the buffers.
unfoldable pub buffers_from : (most b sizes a : ℕ) → List ℕ → Head
buffers_from zero b sizes a q = NoPacket
buffers_from (suc most) b sizes a q =
    if not (sizes_agree a b sizes) || ltb (length q) (stored_words a) then NoPacket else
    behind (record { a = a; payload = take (stored_words a) q })
    (if is_last a then Found b [] else
    from_a true (λ later rest. buffers_from most b (sizes + buffer_size a) later rest) (drop (stored_words a) q))

-- the first B. Each buffer has a word, so there are no more buffers than words.
abbrev pub from_b : (a : ℕ) → List ℕ → Head
from_b a [] = NoPacket
from_b a (b ∷ q) = if good_length b then buffers_from (length q) b 0 a q else NoPacket

-- 01: "Sending takes the oldest whole packet"; refusal 15: "the head packet in memory is none the port would store"
unfoldable pub head_of : List ℕ → Head
head_of q = from_a false from_b q

-- 01: "The packet is, buffer after buffer, the s bytes from the buffer's byte o on." The first o/4 words are not stored.
abbrev pub buffer_bytes : Buffer → List ℕ
buffer_bytes x = take (buffer_size x.a) (drop (offset x.a % 4) (bytes_of x.payload))

unfoldable pub sent_bytes : List Buffer → List ℕ
sent_bytes [] = []
sent_bytes (x ∷ xs) = buffer_bytes x ++ sent_bytes xs

-- 01: "the packet's words are freed": the first B, and each buffer's A and stored payload words
unfoldable pub freed : List Buffer → ℕ
freed [] = 1
freed (x ∷ xs) = 1 + length x.payload + freed xs

-- 01: "If p < 60 (ours) and bit 12 is clear, zeros follow up to 60 and the FCS is added, whatever bit 13 says; otherwise the FCS is added exactly when
-- bit 13 is clear." The bytes given are as many as p, by the head test.
unfoldable pub frame_of : (b : ℕ) → List ℕ → List ℕ
frame_of b bytes =
    if ltb (packet_length b) 60 && not (no_padding b) then with_fcs (bytes ++ replicate (60 - packet_length b) 0) else
    if no_crc b then bytes else
    with_fcs bytes

-- 01: "an outcome (bits 11, 10, 9, 8, 6-3, 2, 0 of the status)"
abbrev pub good_outcome : ℕ → Bool
good_outcome outcome = only_bits (11 ∷ 10 ∷ 9 ∷ 8 ∷ 6 ∷ 5 ∷ 4 ∷ 3 ∷ 2 ∷ 0 ∷ []) outcome

-- 01: "one status goes in: tag in 31-16, bit 15 set if 11, 10, 9, 8 or 2 is, and the outcome"
unfoldable pub tx_status : (b outcome : ℕ) → ℕ
tx_status b outcome = tag b * 2 ^ 16 + mark 15 (bit 11 outcome || bit 10 outcome || bit 9 outcome || bit 8 outcome || bit 2 outcome) + outcome

-- 01: "a lent out buffer of at least 1,518 bytes"
abbrev pub shortest_out : ℕ
shortest_out = 1518

-- 01: "The frame fills the front of the out buffer, the rest stays"
abbrev pub out_after : List ℕ → List ℕ → List ℕ
out_after frame out = frame ++ drop (length frame) out
