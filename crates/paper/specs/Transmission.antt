-- Words written to the transmit port. Paper 01, Words for transmission.
--   alignment, offset, is_first, is_last, buffer_size    the fields of A
--   tag, no_crc, no_padding, packet_length    the fields of B
--   host_words, front_words, stored_words, behind_words    payload words written, thrown away in front, stored, thrown away behind
--   good_a is_open a       an A that is not bad, with a packet open or not
--   good_length b          p of a first B is in its range
--   repeats b later        a later B repeats tag and p
--   sizes_agree a b sizes  the buffer of a keeps to p after sizes bytes, and reaches it at Last
--   is_open, opened        whether a packet is open; the packet after an accepted A
--   is_stored a i          payload word i of a buffer, counting from 0, is stored
--   Turn                   what a word does: the port after it, what becomes of TX data, the answer
--   port_takes free p w    the turn of the word w, where free says whether TX data has a free word
-- Differs from 000: middle buffers of 1 to 3 bytes pass, and no packet is too finely split (DECISIONS 12). A transmit error stands until TX data is dumped or
-- the model is reset. "Other bits are stored and mean nothing."
-- Assumes nothing.
use Rattle.std.specs.Prelude.{if◌then◌else◌, Bool, true, false, not, ◌&&◌, [], ◌∷◌, ℕ, ◌+◌, ◌-◌, ◌*◌, ◌/◌, ◌%◌, ltb, leb, eqb, Err, Ok}
use Rattle.paper.specs.declared.Packet.{Packet}
use Rattle.paper.specs.declared.Packet.TheVariants.{Closed, Opened, Known}
use Rattle.paper.specs.declared.Expect.{Expect}
use Rattle.paper.specs.declared.Expect.TheVariants.{CommandA, CommandB, Payload}
use Rattle.paper.specs.declared.Port.{Port}
use Rattle.paper.specs.declared.Refusal.{Refusal}
use Rattle.paper.specs.declared.Refusal.TheVariants.{ErrorStands, BadCommand, Disagrees, DataFull, OutOfRange}
use Rattle.paper.specs.Answers.{Answer}
use Rattle.paper.specs.Words.{bit, bits}
use Rattle.paper.specs.Memory.{Change, keeps, puts}

-- 01: "A: 25-24 end alignment (0, 1, 2 mean 4, 16, 32 bytes; 3 bad), 20-16 start offset o, 13 first, 12 last, 10-0 size s (0 bad)."
abbrev pub alignment_field : ℕ → ℕ
alignment_field a = bits 25 24 a

-- for field 3, which good_a shuts out, as for 2
abbrev pub alignment : ℕ → ℕ
alignment a = if eqb (alignment_field a) 0 then 4 else if eqb (alignment_field a) 1 then 16 else 32

abbrev pub offset : ℕ → ℕ
offset a = bits 20 16 a

abbrev pub is_first : ℕ → Bool
is_first a = bit 13 a

abbrev pub is_last : ℕ → Bool
is_last a = bit 12 a

abbrev pub buffer_size : ℕ → ℕ
buffer_size a = bits 10 0 a

-- 01: "B: 31-16 tag, 13 no CRC, 12 no padding, 10-0 packet length p."
abbrev pub tag : ℕ → ℕ
tag b = bits 31 16 b

abbrev pub no_crc : ℕ → Bool
no_crc b = bit 13 b

abbrev pub no_padding : ℕ → Bool
no_padding b = bit 12 b

abbrev pub packet_length : ℕ → ℕ
packet_length b = bits 10 0 b

-- 01: "The host writes (o + s) rounded up to the alignment, over 4, payload words."
abbrev pub rounded_up : (x step : ℕ) → ℕ
rounded_up x step = (x + (step - 1)) / step * step

unfoldable pub host_words : ℕ → ℕ
host_words a = rounded_up (offset a + buffer_size a) (alignment a) / 4

-- 01: "of the payload, not the first o/4 (rounded down) words, then ((o mod 4) + s)/4 rounded up; the rest are thrown away and need no room"
abbrev pub front_words : ℕ → ℕ
front_words a = offset a / 4

abbrev pub stored_words : ℕ → ℕ
stored_words a = (offset a % 4 + buffer_size a + 3) / 4

abbrev pub behind_words : ℕ → ℕ
behind_words a = host_words a - (front_words a + stored_words a)

abbrev pub is_stored : (a i : ℕ) → Bool
is_stored a i = leb (front_words a) i && ltb i (front_words a + stored_words a)

-- 01: "3 bad", "0 bad", "First is bad with a packet open, and missing First is bad with none open."
unfoldable pub good_a : (is_open : Bool) → ℕ → Bool
good_a is_open a = not (eqb (alignment_field a) 3) && not (eqb (buffer_size a) 0) && (if is_open then not (is_first a) else is_first a)

-- 01: "The first B's p must be 1 to 1,514, or to 1,518 with bit 13 set."
unfoldable pub good_length : ℕ → Bool
good_length b = leb 1 (packet_length b) && leb (packet_length b) (if no_crc b then 1518 else 1514)

-- 01: "Later B words repeat tag and p."
unfoldable pub repeats : (b later : ℕ) → Bool
repeats b later = eqb (tag later) (tag b) && eqb (packet_length later) (packet_length b)

-- 01: "Sizes so far must not pass p, and equal p at Last; each B judges this for its own buffer."
unfoldable pub sizes_agree : (a b sizes : ℕ) → Bool
sizes_agree a b sizes = if is_last a then eqb (sizes + buffer_size a) (packet_length b) else leb (sizes + buffer_size a) (packet_length b)

-- 01: "A packet is open from its accepted First A until it is whole."
abbrev pub is_open : Packet → Bool
is_open Closed = false
is_open Opened = true
is_open (Known b sizes) = true

abbrev pub opened : Packet → Packet
opened Closed = Opened
opened Opened = Opened
opened (Known b sizes) = Known b sizes

pub record Turn : Type 0 where
  pub port : Port
  pub change : Change
  pub answer : Answer

-- 01, Refusal numbers: "7, 8 and 9 set the transmit error"
abbrev pub fails : Refusal → Port → Turn
fails r p = record { port = record { expect = p.expect; failed = true; whole = p.whole }; change = keeps; answer = Err r }

abbrev pub moves : Expect → (whole : ℕ) → Change → Turn
moves e whole c = record { port = record { expect = e; failed = false; whole = whole }; change = c; answer = Ok 0 }

-- 01, refusal 9: "a word to be stored finds TX data full". whole is the number of whole packets after the word.
abbrev pub stores : Bool → Port → Expect → (whole : ℕ) → (w : ℕ) → Turn
stores free p e whole w = if free then moves e whole (puts (w ∷ [])) else fails DataFull p

-- 01: "Stored: A always"
unfoldable pub takes_a : Bool → Port → Packet → (w : ℕ) → Turn
takes_a free p packet w = if good_a (is_open packet) w then stores free p (CommandB w (opened packet)) p.whole w else fails BadCommand p

-- 01: "B if First"; "Bits 13 and 12 count in the first buffer's B only." A B with no packet open is none that a port expects: 15, as by its range.
unfoldable pub takes_b : Bool → Port → (a : ℕ) → Packet → (w : ℕ) → Turn
takes_b free p a Closed w = record { port = p; change = keeps; answer = Err OutOfRange }
takes_b free p a Opened w =
    if not (good_length w) then fails BadCommand p else
    if not (sizes_agree a w 0) then fails Disagrees p else
    stores free p (Payload a (host_words a) (Known w (buffer_size a))) p.whole w
takes_b free p a (Known b sizes) w =
    if repeats b w && sizes_agree a b sizes
    then moves (Payload a (host_words a) (Known b (sizes + buffer_size a))) p.whole keeps
    else fails Disagrees p

-- 01: "A packet is whole when the last word of its Last buffer is taken."
unfoldable pub after_payload : (a left : ℕ) → Packet → Expect
after_payload a left packet = if ltb 1 left then Payload a (left - 1) packet else CommandA (if is_last a then Closed else packet)

unfoldable pub whole_after : (a left whole : ℕ) → ℕ
whole_after a left whole = if not (ltb 1 left) && is_last a then whole + 1 else whole

unfoldable pub takes_payload : Bool → Port → (a left : ℕ) → Packet → (w : ℕ) → Turn
takes_payload free p a left packet w =
    if is_stored a (host_words a - left)
    then stores free p (after_payload a left packet) (whole_after a left p.whole) w
    else moves (after_payload a left packet) (whole_after a left p.whole) keeps

-- 01: "What the port expects next is one of three things: command A, command B after a known A, or a counted rest of payload words."
unfoldable pub takes_expected : Bool → Port → Expect → (w : ℕ) → Turn
takes_expected free p (CommandA packet) w = takes_a free p packet w
takes_expected free p (CommandB a packet) w = takes_b free p a packet w
takes_expected free p (Payload a left packet) w = takes_payload free p a left packet w

-- 01, refusal 6: "TX word while a transmit error stands"; the order is "TX words 6, 7, 8, 9"
unfoldable pub port_takes : (free : Bool) → Port → (w : ℕ) → Turn
port_takes free p w =
    if p.failed then record { port = p; change = keeps; answer = Err ErrorStands } else
    takes_expected free p p.expect w
