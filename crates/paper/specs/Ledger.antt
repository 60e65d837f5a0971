-- The ledger: what a reader writes down who sees the calls and their answers, and nothing of the machine. The theorems of Promises say that this is enough.
--   Frame                 a frame stored: its bytes and its status
--   Written               a buffer as the host wrote it: its A and its payload words, thrown-away ones included
--   Whole                 a packet made whole: its first B and its buffers
--   Taking                what of a packet the host has written so far
--   Ledger                registers as written; frames dropped since RX_DROP was read; what was received, written and confirmed since the restarts
--   begun                 the ledger of the fresh state
--   note c a l            the ledger after the call c was answered a
--   noted cs as l         the ledger after the calls cs were answered as
--   all_words frames      the data words of frames, one after the other
--   packet_bytes p        the bytes of a packet as the host wrote them
--   laid p, laid_so_far t    the words of a packet that TX data keeps
--   put f l, taken f l    the words put into FIFO f since its restart, oldest first, and how many of them were taken since
-- Assumes nothing.
use Rattle.std.specs.Prelude.{if◌then◌else◌, Bool, true, false, not, ◌&&◌, List, [], ◌∷◌, ◌++◌, map, ℕ, ◌+◌, ltb, leb, eqb, length, take, drop, Err, Ok}
use Rattle.paper.specs.declared.Registers.{Registers}
use Rattle.paper.specs.declared.Refusal.{Refusal}
use Rattle.paper.specs.Answers.{Answer}
use Rattle.paper.specs.Words.{bytes_of}
use Rattle.paper.specs.declared.Fifo.{Fifo}
use Rattle.paper.specs.declared.Fifo.TheVariants.{TxData, TxStatus, RxData, RxStatus}
use Rattle.paper.specs.Registers.{write_register, with_n}
use Rattle.paper.specs.Fresh.{fresh_registers}
use Rattle.paper.specs.Filter.{passes}
use Rattle.paper.specs.Status.{look, longest, status}
use Rattle.paper.specs.Arrivals.{data_words}
use Rattle.paper.specs.Transmission.{offset, buffer_size, is_last, host_words, front_words, stored_words}
use Rattle.paper.specs.Sending.{tx_status}
use Rattle.paper.specs.Refusals.{number}
use Rattle.paper.specs.Calls.{Call, Reset, MacWrite, MacRead, SetSplit, Split, RxFifoInf, TxFifoInf, RxDrop, DumpTxData, DumpTxStatus, DumpRx, Arrive, RxDataRead, RxStatusPop, RxStatusPeek, TxWord, Send, TxStatusPop, TxStatusPeek}

pub record Frame : Type 0 where
  pub bytes : List ℕ
  pub status : ℕ

pub record Written : Type 0 where
  pub a : ℕ
  pub words : List ℕ

pub record Whole : Type 0 where
  pub b : ℕ
  pub buffers : List Written

-- nothing; a First A; a B and whole buffers, and then a later A; or payload words of the buffer of a
pub data Taking : Type 0 where
  Nothing : Taking
  FirstA : (a : ℕ) → Taking
  Between : (b : ℕ) → List Written → Taking
  LaterA : (b : ℕ) → List Written → (a : ℕ) → Taking
  Filling : (b : ℕ) → List Written → (a : ℕ) → (words : List ℕ) → Taking

-- frames stored since RX was restarted, data words read and statuses popped since
pub record Received : Type 0 where
  pub frames : List Frame
  pub read : ℕ
  pub popped : ℕ

-- packets made whole since TX data was restarted, the packet that is being written, packets sent since, whether a word was refused with 7, 8 or 9 since
pub record Wrote : Type 0 where
  pub packets : List Whole
  pub taking : Taking
  pub sent : ℕ
  pub failed : Bool

-- TX statuses put since TX status was restarted, and those popped since
pub record Confirmed : Type 0 where
  pub statuses : List ℕ
  pub popped : ℕ

-- The registers are as the calls wrote them; their RX_DROP stays 0, and dropped counts the frames dropped since RX_DROP was last read or reset.
pub record Ledger : Type 0 where
  pub registers : Registers
  pub dropped : ℕ
  pub received : Received
  pub wrote : Wrote
  pub confirmed : Confirmed

abbrev pub none_received : Received
none_received = record { frames = []; read = 0; popped = 0 }

abbrev pub none_wrote : Wrote
none_wrote = record { packets = []; taking = Nothing; sent = 0; failed = false }

abbrev pub none_confirmed : Confirmed
none_confirmed = record { statuses = []; popped = 0 }

abbrev pub begun : Ledger
begun = record { registers = fresh_registers; dropped = 0; received = none_received; wrote = none_wrote; confirmed = none_confirmed }

-- ---- What the host wrote

-- 01: "The packet is, buffer after buffer, the s bytes from the buffer's byte o on."
abbrev pub written_bytes : Written → List ℕ
written_bytes x = take (buffer_size x.a) (drop (offset x.a) (bytes_of x.words))

unfoldable pub buffers_bytes : List Written → List ℕ
buffers_bytes [] = []
buffers_bytes (x ∷ xs) = written_bytes x ++ buffers_bytes xs

abbrev pub packet_bytes : Whole → List ℕ
packet_bytes p = buffers_bytes p.buffers

-- 01: "of the payload, not the first o/4 (rounded down) words, then ((o mod 4) + s)/4 rounded up"
abbrev pub kept_of : (a : ℕ) → List ℕ → List ℕ
kept_of a words = take (stored_words a) (drop (front_words a) words)

-- 01: "Stored: A always; B if First"
unfoldable pub laid_later : List Written → List ℕ
laid_later [] = []
laid_later (x ∷ xs) = x.a ∷ kept_of x.a x.words ++ laid_later xs

unfoldable pub laid_first : (b : ℕ) → List Written → List ℕ
laid_first b [] = []
laid_first b (x ∷ xs) = x.a ∷ b ∷ kept_of x.a x.words ++ laid_later xs

abbrev pub laid : Whole → List ℕ
laid p = laid_first p.b p.buffers

unfoldable pub laid_all : List Whole → List ℕ
laid_all [] = []
laid_all (p ∷ ps) = laid p ++ laid_all ps

unfoldable pub laid_so_far : Taking → List ℕ
laid_so_far Nothing = []
laid_so_far (FirstA a) = a ∷ []
laid_so_far (Between b xs) = laid_first b xs
laid_so_far (LaterA b xs a) = laid_first b xs ++ (a ∷ [])
laid_so_far (Filling b xs a words) = laid_first b (xs ++ (record { a = a; words = words } ∷ []))

-- ---- One more accepted word

-- a payload word: the buffer goes on, or is full, and then the packet goes on or is whole
abbrev pub filled : (b : ℕ) → List Written → (a : ℕ) → (words : List ℕ) → Wrote → Wrote
filled b xs a words l =
    if ltb (length words) (host_words a) then record { packets = l.packets; taking = Filling b xs a words; sent = l.sent; failed = l.failed } else
    if is_last a
    then record { packets = l.packets ++ (record { b = b; buffers = xs ++ (record { a = a; words = words } ∷ []) } ∷ []); taking = Nothing; sent = l.sent; failed = l.failed }
    else record { packets = l.packets; taking = Between b (xs ++ (record { a = a; words = words } ∷ [])); sent = l.sent; failed = l.failed }

abbrev pub taking_on : Taking → Wrote → Wrote
taking_on t l = record { packets = l.packets; taking = t; sent = l.sent; failed = l.failed }

unfoldable pub wrote_word : (w : ℕ) → Taking → Wrote → Wrote
wrote_word w Nothing l = taking_on (FirstA w) l
wrote_word w (FirstA a) l = taking_on (Filling w [] a []) l
wrote_word w (Between b xs) l = taking_on (LaterA b xs w) l
wrote_word w (LaterA b xs a) l = taking_on (Filling b xs a []) l
wrote_word w (Filling b xs a words) l = filled b xs a (words ++ (w ∷ [])) l

-- ---- One more call

abbrev pub with_received : Received → Ledger → Ledger
with_received r l = record { registers = l.registers; dropped = l.dropped; received = r; wrote = l.wrote; confirmed = l.confirmed }

abbrev pub with_wrote : Wrote → Ledger → Ledger
with_wrote x l = record { registers = l.registers; dropped = l.dropped; received = l.received; wrote = x; confirmed = l.confirmed }

abbrev pub with_confirmed : Confirmed → Ledger → Ledger
with_confirmed x l = record { registers = l.registers; dropped = l.dropped; received = l.received; wrote = l.wrote; confirmed = x }

abbrev pub with_dropped : ℕ → Ledger → Ledger
with_dropped d l = record { registers = l.registers; dropped = d; received = l.received; wrote = l.wrote; confirmed = l.confirmed }

-- the frame with the status that 01 gives it under the registers as written
abbrev pub frame_stored : List ℕ → (flags : ℕ) → Registers → Frame
frame_stored bytes flags r = record { bytes = bytes; status = status longest (not (passes r (take 14 bytes))) (look bytes flags) }

-- the first B of the packet to be sent next; 0 where there is none, which no accepted sending meets
abbrev pub next_b : List Whole → ℕ
next_b [] = 0
next_b (p ∷ ps) = p.b

-- a call that was not refused, by its value
unfoldable pub entered : Call → (value : ℕ) → Ledger → Ledger
entered Reset v l = begun
entered (MacWrite register x) v l =
    record { registers = write_register register x l.registers; dropped = l.dropped; received = l.received; wrote = l.wrote; confirmed = l.confirmed }
entered (MacRead register) v l = l
entered (SetSplit n) v l =
    record { registers = with_n n l.registers; dropped = l.dropped; received = none_received; wrote = none_wrote; confirmed = none_confirmed }
entered Split v l = l
entered RxFifoInf v l = l
entered TxFifoInf v l = l
entered RxDrop v l = with_dropped 0 l
entered DumpTxData v l = with_wrote none_wrote l
entered DumpTxStatus v l = with_confirmed none_confirmed l
entered DumpRx v l = with_received none_received l
entered (Arrive frame flags) v l =
    if eqb v 7
    then with_received (record { frames = l.received.frames ++ (frame_stored frame flags l.registers ∷ []); read = l.received.read; popped = l.received.popped }) l
    else if eqb v 6 then with_dropped (l.dropped + 1) l else l
entered RxDataRead v l = with_received (record { frames = l.received.frames; read = l.received.read + 1; popped = l.received.popped }) l
entered RxStatusPop v l = with_received (record { frames = l.received.frames; read = l.received.read; popped = l.received.popped + 1 }) l
entered RxStatusPeek v l = l
entered (TxWord word) v l = with_wrote (wrote_word word l.wrote.taking l.wrote) l
entered (Send outcome out) v l =
    with_confirmed (record { statuses = l.confirmed.statuses ++ (tx_status (next_b (drop l.wrote.sent l.wrote.packets)) outcome ∷ []); popped = l.confirmed.popped })
    (with_wrote (record { packets = l.wrote.packets; taking = l.wrote.taking; sent = l.wrote.sent + 1; failed = l.wrote.failed }) l)
entered TxStatusPop v l = with_confirmed (record { statuses = l.confirmed.statuses; popped = l.confirmed.popped + 1 }) l
entered TxStatusPeek v l = l

-- 01: "A refusal … changes no memory and no state, except that 7, 8 and 9 set the transmit error."
abbrev pub sets_error : Refusal → Bool
sets_error r = leb 7 (number r) && leb (number r) 9

unfoldable pub note : Call → Answer → Ledger → Ledger
note c (Ok v) l = entered c v l
note c (Err r) l =
    if sets_error r then with_wrote (record { packets = l.wrote.packets; taking = l.wrote.taking; sent = l.wrote.sent; failed = true }) l else l

unfoldable pub noted : List Call → List Answer → Ledger → Ledger
noted [] xs l = l
noted (c ∷ cs) [] l = l
noted (c ∷ cs) (x ∷ xs) l = noted cs xs (note c x l)

-- ---- What each FIFO was given and what was taken from it, since its restart

unfoldable pub all_words : List Frame → List ℕ
all_words [] = []
all_words (f ∷ fs) = data_words f.bytes ++ all_words fs

abbrev pub all_statuses : List Frame → List ℕ
all_statuses fs = map (λ (f : Frame). f.status) fs

unfoldable pub put : Fifo → Ledger → List ℕ
put TxData l = laid_all l.wrote.packets ++ laid_so_far l.wrote.taking
put TxStatus l = l.confirmed.statuses
put RxData l = all_words l.received.frames
put RxStatus l = all_statuses l.received.frames

-- 01: "the packet's words are freed"
unfoldable pub taken : Fifo → Ledger → ℕ
taken TxData l = length (laid_all (take l.wrote.sent l.wrote.packets))
taken TxStatus l = l.confirmed.popped
taken RxData l = l.received.read
taken RxStatus l = l.received.popped
