-- Demand 3: what two runs may differ in, and what the host sees of them.
--   Payload p             a word written now is a payload word
--   Allowed w c c'        one call in each run, the first in the world w
--   Unheard a             an arrival that a run ignores, discards or filters
--   Twins w w' cs cs'     two runs side by side, from the worlds w and w'
--   blank c a             the answer a to the call c, a receive data word left out
--   frame_at k frames     the bytes of the frame that data word k, counted through the frames, is of; none past their end
--   Agree                 what the host sees of one call in each run
--   Agrees                what it sees of the two runs
--   host_log cs w         the support log: the answers to the host's calls, receive data words left out
-- Assumes nothing.
use Rattle.std.specs.Prelude.{if◌then◌else◌, ◌≡◌, true, List, [], ◌∷◌, ◌++◌, ℕ, ◌-◌, ltb, length, take, Err, Ok}
use Rattle.paper.specs.declared.Port.{Port}
use Rattle.paper.specs.declared.Packet.{Packet}
use Rattle.paper.specs.declared.Expect.TheVariants.{Payload as CountsPayload}
use Rattle.paper.specs.Answers.{Answer}
use Rattle.paper.specs.declared.Arrival.TheVariants.{Ignored, Discarded, Filtered}
use Rattle.paper.specs.Checksum.{fcs_fits}
use Rattle.paper.specs.Arrivals.{arrival_answer, data_words}
use Rattle.paper.specs.Calls.{Call, Reset, MacWrite, MacRead, SetSplit, Split, RxFifoInf, TxFifoInf, RxDrop, DumpTxData, DumpTxStatus, DumpRx, Arrive, RxDataRead, RxStatusPop, RxStatusPeek, TxWord, Send, TxStatusPop, TxStatusPeek}
use Rattle.paper.specs.Machine.{World, fresh, after, answer}
use Rattle.paper.specs.Ledger.{Frame, Ledger, begun, note}
use Rattle.paper.specs.Runs.{Lent}

-- ---- What may differ

-- the port counts payload words; or a transmit error stands, and every word is refused
pub data Payload (p : Port) : Type 0 where
  counted : (a left : ℕ) (k : Packet) → p.expect ≡ CountsPayload a left k → Payload p
  refused : p.failed ≡ true → Payload p

-- the same call; a payload word; or a frame with equal length, first fourteen bytes, flags and checksum verdict
pub data Allowed (w : World) : Call → Call → Type 0 where
  same : {c : Call} → Allowed w c c
  payload : {u v : ℕ} → Payload w.state.control.port → Allowed w (TxWord u) (TxWord v)
  content : {f g : List ℕ} {flags : ℕ} → length f ≡ length g → take 14 f ≡ take 14 g → fcs_fits f ≡ fcs_fits g → Allowed w (Arrive f flags) (Arrive g flags)

pub data Unheard : Answer → Type 0 where
  ignored : Unheard (arrival_answer (Ok Ignored))
  discarded : Unheard (arrival_answer (Ok Discarded))
  filtered : Unheard (arrival_answer (Ok Filtered))

-- calls that both make, and further arrivals of either that it does not hear
pub data Twins : World → World → List Call → List Call → Type 0 where
  stop : {w w' : World} → Twins w w' [] []
  both : {w w' : World} {c c' : Call} {cs cs' : List Call} → Allowed w c c' → Twins (after c w) (after c' w') cs cs' → Twins w w' (c ∷ cs) (c' ∷ cs')
  left : {w w' : World} {f : List ℕ} {flags : ℕ} {cs cs' : List Call}
      → Unheard (answer (Arrive f flags) w) → Twins (after (Arrive f flags) w) w' cs cs' → Twins w w' (Arrive f flags ∷ cs) cs'
  right : {w w' : World} {f : List ℕ} {flags : ℕ} {cs cs' : List Call}
      → Unheard (answer (Arrive f flags) w') → Twins w (after (Arrive f flags) w') cs cs' → Twins w w' cs (Arrive f flags ∷ cs')

-- ---- What the host sees

abbrev pub blank_word : Answer → Answer
blank_word (Ok v) = Ok 0
blank_word (Err r) = Err r

abbrev pub blank : Call → Answer → Answer
blank Reset a = a
blank (MacWrite register value) a = a
blank (MacRead register) a = a
blank (SetSplit n) a = a
blank Split a = a
blank RxFifoInf a = a
blank TxFifoInf a = a
blank RxDrop a = a
blank DumpTxData a = a
blank DumpTxStatus a = a
blank DumpRx a = a
blank (Arrive frame flags) a = a
blank RxDataRead a = blank_word a
blank RxStatusPop a = a
blank RxStatusPeek a = a
blank (TxWord word) a = a
blank (Send outcome out) a = a
blank TxStatusPop a = a
blank TxStatusPeek a = a

unfoldable pub frame_at : ℕ → List Frame → List ℕ
frame_at k [] = []
frame_at k (f ∷ fs) = if ltb k (length (data_words f.bytes)) then f.bytes else frame_at (k - length (data_words f.bytes)) fs

-- the frame that the next receive data word is of
abbrev pub source : Ledger → List ℕ
source l = frame_at l.received.read l.received.frames

-- equal answers but for a receive data word; and that equal too where it is of frames with equal bytes
pub record Agree (l l' : Ledger) (c c' : Call) (a a' : Answer) : Type 0 where
  pub alike : blank c a ≡ blank c' a'
  pub words : source l ≡ source l' → a ≡ a'

unfoldable pub Agrees : {w w' : World} {cs cs' : List Call} → Ledger → Ledger → Twins w w' cs cs' → Type 0
Agrees l l' stop = Unit {0}
Agrees l l' (both {w} {w'} {c} {c'} allowed t) =
    Agree l l' c c' (answer c w) (answer c' w') × Agrees (note c (answer c w) l) (note c' (answer c' w') l') t
Agrees l l' (left {w} {w'} {f} {flags} q t) = Agrees (note (Arrive f flags) (answer (Arrive f flags) w) l) l' t
Agrees l l' (right {w} {w'} {f} {flags} q t) = Agrees l (note (Arrive f flags) (answer (Arrive f flags) w') l') t

-- ---- Can the host's answers tell what was sung, or traffic for other stations?
-- No. Two runs from the fresh state over any memories, with the same calls but for transmit payload words, bytes after the fourteenth of an arriving frame
-- (length, flags and checksum verdict agreeing) and further arrivals that a run ignores, discards or filters: all answers agree but receive data words, and those agree for
-- frames with equal bytes. The answer to sending is the frame's length, so frames sent have equal lengths.
-- All calls, resets, splits, dumps, refusals and transmit errors included. Shuts out: status_sees_content, level_of_content, head_test_reads_payload.

abbrev pub Demand3 : Type 0
Demand3 = (m m' : List ℕ) → Lent m → Lent m' → (cs cs' : List Call) (t : Twins (fresh m) (fresh m') cs cs') → Agrees begun begun t

-- the support log: an arrival is no call of the host's
abbrev pub logged : Call → Answer → List Answer
logged Reset a = a ∷ []
logged (MacWrite register value) a = a ∷ []
logged (MacRead register) a = a ∷ []
logged (SetSplit n) a = a ∷ []
logged Split a = a ∷ []
logged RxFifoInf a = a ∷ []
logged TxFifoInf a = a ∷ []
logged RxDrop a = a ∷ []
logged DumpTxData a = a ∷ []
logged DumpTxStatus a = a ∷ []
logged DumpRx a = a ∷ []
logged (Arrive frame flags) a = []
logged RxDataRead a = blank_word a ∷ []
logged RxStatusPop a = a ∷ []
logged RxStatusPeek a = a ∷ []
logged (TxWord word) a = a ∷ []
logged (Send outcome out) a = a ∷ []
logged TxStatusPop a = a ∷ []
logged TxStatusPeek a = a ∷ []

unfoldable pub host_log : List Call → World → List Answer
host_log [] w = []
host_log (c ∷ cs) w = logged c (answer c w) ++ host_log cs (after c w)

-- What does that mean for the support log?
-- Whatever is computed from the host's answers other than receive data words is the same in both runs.
-- For the runs of demand 3. Shuts out what demand 3 does.
abbrev pub SupportLog : Type 1
SupportLog = (m m' : List ℕ) → Lent m → Lent m' → (cs cs' : List Call) → Twins (fresh m) (fresh m') cs cs'
    → (A : Type 0) (compute : List Answer → A) → compute (host_log cs (fresh m)) ≡ compute (host_log cs' (fresh m'))
