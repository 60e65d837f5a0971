-- The public calls with their inputs. Paper 01 says what each does.
--   Call                  a call; words, values and bytes are numbers, a frame and an out buffer lists of bytes
--   is_reset c            the call is reset, the one that needs no range
--   lends c               the out buffer that a call lends, as it is before the call; [] for a call that lends none
-- Assumes nothing.
use Rattle.std.specs.Prelude.{Bool, true, false, List, [], ℕ}

pub data Call : Type 0 where
  Reset : Call
  MacWrite : (register value : ℕ) → Call
  MacRead : (register : ℕ) → Call
  SetSplit : (n : ℕ) → Call
  Split : Call
  RxFifoInf : Call
  TxFifoInf : Call
  RxDrop : Call
  DumpTxData : Call
  DumpTxStatus : Call
  DumpRx : Call
  Arrive : (frame : List ℕ) (flags : ℕ) → Call
  RxDataRead : Call
  RxStatusPop : Call
  RxStatusPeek : Call
  TxWord : (word : ℕ) → Call
  Send : (outcome : ℕ) (out : List ℕ) → Call
  TxStatusPop : Call
  TxStatusPeek : Call

-- 01: "Reset needs 14 only."
abbrev pub is_reset : Call → Bool
is_reset Reset = true
is_reset (MacWrite register value) = false
is_reset (MacRead register) = false
is_reset (SetSplit n) = false
is_reset Split = false
is_reset RxFifoInf = false
is_reset TxFifoInf = false
is_reset RxDrop = false
is_reset DumpTxData = false
is_reset DumpTxStatus = false
is_reset DumpRx = false
is_reset (Arrive frame flags) = false
is_reset RxDataRead = false
is_reset RxStatusPop = false
is_reset RxStatusPeek = false
is_reset (TxWord word) = false
is_reset (Send outcome out) = false
is_reset TxStatusPop = false
is_reset TxStatusPeek = false

-- the out buffer that a call lends; the others lend none
abbrev pub lends : Call → List ℕ
lends Reset = []
lends (MacWrite register value) = []
lends (MacRead register) = []
lends (SetSplit n) = []
lends Split = []
lends RxFifoInf = []
lends TxFifoInf = []
lends RxDrop = []
lends DumpTxData = []
lends DumpTxStatus = []
lends DumpRx = []
lends (Arrive frame flags) = []
lends RxDataRead = []
lends RxStatusPop = []
lends RxStatusPeek = []
lends (TxWord word) = []
lends (Send outcome out) = out
lends TxStatusPop = []
lends TxStatusPeek = []
