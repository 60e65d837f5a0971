-- Samples for the computed theorems: a station, frames whose FCS an outside program gave, worlds with some of their numbers given, and answers as numbers.
--   station maccr         the fresh registers with a MAC_CR and the address 02-11-22-33-44-55
--   packed a, told xs     an answer as its refusal number times 2^32 plus its value; a list of them
--   frame64, frame65      whole frames for the station, V 0800h, with a good FCS (zlib's crc32, first byte lowest)
--   seen len dest v       the look of a frame with a good FCS and no flags
--   filled                a lent memory in which old words show
--   receives, sends_on    worlds with the RX or the TX numbers given
--   asked w calls         the answers to calls in a world
--   posted maccr l        what an arrival does at the station with empty receive FIFOs: the answer, and the status put
-- Assumes nothing.
use mathlib.Core.Bool.{true, false}
use mathlib.Core.List.{List, [], ◌∷◌, ◌++◌, map}
use Prim.Native.Nat.{ℕ, ◌+◌, ◌*◌, ◌/◌, ◌%◌, ◌^◌}
use lib.ListN.{replicate, take}
use Rattle.paper.specs.Answers.{Answer}
use Rattle.paper.specs.declared.Registers.{Registers}
use Rattle.paper.specs.declared.Control.{Control}
use Rattle.paper.specs.Memory.{words_lent, Change, keeps, puts, takes, restarts}
use Rattle.paper.specs.Fresh.{fresh_n, fresh_port, empty}
use Rattle.paper.specs.Status.{Look}
use Rattle.paper.specs.Refusals.{said}
use Rattle.paper.specs.declared.Ring.{Ring}
use Rattle.paper.specs.declared.Expect.{Expect}
use Rattle.paper.specs.Registers.{RXEN}
use Rattle.paper.specs.Calls.{Call}
use Rattle.paper.specs.Machine.{World, answers}
use Rattle.paper.specs.Acts.{arrive}

abbrev pub station : ℕ → Registers
station maccr = record { n = fresh_n; maccr = maccr; addrh = 0x5544; addrl = 0x3322_1102; hashh = 0; hashl = 0; drops = 0 }

abbrev pub stationed : ℕ → Control
stationed maccr = record { registers = station maccr; port = fresh_port }

abbrev pub packed : Answer → ℕ
packed a = (said a).refusal * 2 ^ 32 + (said a).value

abbrev pub told : List Answer → List ℕ
told answers = map packed answers

-- a refusal by its number, packed
abbrev pub refusal : ℕ → ℕ
refusal k = k * 2 ^ 32

abbrev pub us : List ℕ
us = 0x02 ∷ 0x11 ∷ 0x22 ∷ 0x33 ∷ 0x44 ∷ 0x55 ∷ []

abbrev pub another : List ℕ
another = 0x02 ∷ 0x11 ∷ 0x22 ∷ 0x33 ∷ 0x44 ∷ 0x54 ∷ []

abbrev pub everybody : List ℕ
everybody = replicate 6 0xFF

abbrev pub source : List ℕ
source = 10 ∷ 11 ∷ 12 ∷ 13 ∷ 14 ∷ 15 ∷ []

abbrev pub seen : (len : ℕ) → List ℕ → (v : ℕ) → Look
seen len destination v = record { len = len; head = take len (destination ++ source ++ (v / 2 ^ 8 ∷ v % 2 ^ 8 ∷ [])); flags = 0; fits = true }

-- 60 bytes from the destination address on
abbrev pub front60 : List ℕ
front60 =
    2 ∷ 17 ∷ 34 ∷ 51 ∷ 68 ∷ 85 ∷ 10 ∷ 11 ∷ 12 ∷ 13 ∷ 14 ∷ 15 ∷ 8 ∷ 0 ∷ 11 ∷ 48 ∷ 85 ∷ 122 ∷ 159 ∷ 196 ∷ 233 ∷ 14 ∷ 51 ∷ 88 ∷ 125 ∷ 162 ∷ 199 ∷ 236
    ∷ 17 ∷ 54 ∷ 91 ∷ 128 ∷ 165 ∷ 202 ∷ 239 ∷ 20 ∷ 57 ∷ 94 ∷ 131 ∷ 168 ∷ 205 ∷ 242 ∷ 23 ∷ 60 ∷ 97 ∷ 134 ∷ 171 ∷ 208 ∷ 245 ∷ 26 ∷ 63 ∷ 100 ∷ 137 ∷ 174
    ∷ 211 ∷ 248 ∷ 29 ∷ 66 ∷ 103 ∷ 140 ∷ []

abbrev pub frame64 : List ℕ
frame64 = front60 ++ (146 ∷ 52 ∷ 122 ∷ 126 ∷ [])

abbrev pub frame65 : List ℕ
frame65 = front60 ++ (177 ∷ 203 ∷ 228 ∷ 27 ∷ 112 ∷ [])

abbrev pub filled : List ℕ
filled = replicate words_lent 0xFFFF_FFFF

-- an out buffer of the least length
abbrev pub lent_out : List ℕ
lent_out = replicate 1518 0xEE

-- A world with some numbers of its state given, over a memory in which old words show.
abbrev pub held : (at count : ℕ) → Ring
held at count = record { at = at; count = count }

abbrev pub with_split : ℕ → Registers → Registers
with_split n r = record { n = n; maccr = r.maccr; addrh = r.addrh; addrl = r.addrl; hashh = r.hashh; hashl = r.hashl; drops = r.drops }

abbrev pub receives : (n : ℕ) → (words statuses : Ring) → World
receives n words statuses =
    record {
      state =
          record {
            control = record { registers = with_split n (station (2 ^ RXEN)); port = fresh_port };
            txdata = empty;
            txstatus = empty;
            rxdata = words;
            rxstatus = statuses;
          };
      memory = filled;
    }

abbrev pub sends_on : (maccr : ℕ) → Expect → (whole : ℕ) → (words statuses : Ring) → World
sends_on maccr expect whole words statuses =
    record {
      state =
          record {
            control = record { registers = with_split 2 (station maccr); port = record { expect = expect; failed = false; whole = whole } };
            txdata = words;
            txstatus = statuses;
            rxdata = empty;
            rxstatus = empty;
          };
      memory = filled;
    }

abbrev pub asked : World → List Call → List ℕ
asked w calls = told (answers calls w)

abbrev pub put_in : Change → List ℕ
put_in keeps = []
put_in (puts ws) = ws
put_in (takes k) = []
put_in restarts = []

-- what arrives at the station with MAC_CR and both receive FIFOs empty: the answer, and the status put
abbrev pub posted : (maccr : ℕ) → Look → List ℕ
posted maccr l =
    let act = arrive (stationed maccr) (record { txdata = 0; txstatus = 0; rxdata = 0; rxstatus = 0 }) l [] in
    packed act.answer ∷ put_in act.changes.rxstatus

abbrev pub receiving : ℕ
receiving = 2 ^ RXEN
