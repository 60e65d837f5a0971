-- The judging of an arriving frame in the order of the code. Paper 01, An arriving frame.
--   seen w                what a rule may see of the frame w, with its wire flags
--   free f s              the free words of FIFO f in a state
--   judged                lines 4 to 7, for a frame that lines 1 to 3 let through
--   verdict_of            all seven lines, for a state
--   Sized, Fitting        a frame has the bytes that the filter and the status see; what is known of a frame that is Stored
--   arrived_at            the world after what the line that answers, or the refusal, does
--   Leaves w t m          the state t and the memory m are those of the world w
--   dropped s             the state s after one more dropped frame
-- Assumes nothing.
use Rattle.std.specs.Prelude.{if◌then◌else◌, ◌≡◌, ℕ, ◌+◌, ◌-◌, ◌<◌, ◌≤◌, not, ◌&&◌, List}
use Rattle.paper.specs.declared.Registers.{Registers}
use Rattle.paper.specs.declared.State.{State}
use Rattle.paper.specs.declared.Arrival.{Arrival}
use Rattle.paper.specs.declared.Arrival.TheVariants.{Discarded, Filtered}
use Rattle.paper.specs.Words.{bit}
use Rattle.paper.specs.declared.Fifo.{Fifo}
use Rattle.paper.specs.declared.Fifo.TheVariants.{RxData, RxStatus}
use Rattle.paper.specs.Memory.{size, ring}
use Rattle.paper.specs.Registers.{RXALL, one_more, with_drops}
use Rattle.paper.specs.Filter.{passes}
use Rattle.paper.specs.Status.{Look, look, kept}
use Rattle.paper.specs.Arrivals.{Verdict, words_for, data_words, room, discards, by_room, arrival}
use Rattle.paper.specs.Acts.{with_registers, arrives}
use Rattle.paper.specs.Machine.{World, apply}
use Rattle.receive.specs.declared.Wire.{Wire}

-- 01: "bytes from destination address to FCS, length L, and flags"
abbrev pub seen : Wire → Look
seen w = look w.frame.now w.flags

-- 01, line 6: "Free RX data words", "free RX status"
abbrev pub free : Fifo → State → ℕ
free f s = size f s.control.registers.n - (ring f s).count

-- 01, line 4, line 5: "Filter says no and RXALL is clear", lines 6 and 7: the last lines of `arrival`, each without its Ok
abbrev pub judged : Registers → (words statuses : ℕ) → Look → Arrival
judged r words statuses l =
    if discards r l then Discarded else
    if not (passes r l.head) && not (bit RXALL r.maccr) then Filtered else
    by_room (room (kept l) words statuses)

abbrev pub verdict_of : State → Look → Verdict
verdict_of s l = arrival s.control.registers (free RxData s) (free RxStatus s) l

-- 01, lines 1 and 4: a frame past them has 14 to 2,048 bytes
pub record Sized (len : ℕ) : Type 0 where
  pub least : 14 ≤ len
  pub most : len ≤ 2048

-- 01, line 6: and past that one its words and one status are free
pub record Fitting (s : State) (len : ℕ) : Type 0 where
  pub sized : Sized len
  pub words : s.rxdata.count + words_for len ≤ size RxData s.control.registers.n
  pub status : s.rxstatus.count < size RxStatus s.control.registers.n

-- what `step` makes of the state s and the memory m where a is what the frame w meets
abbrev pub arrived_at : Verdict → State → (m : List ℕ) → Wire → World
arrived_at a s m w = apply (arrives a s.control (seen w) (data_words w.frame.now)) (record { state = s; memory = m })

pub record Leaves (w : World) (t : State) (m : List ℕ) : Type 0 where
  pub state : t ≡ w.state
  pub memory : m ≡ w.memory

-- 01, line 6: "RX_DROP plus one and no other change"
abbrev pub dropped : State → State
dropped s =
    record {
      control = with_registers (with_drops (one_more s.control.registers.drops) s.control.registers) s.control;
      txdata = s.txdata;
      txstatus = s.txstatus;
      rxdata = s.rxdata;
      rxstatus = s.rxstatus;
    }
