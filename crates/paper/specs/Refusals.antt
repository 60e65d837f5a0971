-- The refusals: their numbers, what an answer says, and the ranges of 15. Paper 01, Refusal numbers.
--   number r              01's number of a refusal, 1 to 15
--   said a                the refusal number and the value of an answer; 0 where 01 names none
--   lent_well m           the lent memory has 4,096 words
--   in_range s            each number of the state is in its range
-- The order of refusals is that of the tests: 14 and 15 in `act` of Machine, the others in each call's rule in Acts, in `arrival` and in `port_takes`.
-- Combinations that no port reaches, such as payload words left with no B known, hold what no port accepts, and are out of range (DECISIONS 4).
-- Assumes nothing.
use Rattle.std.specs.Prelude.{Bool, true, false, not, ◌&&◌, List, ℕ, ◌*◌, ltb, leb, eqb, length, Err, Ok}
use Rattle.paper.specs.declared.Refusal.{Refusal}
use Rattle.paper.specs.declared.Refusal.TheVariants.{ArrivingLength, OtherBits, NoRegister, BadValue, NotNow, ErrorStands, BadCommand, Disagrees, DataFull, SendingOff, NothingThere, StatusFull, OutShort, MemoryLength, OutOfRange}
use Rattle.paper.specs.Answers.{Answer}
use Rattle.paper.specs.declared.Said.{Said}
use Rattle.paper.specs.declared.Ring.{Ring}
use Rattle.paper.specs.declared.Packet.{Packet}
use Rattle.paper.specs.declared.Packet.TheVariants.{Closed, Opened, Known}
use Rattle.paper.specs.declared.Expect.{Expect}
use Rattle.paper.specs.declared.Expect.TheVariants.{CommandA, CommandB, Payload}
use Rattle.paper.specs.declared.State.{State}
use Rattle.paper.specs.declared.Fifo.TheVariants.{TxData, TxStatus, RxData, RxStatus}
use Rattle.paper.specs.Memory.{words_lent, size}
use Rattle.paper.specs.Registers.{good_registers}
use Rattle.paper.specs.Transmission.{good_a, good_length, packet_length, host_words, is_first}

-- 01: "arriving length", "flag or outcome bits", "no such register", "bad value, or n outside 2 to 14", "n or a dump not allowed now",
-- "TX word while a transmit error stands", "bad A, or p of a first B out of range", "later tag or p differs, or sizes disagree",
-- "a word to be stored finds TX data full", "sending with TXEN clear", "nothing to read, peek or send", "TX status full", "out buffer short",
-- "lent memory not 4,096 words", "a state number out of its range, or the head packet in memory is none the port would store"
abbrev pub number : Refusal → ℕ
number ArrivingLength = 1
number OtherBits = 2
number NoRegister = 3
number BadValue = 4
number NotNow = 5
number ErrorStands = 6
number BadCommand = 7
number Disagrees = 8
number DataFull = 9
number SendingOff = 10
number NothingThere = 11
number StatusFull = 12
number OutShort = 13
number MemoryLength = 14
number OutOfRange = 15

-- 01: "A refusal returns value 0"
abbrev pub said : Answer → Said
said (Ok v) = record { refusal = 0; value = v }
said (Err r) = record { refusal = number r; value = 0 }

-- 01, refusal 14: "lent memory not 4,096 words"
abbrev pub lent_well : List ℕ → Bool
lent_well m = eqb (length m) words_lent

-- 01: "places below the FIFO's size, counts at most the size"
abbrev pub ring_in_range : (size : ℕ) → Ring → Bool
ring_in_range size r = ltb r.at size && leb r.count size

-- 01: "an A and first B held are ones the port accepts, sizes so far at most p, payload words left from 1 to what that A asks"
abbrev pub a_in_range : Packet → (a : ℕ) → Bool
a_in_range Closed a = false
a_in_range Opened a = good_a false a
a_in_range (Known b sizes) a = good_a true a

abbrev pub known_in_range : (b sizes : ℕ) → Bool
known_in_range b sizes = good_length b && leb sizes (packet_length b)

abbrev pub packet_in_range : Packet → Bool
packet_in_range Closed = true
packet_in_range Opened = true
packet_in_range (Known b sizes) = known_in_range b sizes

abbrev pub awaits_b : Packet → Bool
awaits_b Closed = false
awaits_b Opened = true
awaits_b (Known b sizes) = false

abbrev pub is_known : Packet → Bool
is_known Closed = false
is_known Opened = false
is_known (Known b sizes) = true

-- While payload is counted the A may be a first or a later one, so its First bit is judged by itself, which always passes (DECISIONS 3).
unfoldable pub expect_in_range : Expect → Bool
expect_in_range (CommandA packet) = packet_in_range packet && not (awaits_b packet)
expect_in_range (CommandB a packet) = a_in_range packet a && packet_in_range packet
expect_in_range (Payload a left packet) = is_known packet && packet_in_range packet && good_a (not (is_first a)) a && leb 1 left && leb left (host_words a)

-- 01: "places below the FIFO's size, counts at most the size", for the four FIFOs
abbrev pub rings_in_range : (n : ℕ) → State → Bool
rings_in_range n s =
    ring_in_range (size TxData n) s.txdata && ring_in_range (size TxStatus n) s.txstatus
    && ring_in_range (size RxData n) s.rxdata && ring_in_range (size RxStatus n) s.rxstatus

-- 01: "whole packets at most a third of the words held"
abbrev pub whole_in_range : (whole held : ℕ) → Bool
whole_in_range whole held = leb (3 * whole) held

unfoldable pub in_range : State → Bool
in_range s =
    good_registers s.control.registers
    && rings_in_range s.control.registers.n s
    && expect_in_range s.control.port.expect
    && whole_in_range s.control.port.whole s.txdata.count
