-- The registers. Paper 01, Registers, and of An arriving frame the table of settings.
--   RXALL .. RXEN, carried              the carried bits of MAC_CR, by number
--   Setting, defined                    a setting of the five mode bits, and one that is defined
--   settings, setting_number, setting_of    the 32 settings, the number of a MAC_CR's setting, and that setting
--   good_maccr, good_addrh, good_n      what a write accepts
--   is_register k, good_value k v       there is a MAC register k; v may be written to it
--   read_register, write_register       MAC register k of r; r after the write. Used for k from 1 to 5; for another k 0 and no change
--   good_registers                      each register holds what a write accepts
--   rx_fifo_inf, tx_fifo_inf            the level words, from numbers of words and statuses
--   one_more                            RX_DROP after one more dropped frame
--   with_n, with_drops                  the registers with another n, or another RX_DROP
--   is_defined                          whether a setting is defined
--   is_closed, expects_first            no packet is open; the port expects an A with none open
--   is_idle p                           no transmit buffer or packet is open and no transmit error stands
--   may_resize, may_dump_tx_data, may_dump_rx    whether setting n, or a dump, is allowed now
-- Differs from 000: MAC_CR starts at 0 (ours) and no bit but these is carried (DECISIONS 21).
-- Assumes nothing.
use Rattle.std.specs.Prelude.{if◌then◌else◌, Bool, true, false, not, ◌&&◌, List, [], ◌∷◌, ℕ, ◌+◌, ◌-◌, ◌*◌, ◌%◌, ◌^◌, leb, eqb, get_or, Option, None, Some}
use Rattle.paper.specs.declared.Registers.{Registers}
use Rattle.paper.specs.declared.Rule.{Rule}
use Rattle.paper.specs.declared.Rule.TheVariants.{Equal, NotEqual, Hash, Pass}
use Rattle.paper.specs.declared.Rules.{Rules}
use Rattle.paper.specs.declared.Port.{Port}
use Rattle.paper.specs.declared.Expect.{Expect}
use Rattle.paper.specs.declared.Expect.TheVariants.{CommandA, CommandB, Payload}
use Rattle.paper.specs.declared.Packet.{Packet}
use Rattle.paper.specs.declared.Packet.TheVariants.{Closed, Opened, Known}
use Rattle.paper.specs.Words.{digit, bit, only_bits}
use Rattle.paper.specs.declared.Fifo.TheVariants.{TxData}
use Rattle.paper.specs.Memory.{Four, size}

-- 01: "MAC_CR bits carried: 31 RXALL, 20 FDPX (kept, no effect), 19 MCPAS, 18 PRMS, 17 INVFILT, 16 PASSBAD, 15 HO, 13 HPFILT, 11 BCAST, 3 TXEN, 2 RXEN."
abbrev pub RXALL : ℕ
RXALL = 31

abbrev pub FDPX : ℕ
FDPX = 20

abbrev pub MCPAS : ℕ
MCPAS = 19

abbrev pub PRMS : ℕ
PRMS = 18

abbrev pub INVFILT : ℕ
INVFILT = 17

abbrev pub PASSBAD : ℕ
PASSBAD = 16

abbrev pub HO : ℕ
HO = 15

abbrev pub HPFILT : ℕ
HPFILT = 13

abbrev pub BCAST : ℕ
BCAST = 11

abbrev pub TXEN : ℕ
TXEN = 3

abbrev pub RXEN : ℕ
RXEN = 2

abbrev pub carried : List ℕ
carried = RXALL ∷ FDPX ∷ MCPAS ∷ PRMS ∷ INVFILT ∷ PASSBAD ∷ HO ∷ HPFILT ∷ BCAST ∷ TXEN ∷ RXEN ∷ []

-- 01: "by (MCPAS, PRMS, INVFILT, HO, HPFILT)", here with MCPAS as the highest of the five
abbrev pub setting_number : ℕ → ℕ
setting_number maccr = digit MCPAS maccr * 16 + digit PRMS maccr * 8 + digit INVFILT maccr * 4 + digit HO maccr * 2 + digit HPFILT maccr

-- A setting: none where it is undefined, else the rule for group and that for individual addresses.
abbrev pub Setting : Type 0
Setting = Option Rules

abbrev pub defined : (group individual : Rule) → Setting
defined group individual = Some (record { group = group; individual = individual })

-- 01: "Of the table of the 32 settings 15 are defined". First the rule for group, then that for individual addresses; four settings to a line,
-- by (HO, HPFILT). That it is 01's table of seven lines is computed in proofs/Rows.
unfoldable pub settings : List Setting
settings =
    defined Equal Equal ∷ defined Hash Equal ∷ None ∷ defined Hash Hash
    ∷ defined NotEqual NotEqual ∷ None ∷ None ∷ None
    ∷ defined Pass Pass ∷ defined Pass Pass ∷ defined Pass Pass ∷ defined Pass Pass
    ∷ None ∷ None ∷ None ∷ None
    ∷ defined Pass Equal ∷ defined Pass Equal ∷ None ∷ defined Pass Hash
    ∷ None ∷ None ∷ None ∷ None
    ∷ defined Pass Pass ∷ defined Pass Pass ∷ defined Pass Pass ∷ defined Pass Pass
    ∷ None ∷ None ∷ None ∷ None
    ∷ []

abbrev pub setting_of : ℕ → Setting
setting_of maccr = get_or settings (setting_number maccr) None

abbrev pub is_defined : Setting → Bool
is_defined None = false
is_defined (Some rules) = true

-- 01: "Any other bit set is a bad value"; "writing one of the other 17 is a bad value"
abbrev pub good_maccr : ℕ → Bool
good_maccr v = only_bits carried v && is_defined (setting_of v)

-- 01: "so is an ADDRH above FFFFh"
abbrev pub good_addrh : ℕ → Bool
good_addrh v = leb v 0xFFFF

-- 01: "TX_FIF_SZ is n, 2 to 14"
abbrev pub good_n : ℕ → Bool
good_n n = leb 2 n && leb n 14

-- 01: "MAC registers by number: 1 MAC_CR, 2 ADDRH, 3 ADDRL, 4 HASHH, 5 HASHL."
abbrev pub is_register : ℕ → Bool
is_register k = leb 1 k && leb k 5

abbrev pub good_value : (k v : ℕ) → Bool
good_value k v = if eqb k 1 then good_maccr v else if eqb k 2 then good_addrh v else true

-- 01: "Reads return the stored value."
unfoldable pub read_register : ℕ → Registers → ℕ
read_register k r =
    if eqb k 1 then r.maccr else
    if eqb k 2 then r.addrh else
    if eqb k 3 then r.addrl else
    if eqb k 4 then r.hashh else
    if eqb k 5 then r.hashl else 0

unfoldable pub write_register : (k v : ℕ) → Registers → Registers
write_register k v r =
    record {
      n = r.n;
      maccr = if eqb k 1 then v else r.maccr;
      addrh = if eqb k 2 then v else r.addrh;
      addrl = if eqb k 3 then v else r.addrl;
      hashh = if eqb k 4 then v else r.hashh;
      hashl = if eqb k 5 then v else r.hashl;
      drops = r.drops;
    }

-- 01, Refusal numbers: "registers as a write accepts"
unfoldable pub good_registers : Registers → Bool
good_registers r = good_n r.n && good_maccr r.maccr && good_addrh r.addrh

-- 01: "RX_FIFO_INF: RX statuses waiting in bits 23 to 16, RX data bytes waiting (words times 4) in 15 to 0."
abbrev pub rx_fifo_inf : (statuses words : ℕ) → ℕ
rx_fifo_inf statuses words = statuses * 2 ^ 16 + words * 4

-- 01: "TX_FIFO_INF: TX statuses waiting in 23 to 16, free TX data bytes in 15 to 0."
abbrev pub tx_fifo_inf : (n statuses words : ℕ) → ℕ
tx_fifo_inf n statuses words = statuses * 2 ^ 16 + (size TxData n - words) * 4

-- 01: "RX_DROP counts dropped frames, reads and then clears; the count after FFFFFFFFh is 0 (ours)."
abbrev pub one_more : ℕ → ℕ
one_more drops = (drops + 1) % 2 ^ 32

abbrev pub with_drops : ℕ → Registers → Registers
with_drops d r = record { n = r.n; maccr = r.maccr; addrh = r.addrh; addrl = r.addrl; hashh = r.hashh; hashl = r.hashl; drops = d }

abbrev pub with_n : ℕ → Registers → Registers
with_n n r = record { n = n; maccr = r.maccr; addrh = r.addrh; addrl = r.addrl; hashh = r.hashh; hashl = r.hashl; drops = r.drops }

abbrev pub is_closed : Packet → Bool
is_closed Closed = true
is_closed Opened = false
is_closed (Known b sizes) = false

abbrev pub expects_first : Expect → Bool
expects_first (CommandA packet) = is_closed packet
expects_first (CommandB a packet) = false
expects_first (Payload a left packet) = false

-- 01: "no transmit buffer or packet is open and no transmit error stands"
abbrev pub is_idle : Port → Bool
is_idle p = expects_first p.expect && not p.failed

-- 01: "A call that sets n, even to its present value, is allowed only if all four FIFOs are empty, TXEN and RXEN are clear, no transmit buffer or packet
-- is open and no transmit error stands". levels are the words waiting in each FIFO.
unfoldable pub may_resize : Registers → Port → Four ℕ → Bool
may_resize r p levels =
    eqb levels.txdata 0 && eqb levels.txstatus 0 && eqb levels.rxdata 0 && eqb levels.rxstatus 0
    && not (bit TXEN r.maccr) && not (bit RXEN r.maccr) && is_idle p

-- 01: "Dumping TX data needs TXEN clear"; "Dumping RX needs RXEN clear"; "Dumping TX status is always allowed."
abbrev pub may_dump_tx_data : Registers → Bool
may_dump_tx_data r = not (bit TXEN r.maccr)

abbrev pub may_dump_rx : Registers → Bool
may_dump_rx r = not (bit RXEN r.maccr)
