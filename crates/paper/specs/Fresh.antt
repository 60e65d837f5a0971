-- The fresh state. Paper 01, Memory: "Reset restarts all four and sets the register defaults of the fresh state".
--   fresh_maccr, fresh_addrh, fresh_addrl, fresh_n    the defaults by name, for whoever cites them
--   fresh_registers, fresh_port, fresh_control, empty, fresh_state
-- Differs from 000: MAC_CR 0 (ours), where 000 prints 00040000h.
-- Assumes nothing.
use Rattle.std.specs.Prelude.{false, ℕ}
use Rattle.paper.specs.declared.Registers.{Registers}
use Rattle.paper.specs.declared.Ring.{Ring}
use Rattle.paper.specs.declared.Port.{Port}
use Rattle.paper.specs.declared.Control.{Control}
use Rattle.paper.specs.declared.State.{State}
use Rattle.paper.specs.declared.Packet.TheVariants.{Closed}
use Rattle.paper.specs.declared.Expect.TheVariants.{CommandA}

-- 01: "TX_FIF_SZ is n, 2 to 14, fresh value 5"; "n = 5; MAC_CR 0 (ours); ADDRH 0000FFFFh; ADDRL FFFFFFFFh; HASHH, HASHL, RX_DROP 0"
abbrev pub fresh_n : ℕ
fresh_n = 5

abbrev pub fresh_maccr : ℕ
fresh_maccr = 0

abbrev pub fresh_addrh : ℕ
fresh_addrh = 0x0000_FFFF

abbrev pub fresh_addrl : ℕ
fresh_addrl = 0xFFFF_FFFF

abbrev pub fresh_registers : Registers
fresh_registers = record { n = fresh_n; maccr = fresh_maccr; addrh = fresh_addrh; addrl = fresh_addrl; hashh = 0; hashl = 0; drops = 0 }

-- 01: "no transmit error, no packet open or whole, the port expecting an A"
abbrev pub fresh_port : Port
fresh_port = record { expect = CommandA Closed; failed = false; whole = 0 }

abbrev pub empty : Ring
empty = record { at = 0; count = 0 }

abbrev pub fresh_control : Control
fresh_control = record { registers = fresh_registers; port = fresh_port }

abbrev pub fresh_state : State
fresh_state = record { control = fresh_control; txdata = empty; txstatus = empty; rxdata = empty; rxstatus = empty }
