-- The machine: what each call decides, and what that does to state, memory and out buffer. All of paper 01.
--   World                 the state and the lent memory
--   waits w, levels q     the words waiting in each FIFO, oldest first; how many they are
--   decide c k q          what the call c does, by the control state k and the words waiting q
--   apply a w             the world after the act a
--   act c w               what the call c does in the world w: 14, then 15, then as decided
--   step c w              a call: answer, world and out buffer after it
--   fresh m               the fresh state over any memory m
--   answer, after         the answer of one call and the world after it
--   answers, world_after  those of a list of calls
-- Assumes nothing.
use Rattle.std.specs.Prelude.{if◌then◌else◌, not, ◌&&◌, List, [], ◌∷◌, ℕ, length}
use Rattle.paper.specs.declared.Control.{Control}
use Rattle.paper.specs.declared.State.{State}
use Rattle.paper.specs.declared.Refusal.TheVariants.{MemoryLength, OutOfRange}
use Rattle.paper.specs.Answers.{Answer}
use Rattle.paper.specs.declared.Fifo.TheVariants.{TxData, TxStatus, RxData, RxStatus}
use Rattle.paper.specs.Memory.{Four, size, base, waiting, keeps, takes, restarts, ring_after, memory_after}
use Rattle.paper.specs.Registers.{rx_fifo_inf, tx_fifo_inf, with_drops}
use Rattle.paper.specs.Fresh.{fresh_control, fresh_state}
use Rattle.paper.specs.Status.{look}
use Rattle.paper.specs.Arrivals.{data_words}
use Rattle.paper.specs.Sending.{out_after}
use Rattle.paper.specs.Refusals.{lent_well, in_range}
use Rattle.paper.specs.Calls.{Call, Reset, MacWrite, MacRead, SetSplit, Split, RxFifoInf, TxFifoInf, RxDrop, DumpTxData, DumpTxStatus, DumpRx, Arrive, RxDataRead, RxStatusPop, RxStatusPeek, TxWord, Send, TxStatusPop, TxStatusPeek, is_reset, lends}
use Rattle.paper.specs.Acts.{Act, unchanged, restarted, does, refuses, with_registers, mac_write, mac_read, set_split, dump_tx_data, dump_rx, arrive, oldest, tx_word, send}

pub record World : Type 0 where
  pub state : State
  pub memory : List ℕ

-- the words waiting in each FIFO
unfoldable pub waits : World → Four (List ℕ)
waits w =
    let n = w.state.control.registers.n in
    record {
      txdata = waiting (base TxData n) (size TxData n) w.state.txdata w.memory;
      txstatus = waiting (base TxStatus n) (size TxStatus n) w.state.txstatus w.memory;
      rxdata = waiting (base RxData n) (size RxData n) w.state.rxdata w.memory;
      rxstatus = waiting (base RxStatus n) (size RxStatus n) w.state.rxstatus w.memory;
    }

abbrev pub levels : Four (List ℕ) → Four ℕ
levels q = record { txdata = length q.txdata; txstatus = length q.txstatus; rxdata = length q.rxdata; rxstatus = length q.rxstatus }

-- 01: "Reset restarts all four and sets the register defaults"; "Reads return the stored value."; "RX_DROP counts dropped frames, reads and then clears";
-- "Dumping TX status is always allowed."
unfoldable pub decide : Call → Control → Four (List ℕ) → Act
decide Reset k q = does fresh_control restarted 0
decide (MacWrite register value) k q = mac_write register value k
decide (MacRead register) k q = mac_read register k
decide (SetSplit n) k q = set_split n k (levels q)
decide Split k q = does k unchanged k.registers.n
decide RxFifoInf k q = does k unchanged (rx_fifo_inf (length q.rxstatus) (length q.rxdata))
decide TxFifoInf k q = does k unchanged (tx_fifo_inf k.registers.n (length q.txstatus) (length q.txdata))
decide RxDrop k q = does (with_registers (with_drops 0 k.registers) k) unchanged k.registers.drops
decide DumpTxData k q = dump_tx_data k
decide DumpTxStatus k q = does k (record { txdata = keeps; txstatus = restarts; rxdata = keeps; rxstatus = keeps }) 0
decide DumpRx k q = dump_rx k
decide (Arrive frame flags) k q = arrive k (levels q) (look frame flags) (data_words frame)
decide RxDataRead k q = oldest k (record { txdata = keeps; txstatus = keeps; rxdata = takes 1; rxstatus = keeps }) q.rxdata
decide RxStatusPop k q = oldest k (record { txdata = keeps; txstatus = keeps; rxdata = keeps; rxstatus = takes 1 }) q.rxstatus
decide RxStatusPeek k q = oldest k unchanged q.rxstatus
decide (TxWord word) k q = tx_word word k (levels q)
decide (Send outcome out) k q = send outcome (length out) k q
decide TxStatusPop k q = oldest k (record { txdata = keeps; txstatus = takes 1; rxdata = keeps; rxstatus = keeps }) q.txstatus
decide TxStatusPeek k q = oldest k unchanged q.txstatus

-- the changes of the four FIFOs, in their order, each in its part of the memory
unfoldable pub apply : Act → World → World
apply a w =
    let n = w.state.control.registers.n in
    let s = w.state in
    let c = a.changes in
    record {
      state =
          record {
            control = a.control;
            txdata = ring_after (size TxData n) c.txdata s.txdata;
            txstatus = ring_after (size TxStatus n) c.txstatus s.txstatus;
            rxdata = ring_after (size RxData n) c.rxdata s.rxdata;
            rxstatus = ring_after (size RxStatus n) c.rxstatus s.rxstatus;
          };
      memory =
          memory_after (base RxStatus n) (size RxStatus n) c.rxstatus s.rxstatus
          (memory_after (base RxData n) (size RxData n) c.rxdata s.rxdata
          (memory_after (base TxStatus n) (size TxStatus n) c.txstatus s.txstatus
          (memory_after (base TxData n) (size TxData n) c.txdata s.txdata w.memory)));
    }

-- 01: "Order: 14, 15 (ranges), then …"
unfoldable pub act : Call → World → Act
act c w =
    if not (lent_well w.memory) then refuses MemoryLength w.state.control else
    if not (is_reset c) && not (in_range w.state) then refuses OutOfRange w.state.control else
    decide c w.state.control (waits w)

pub record Result : Type 0 where
  pub answer : Answer
  pub world : World
  pub out : List ℕ

unfoldable pub step : Call → World → Result
step c w = record { answer = (act c w).answer; world = apply (act c w) w; out = out_after (act c w).sent (lends c) }

abbrev pub fresh : List ℕ → World
fresh m = record { state = fresh_state; memory = m }

abbrev pub answer : Call → World → Answer
answer c w = (step c w).answer

abbrev pub after : Call → World → World
after c w = (step c w).world

unfoldable pub world_after : List Call → World → World
world_after [] w = w
world_after (c ∷ cs) w = world_after cs (after c w)

unfoldable pub answers : List Call → World → List Answer
answers [] w = []
answers (c ∷ cs) w = answer c w ∷ answers cs (after c w)
