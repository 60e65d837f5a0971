-- Facts of every FIFO.
--   each                  four facts, one for each FIFO, are a fact of every FIFO
--   waits_count           as many words wait in a FIFO as its ring counts
-- Assumes nothing.
use mathlib.Core.Path.{◌≡◌, ap, ◌∙◌}
use lib.ListN.{length}
use Rattle.paper.specs.declared.Fifo.{Fifo}
use Rattle.paper.specs.declared.Fifo.TheVariants.{TxData, TxStatus, RxData, RxStatus}
use Rattle.paper.specs.Memory.{size, base, of}
use Rattle.paper.specs.Machine.{World, waits}
use Rattle.paper.proofs.Memory.{waiting_length}
use Rattle.paper.specs.Memory.{ring}
use Rattle.paper.proofs.Rings.{split, waits_of}

-- Four facts, one for each FIFO, are a fact of every FIFO.
pub each : (P : Fifo → Type 0) → P TxData → P TxStatus → P RxData → P RxStatus → (f : Fifo) → P f
each P a b c d TxData = a
each P a b c d TxStatus = b
each P a b c d RxData = c
each P a b c d RxStatus = d

-- As many words wait in a FIFO as its ring counts.
pub waits_count : (w : World) (f : Fifo) → length (of (waits w) f) ≡ (ring f w.state).count
waits_count w f = ap length (waits_of f w) ∙ waiting_length (base f (split w)) (size f (split w)) (ring f w.state) w.memory
