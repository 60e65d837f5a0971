-- The parts of the lent memory. Paper 01, Memory, the table of words.
--   PartOf f n p           p is the part of FIFO f, for TX_FIF_SZ n
-- Assumes nothing.
use Rattle.std.specs.Prelude.{◌≡◌, ℕ}
use Rattle.paper.specs.declared.Fifo.{Fifo}
use Rattle.paper.specs.Memory.{size, base}
use Rattle.rings.specs.declared.Part.{Part}

pub record PartOf (f : Fifo) (n : ℕ) (p : Part) : Type 0 where
  pub first : p.base ≡ base f n
  pub words : p.size ≡ size f n
