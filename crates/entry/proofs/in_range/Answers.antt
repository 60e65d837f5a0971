-- Registers first, for the sizes of the FIFOs need an n from 2 to 14; then the other tests together.
use Rattle.std.proofs.Common.{◌∙◌, sym}
use Rattle.paper.specs.Refusals.{in_range}
use Rattle.paper.proofs.Kept.{good_split}
use Rattle.entry.proofs.in_range.Goals as goal

-- bad registers
pub returns-then-not-good_registers : goal.returns-then-not-good_registers
unfolding in_range
returns-then-not-good_registers c = simp (sym c.good_registers.ensures ∙ c.if-not-good_registers.true)

pub invariant_of-rings_in_range : goal.invariant_of-rings_in_range
invariant_of-rings_in_range c =
    let n = good_split _ (sym c.good_registers.ensures ∙ c.if-not-good_registers.false) in
    record { least = n.0; most = n.1 }

-- good ones
pub returns : goal.returns
unfolding in_range
returns c =
    simp (
      sym c.good_registers.ensures ∙ c.if-not-good_registers.false,
      c.rings_in_range-fifos.ensures,
      c.expect_in_range-expected.ensures,
      c.whole_in_range.ensures,
    )
