-- In range, n is 2 to 14.
use Rattle.entry.proofs.Parts.{split_range}
use Rattle.entry.proofs.sound.Sound.part.Goals as goal

pub invariant_of-split : goal.invariant_of-split
invariant_of-split c =
    let n = split_range c.args.self.state c.args.self.range in
    record { least = n.0; most = n.1 }
