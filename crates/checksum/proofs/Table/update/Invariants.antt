-- After some turns r is what they make of start; after some bytes of the rest, what they make of the r behind the turns.
use Rattle.std.proofs.Common.{◌≡◌, take, fold}
use Rattle.checksum.specs.Register.{run, reflected}
use Rattle.checksum.proofs.Table.update.Given as goal

abbrev pub invariant-loop-eight : goal.invariant-loop-eight
invariant-loop-eight l = l.r ≡ fold (run reflected) l.start (take l.eight-index l.turns)

abbrev pub invariant-loop-b : goal.invariant-loop-b
invariant-loop-b l = l.r ≡ run reflected l.initial.r (take l.b-index l.rest)
