-- The words left, put into the ring and the memory as they are now, come to the same as all of them put at the start.
use Rattle.paper.specs.Arrivals.{data_words}
use Rattle.rings.proofs.Puts.{Going}
use Rattle.rings.proofs.Part.put_frame.Given as goal

abbrev pub invariant-loop-k : goal.invariant-loop-k
invariant-loop-k l = Going l.self.base l.self.size (data_words l.frame) l.initial.q l.initial.mem l.q l.mem l.k
