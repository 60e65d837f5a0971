-- Memory of another length is refused and nothing changes.
use Rattle.std.proofs.Common.{refl, sym, arith}
use Rattle.paper.specs.Calls.{Reset}
use Rattle.paper.proofs.Contracts.{told_short}
use Rattle.model.proofs.reset.Goals as goal

pub returns-then-mem-ne4096 : goal.returns-then-mem-ne4096
returns-then-mem-ne4096 c = rw c.refused.ensures (sym (told_short Reset c.args.s c.args.mem.now (λ e. omega arith) refl))
