-- What is decided is the verdict, and what it does was done.
use Rattle.receive.proofs.Lines.{arrived_told}
use Rattle.receive.proofs.arrive.Goals as goal

pub returns : goal.returns
returns c =
    arrived_told c.args.x.state c.args.mem.now (record { frame = c.args.frame; flags = c.args.flags }) c.requires c.args.x.range
    c.verdict-a.result c.verdict-a.ensures c.act_on.result c.act_on.new.mem c.act_on.ensures
