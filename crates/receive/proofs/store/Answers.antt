-- Both have room; the data words, then the status, as `stored_leaves` says.
use Rattle.std.proofs.Common.{arith, length}
use Rattle.paper.specs.Arrivals.{words_for}
use Rattle.paper.specs.declared.Fifo.TheVariants.{RxData, RxStatus}
use Rattle.entry.proofs.Parts.{words_fit}
use Rattle.receive.proofs.Lines.{stored_leaves}
use Rattle.receive.proofs.store.Goals as goal

pub put_frame-rxdata-requires : goal.put_frame-rxdata-requires
put_frame-rxdata-requires c =
    rw (c.part.ensures.first, c.part.ensures.words)
    (words_fit RxData c.args.x.state c.args.mem.now c.args.x.range c.requires.lent (words_for (length c.args.w.frame.now)) c.requires.fitting.words)

pub put-rxstatus-requires : goal.put-rxstatus-requires
put-rxstatus-requires c =
    rw (c.part-2.ensures.first, c.part-2.ensures.words)
    (words_fit RxStatus c.args.x.state c.put_frame-rxdata.new.mem c.args.x.range (omega (arith, c.put_frame-rxdata.auto.mem)) 1 (omega (arith, c.requires.fitting.status)))

pub returns : goal.returns
returns c =
    stored_leaves c.args.x.state c.args.mem.now c.args.w
    c.part.ensures c.part-2.ensures c.status_of-status.ensures c.put_frame-rxdata.ensures c.put-rxstatus.ensures
