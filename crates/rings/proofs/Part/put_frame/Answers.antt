use Rattle.std.proofs.Common.{arith}
use Rattle.rings.proofs.Puts.{words_left, words_done, going_on, going_done}
use Rattle.rings.proofs.Part.put_frame.Goals as goal

pub loop-k-preserved : goal.loop-k-preserved
loop-k-preserved c =
    going_on c.loop-k.invariant (rw c.word_at.ensures (words_left c.args.frame.now c.loop-k.k (omega (arith, c.loop-k-test.true, c.div_ceil-k-end.ensures)))) c.put-q.ensures

pub returns : goal.returns
returns c = going_done c.loop-k.invariant (words_done c.args.frame.now c.loop-k.k (omega (arith, c.loop-k-test.false, c.div_ceil-k-end.ensures)))
