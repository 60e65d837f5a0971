-- Each mark, and the length, under those above it.
use Rattle.std.proofs.Common.{◌∙◌, ap, arith}
use Rattle.paper.specs.Words.{mark}
use Rattle.words.specs.Status.{status_of}
use Rattle.words.proofs.Sums.{is_mark, mark_under, shifted, under}
use Rattle.words.proofs.status.rx_status.Goals as goal

pub returns : goal.returns
unfolding status_of
returns c =
    let m = c.args.m in
    let w = under (is_mark 30 m.miss c.mark.ensures) (shifted 16 14 c.args.len tt (omega (arith, c.requires))) (omega (arith, c.requires)) (omega arith) in
    let w = mark_under 15 _ (c.mark-2.ensures ∙ ap (mark 15) c.has_error.ensures) tt w in
    let w = mark_under 13 m.broadcast c.mark-3.ensures tt w in
    let w = mark_under 12 m.wronglength c.mark-4.ensures tt w in
    let w = mark_under 11 m.runt c.mark-5.ensures tt w in
    let w = mark_under 10 m.group c.mark-6.ensures tt w in
    let w = mark_under 7 m.long c.mark-7.ensures tt w in
    let w = mark_under 6 m.collision c.mark-8.ensures tt w in
    let w = mark_under 5 m.typed c.mark-9.ensures tt w in
    let w = mark_under 3 m.mii c.mark-10.ensures tt w in
    let w = mark_under 2 m.dribble c.mark-11.ensures tt w in
    (mark_under 1 m.badfcs c.mark-12.ensures tt w).sum
