-- The outcome under the error mark under the tag.
use Rattle.std.proofs.Common.{◌∙◌, ap, arith}
use Rattle.paper.proofs.Counts.{outcome_bound}
use Rattle.paper.specs.Sending.{tx_status}
use Rattle.paper.specs.Transmission.{tag}
use Rattle.paper.specs.Words.{mark}
use Rattle.words.proofs.Sums.{lowest, mark_under, shifted, under}
use Rattle.words.proofs.status.tx_status.Goals as goal

pub returns : goal.returns
unfolding tx_status
returns c =
    let o = c.args.outcome in
    let b = c.args.b in
    let w = mark_under 15 _ (c.mark.ensures ∙ ap (mark 15) c.outcome_error.ensures) tt (shifted 16 16 (tag b) tt (omega arith)) in
    rw c.tag.ensures (under w (lowest o) (omega (arith, outcome_bound o c.requires)) (omega arith)).sum
