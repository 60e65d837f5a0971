-- A frame that is Stored fits.
use Rattle.std.proofs.Common.{sym, ◌∙◌}
use Rattle.receive.specs.Judging.{seen}
use Rattle.receive.proofs.Lines.{stored_fits}
use Rattle.receive.proofs.act_on.Goals as goal

pub store-requires-clause-fitting : goal.store-requires-clause-fitting
store-requires-clause-fitting c =
    let stored = rw c.in-Ok-Stored.is at c.in-Ok-Stored.field-0-is in
    stored_fits c.args.x.state (seen c.args.w) c.args.x.range (rw (← stored) (sym c.in-Ok-Stored.is ∙ c.requires.judged))
