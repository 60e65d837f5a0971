-- The mask is the lowest ones, as many as the number has bits.
use Rattle.std.proofs.Common.{◌≡◌, ◌-◌, ◌+◌, arith}
use Rattle.std.specs.Prelude.{◌/◌, ◌^◌}
use Rattle.std.proofs.lemmas.Nat.{and_mask}
use Rattle.std.proofs.lemmas.Nat.Bits.{ones_shr}
use Rattle.words.proofs.fields.bits.Goals as goal

pub returns : goal.returns
returns c =
    let k = c.args.high - c.args.low in
    let width : 32 - (31 - k) ≡ c.args.high + 1 - c.args.low = omega arith in
    rw (ones_shr 32 (31 - k) (omega arith), width) (and_mask (c.args.v / 2 ^ c.args.low) (c.args.high + 1 - c.args.low))
