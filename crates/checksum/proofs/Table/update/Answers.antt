-- Behind the last turn and the last byte, by `run_turns`.
use Rattle.std.proofs.Common.{length, ◌/◌, take_all}
use Rattle.checksum.specs.Register.{reflected}
use Rattle.checksum.proofs.Bytes.{run_turns}
use Rattle.checksum.proofs.Table.update.Goals as goal

pub returns : goal.returns
returns c = cc (
  take_all c.loop-eight.eight-index c.as_chunks.result.0.now c.loop-eight-test.false,
  take_all c.loop-b.b-index c.as_chunks.result.1.now c.loop-b-test.false,
  run_turns reflected c.args.start (length c.args.s.now / 8) c.args.s.now,
)
