use Rattle.std.proofs.Common.{arith}
use Rattle.span_batcher.proofs.Sizes.{sizing_starts, sizing_more, sizing_ends}
use Rattle.span_batcher.proofs.size.number_size.Goals as goal

pub loop-left-init : goal.loop-left-init
loop-left-init c = sizing_starts c.args.number (omega arith)

pub loop-left-preserved : goal.loop-left-preserved
loop-left-preserved c = sizing_more c.args.number c.loop-left.left c.loop-left.more c.loop-left.invariant c.loop-left-test.true

pub returns-clause-size : goal.returns-clause-size
returns-clause-size c = sizing_ends c.args.number c.loop-left.left c.loop-left.more c.loop-left.invariant (omega arith)
