use Rattle.std.proofs.Common.{arith}
use Rattle.job_lane.proofs.Moves.{widens_as}
use Rattle.job_lane.proofs.lane.widen.Goals as goal

pub another-nobody-requires-clause-rule : goal.another-nobody-requires-clause-rule
another-nobody-requires-clause-rule c = widens_as _ c.loop.counter _ c.loop.invariant.1 (omega arith)
