use Rattle.std.proofs.Common.{arith, ◌-◌}
use Rattle.job_lane.proofs.Moves.{forks_as}
use Rattle.job_lane.proofs.lane.seats_of.Goals as goal

pub another-pass-requires-clause-rule : goal.another-pass-requires-clause-rule
another-pass-requires-clause-rule c = forks_as _ (c.args.seats - c.loop.counter) c.args.seats _ c.loop.invariant.1 (omega (arith, c.loop-test.true))
