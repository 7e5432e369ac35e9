use Rattle.std.proofs.Common.{arith}
use Rattle.job_lane.proofs.Moves.{merges}
use Rattle.job_lane.proofs.lane.take_in.Goals as goal

pub absorb-requires-clause-rule : goal.absorb-requires-clause-rule
absorb-requires-clause-rule c = merges _ _ _ _ (omega (arith, c.last.invariant.1))
