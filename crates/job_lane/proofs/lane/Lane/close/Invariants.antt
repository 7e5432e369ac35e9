use Rattle.std.proofs.Common.{vec_len}
use Rattle.crossbeam_queue.specs.Passes.{view as known, IsPassOf}
use Rattle.job_lane.proofs.Closing.{IsTakenIn}
use Rattle.job_lane.proofs.lane.Lane.close.Given as goal

abbrev pub invariant-loop-last : goal.invariant-loop-last
invariant-loop-last g l = IsPassOf l.queue l.root × IsTakenIn l.fn.keeper l.fn.seats.items l.seats.items (known l.root) l.pushed

abbrev pub decreases-loop-last : goal.decreases-loop-last
decreases-loop-last g l = vec_len l.seats
