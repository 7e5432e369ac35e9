use Rattle.std.proofs.Common.{◌-◌}
use Rattle.service_runtime.proofs.arrival.all_arrive.Given as goal

abbrev pub decreases-loop-here : goal.decreases-loop-here
decreases-loop-here g l = l.threads - l.here
