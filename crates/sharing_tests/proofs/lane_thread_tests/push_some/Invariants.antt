use Rattle.std.proofs.Common.{◌≡◌}
use Rattle.sharing_tests.proofs.lane_thread_tests.push_some.Given as goal

abbrev pub invariant-loop-ticket : goal.invariant-loop-ticket
invariant-loop-ticket g l = l.seat.lane ≡ l.lane.name
