use Rattle.std.proofs.Common.{◌≡◌}
use Rattle.sharing_tests.proofs.lane_thread_tests.pop_one.Given as goal

abbrev pub invariant-loop : goal.invariant-loop
invariant-loop g l = l.seat.lane ≡ l.lane.name
