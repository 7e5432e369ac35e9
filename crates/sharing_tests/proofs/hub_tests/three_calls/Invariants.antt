use Rattle.std.proofs.Common.{◌≡◌}
use Rattle.machine_hub.specs.Hub.{slots_of}
use Rattle.sharing_tests.proofs.hub_tests.three_calls.Given as goal

abbrev pub invariant-loop-i : goal.invariant-loop-i
invariant-loop-i g l = slots_of l.caller ≡ l.hub
