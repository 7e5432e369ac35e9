use Rattle.std.proofs.Common.{◌≡◌}
use Rattle.machine_hub.specs.Hub.{slots_of}
use Rattle.sharing_tests.proofs.story_tests.follow.Given as goal

abbrev pub invariant-loop-text : goal.invariant-loop-text
invariant-loop-text g l = slots_of l.me ≡ l.hub
