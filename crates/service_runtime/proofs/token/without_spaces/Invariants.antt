use Rattle.std.proofs.Common.{◌≡◌, length}
use Rattle.service_runtime.specs.Token.{without_spaces}
use Rattle.service_runtime.proofs.token.without_spaces.Given as goal

abbrev pub invariant-loop-text : goal.invariant-loop-text
invariant-loop-text l = without_spaces l.text ≡ without_spaces l.fn.text

abbrev pub decreases-loop-text : goal.decreases-loop-text
decreases-loop-text l = length l.text
