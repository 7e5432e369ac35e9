use Rattle.std.proofs.Common.{◌≡◌, length}
use Rattle.settings_check.specs.Address.{has_scheme}
use Rattle.settings_check.proofs.address.has_scheme.Given as goal

abbrev pub invariant-loop-text : goal.invariant-loop-text
invariant-loop-text l = has_scheme l.text ≡ has_scheme l.fn.text

abbrev pub decreases-loop-text : goal.decreases-loop-text
decreases-loop-text l = length l.text
