use Rattle.std.proofs.Common.{◌≡◌, None, length}
use Rattle.std.specs.Prelude.{option_copied}
use Rattle.settings_check.specs.Address.{behind_colon}
use Rattle.settings_check.proofs.address.behind_colon.Given as goal

abbrev pub invariant-loop-text : goal.invariant-loop-text
invariant-loop-text l = behind_colon (option_copied l.found) l.text ≡ behind_colon None l.fn.text

abbrev pub decreases-loop-text : goal.decreases-loop-text
decreases-loop-text l = length l.text
