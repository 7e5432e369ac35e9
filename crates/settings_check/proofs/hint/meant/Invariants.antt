use Rattle.std.proofs.Common.{◌≡◌, drop}
use Rattle.settings_check.specs.Warning.{meant_of}
use Rattle.settings_check.proofs.hint.meant.Given as goal

abbrev pub invariant-loop-key : goal.invariant-loop-key
invariant-loop-key l = meant_of l.text (drop l.key-index l.keys) ≡ meant_of l.text l.keys
