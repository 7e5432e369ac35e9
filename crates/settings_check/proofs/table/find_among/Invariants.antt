use Rattle.std.proofs.Common.{◌≡◌, drop}
use Rattle.settings_check.specs.Table.{key_among}
use Rattle.settings_check.proofs.table.find_among.Given as goal

abbrev pub invariant-loop-key : goal.invariant-loop-key
invariant-loop-key l = key_among l.name (drop l.key-index l.keys) ≡ key_among l.name l.keys
