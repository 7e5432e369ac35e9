use Rattle.std.proofs.Common.{◌≡◌, false, drop}
use Rattle.collector_command.specs.Token.{goes_on}
use Rattle.collector_command.proofs.admin.goes_on.Given as goal

abbrev pub invariant-loop-byte : goal.invariant-loop-byte
invariant-loop-byte l = goes_on l.is_padded (drop l.byte-index l.behind) ≡ goes_on false l.behind
