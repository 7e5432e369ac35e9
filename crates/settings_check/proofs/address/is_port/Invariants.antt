use Rattle.std.proofs.Common.{◌≡◌, ◌≤◌, drop}
use Rattle.settings_check.specs.Address.{goes_on}
use Rattle.settings_check.proofs.address.is_port.Given as goal

abbrev pub invariant-loop-digit : goal.invariant-loop-digit
invariant-loop-digit l = record {
  small : l.port ≤ 65535;
  told : goes_on l.port (drop l.digit-index l.text) ≡ goes_on 0 l.text;
}
