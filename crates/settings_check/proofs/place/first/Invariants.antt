use Rattle.std.proofs.Common.{◌≡◌, ℕ, ◌+◌, drop, Option, Some}
use Rattle.toml.specs.Data.{Data}
use Rattle.toml.specs.View.{items_view}
use Rattle.tail_settings.specs.Fault.{FaultData, fault_view}
use Rattle.settings_check.specs.Place.{IsFirst}
use Rattle.settings_check.proofs.place.first.Given as goal

abbrev pub invariant-loop-value : goal.invariant-loop-value
invariant-loop-value l = record {
  count : l.number ≡ l.value-index;
  found : (seen : FaultData) (found : Option (ℕ × Data)) → fault_view l.fault ≡ Some seen
      → IsFirst l.level seen (l.number + 1) (items_view (drop l.value-index l.values)) found
      → IsFirst l.level seen 1 (items_view l.values) found;
}
