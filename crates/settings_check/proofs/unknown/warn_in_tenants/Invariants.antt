use Rattle.std.proofs.Common.{◌≡◌, ◌+◌, ◌++◌, drop, string_bytes}
use Rattle.toml.specs.View.{items_view}
use Rattle.settings_check.specs.Unknown.{unknown_in_tenants}
use Rattle.settings_check.specs.Warning.{warnings}
use Rattle.settings_check.proofs.unknown.warn_in_tenants.Given as goal

abbrev pub invariant-loop-tenant : goal.invariant-loop-tenant
invariant-loop-tenant l = record {
  count : l.number ≡ l.tenant-index;
  told : string_bytes l.out ++ warnings (unknown_in_tenants (l.number + 1) (items_view (drop l.tenant-index l.tenants)))
      ≡ string_bytes l.fn.out ++ warnings (unknown_in_tenants 1 (items_view l.tenants));
}
