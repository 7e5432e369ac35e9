use Rattle.std.proofs.Common.{◌≡◌, ◌++◌, map}
use Rattle.toml.specs.Data.{table}
use Rattle.toml.specs.View.{view}
use Rattle.tail_settings.specs.Settings.{tenant_view}
use Rattle.settings_check.specs.Document.{tenant_table}
use Rattle.settings_check.proofs.document.tenant_array.Given as goal

abbrev pub invariant-tenants : goal.invariant-tenants
invariant-tenants l = record {
  can : goal.iterator-tenants.can_next l.name-iterator;
  finite : goal.iterator-tenants.is_finite l.name-iterator;
  made : map view l.tables.items ++ map (λ x. table (tenant_table x)) (map tenant_view l.name-iterator)
      ≡ map (λ x. table (tenant_table x)) (map tenant_view l.settings.tenants.entries);
}
