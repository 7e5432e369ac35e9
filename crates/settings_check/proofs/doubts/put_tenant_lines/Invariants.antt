use Rattle.std.proofs.Common.{◌≡◌, ◌++◌, map, string_bytes}
use Rattle.tail_settings.specs.Settings.{tenant_view}
use Rattle.settings_check.specs.Doubts.{lines_of_tenants}
use Rattle.settings_check.proofs.doubts.put_tenant_lines.Given as goal

abbrev pub invariant-tenants : goal.invariant-tenants
invariant-tenants l = record {
  can : goal.iterator-tenants.can_next l.name-iterator;
  finite : goal.iterator-tenants.is_finite l.name-iterator;
  told : string_bytes l.out ++ lines_of_tenants l.listen (map tenant_view l.name-iterator)
      ≡ string_bytes l.fn.out ++ lines_of_tenants l.listen (map tenant_view l.settings.tenants.entries);
}
