use Rattle.std.proofs.Common.{◌≡◌, ◌++◌, map}
use Rattle.otlp_front.specs.Route.{names_in}
use Rattle.tail_settings.specs.Settings.{settings_view, tenant_view}
use Rattle.tenant_registry.specs.Roster.{entry_of}
use Rattle.tenant_registry.proofs.roster.tenants_of.Given as goal

abbrev pub invariant-tenants : goal.invariant-tenants
invariant-tenants l = record {
  can : goal.iterator-tenants.can_next l.name-iterator;
  finite : goal.iterator-tenants.is_finite l.name-iterator;
  made : map entry_of l.tenants.items ++ map (λ t. (t.number, t.name)) (map tenant_view l.name-iterator)
      ≡ (names_in (settings_view l.settings)).tenants;
}
