use Rattle.std.proofs.Common.{◌≡◌, map, drop}
use Rattle.otlp_front.specs.Route.{number_of}
use Rattle.tenant_registry.specs.Roster.{entry_of}
use Rattle.tenant_registry.proofs.roster.Roster.find.Given as goal

abbrev pub invariant-loop-present : goal.invariant-loop-present
invariant-loop-present l =
    number_of (map entry_of (drop l.present-index l.self.tenants.items)) l.name ≡ number_of (map entry_of l.self.tenants.items) l.name
