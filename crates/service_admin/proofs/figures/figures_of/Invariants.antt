use Rattle.std.proofs.Common.{◌≡◌, length, map, take}
use Rattle.admin_pages.specs.Figures.{tenant_of}
use Rattle.tenant_registry.specs.Roster.{entry_of}
use Rattle.service_admin.specs.Shown.{AreLooked}
use Rattle.service_admin.proofs.figures.figures_of.Given as goal

abbrev pub invariant-loop-tenant : goal.invariant-loop-tenant
invariant-loop-tenant g l = record {
  hub : l.context.hub ≡ l.fn.context.hub;
  looked : AreLooked (length l.fn.context.hub.now) l.fn.context.caller (map entry_of (take l.tenant-index l.tenants))
      (map tenant_of l.figures.items) l.context.caller;
}
