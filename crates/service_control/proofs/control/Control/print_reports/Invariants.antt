use Rattle.std.proofs.Common.{◌≡◌, length, map, take}
use Rattle.tenant_registry.specs.Roster.{entry_of}
use Rattle.service_control.specs.Commands.{AreReported}
use Rattle.service_control.proofs.control.Control.print_reports.Given as goal

abbrev pub invariant-loop-tenant : goal.invariant-loop-tenant
invariant-loop-tenant g l = record {
  hub : l.self.context.hub ≡ l.fn.self.context.hub;
  changes : l.self.registrar ≡ l.fn.self.registrar;
  told : AreReported (length l.fn.self.context.hub.now) l.fn.self.context.caller l.fn.self.beat.last (g.O.Write.contents l.fn.output, l.fn.lost)
      (map entry_of (take l.tenant-index l.tenants)) l.self.context.caller l.self.beat.last (g.O.Write.contents l.output, l.lost);
}
