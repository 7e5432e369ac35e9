use Rattle.std.proofs.Common.{◌≡◌, length, map, take}
use Rattle.service_control.specs.Commands.{AreDrained}
use Rattle.service_control.proofs.Present.{number}
use Rattle.service_control.proofs.control.Control.drain_all.Given as goal

abbrev pub invariant-loop-tenant : goal.invariant-loop-tenant
invariant-loop-tenant g l = record {
  hub : l.self.context.hub ≡ l.fn.self.context.hub;
  changes : l.self.registrar ≡ l.fn.self.registrar;
  drained : AreDrained (length l.fn.self.context.hub.now) l.fn.self.context.caller l.fn.self.beat.last (map number (take l.tenant-index l.tenants)) l.self.context.caller l.self.beat.last;
}
