use Rattle.std.proofs.Common.{◌≡◌, length, map, take}
use Rattle.service_control.specs.Commands.{AreEmptyOn}
use Rattle.service_control.proofs.Present.{number}
use Rattle.service_control.proofs.control.Control.first_held.Given as goal

abbrev pub invariant-loop-tenant : goal.invariant-loop-tenant
invariant-loop-tenant g l = record {
  caller : l.self.context.caller ≡ l.fn.self.context.caller;
  hub : l.self.context.hub ≡ l.fn.self.context.hub;
  last : l.self.beat.last ≡ l.fn.self.beat.last;
  changes : l.self.registrar ≡ l.fn.self.registrar;
  empty : AreEmptyOn l.fn.self.context.caller (length l.fn.self.context.hub.now) (map number (take l.tenant-index l.tenants));
}
