use Rattle.std.proofs.Common.{length, map, subst, ◌∙◌}
use Rattle.std.proofs.lemmas.List.{take_all}
use Rattle.service_control.specs.Commands.{AreEmptyOn}
use Rattle.service_control.proofs.Present.{number, empty_more}
use Rattle.service_control.proofs.control.Control.first_held.Goals as goal

pub loop-tenant-preserved : goal.loop-tenant-preserved
loop-tenant-preserved g c =
    let before = c.loop-tenant.invariant in
    let empty = c.is_empty.ensures in
    record {
      caller = empty.same ∙ before.caller;
      hub = empty.hub ∙ before.hub;
      last = before.last;
      changes = before.changes;
      empty = empty_more _ _ c.args.tenants.now c.loop-tenant.tenant-index c.tenant-item.result c.loop-tenant-test.true c.tenant-item.is before.empty
          (rw (c.if-not-is_empty.false, before.caller, before.hub) at empty.empty);
    }

pub returns-clause-none : goal.returns-clause-none
returns-clause-none g c =
    subst (λ ts. AreEmptyOn c.args.self.now.context.caller (length c.args.self.now.context.hub.now) (map number ts))
    (take_all c.loop-tenant.tenant-index c.args.tenants.now c.loop-tenant-test.false) c.loop-tenant.invariant.empty
