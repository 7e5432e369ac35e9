use Rattle.std.proofs.Common.{length, map, refl, subst, ◌∙◌}
use Rattle.std.proofs.lemmas.List.{take_all}
use Rattle.service_control.specs.Commands.{AreDrained, no_drain}
use Rattle.service_control.proofs.Present.{number, drained_more}
use Rattle.service_control.proofs.control.Control.drain_all.Goals as goal

pub loop-tenant-init : goal.loop-tenant-init
loop-tenant-init g c = record { hub = refl; changes = refl; drained = no_drain }

pub loop-tenant-preserved : goal.loop-tenant-preserved
loop-tenant-preserved g c =
    let before = c.loop-tenant.invariant in
    let made = c.make.ensures in
    record {
      hub = made.hub ∙ before.hub;
      changes = made.changes ∙ before.changes;
      drained = drained_more _ _ _ c.args.tenants.now c.loop-tenant.tenant-index c.tenant-item.result _ _ c.make.result _ _ c.loop-tenant-test.true
          c.tenant-item.is before.drained (rw before.hub at made.made);
    }

pub returns-clause-drained : goal.returns-clause-drained
returns-clause-drained g c =
    subst (λ ts. AreDrained (length c.args.self.now.context.hub.now) c.args.self.now.context.caller c.args.self.now.beat.last (map number ts) c.loop-tenant.self.context.caller c.loop-tenant.self.beat.last)
    (take_all c.loop-tenant.tenant-index c.args.tenants.now c.loop-tenant-test.false) c.loop-tenant.invariant.drained
