use Rattle.std.proofs.Common.{length, map, refl, subst, ◌∙◌}
use Rattle.std.proofs.lemmas.List.{take_all}
use Rattle.tenant_registry.specs.Roster.{entry_of}
use Rattle.service_control.specs.Commands.{AreReported, no_report}
use Rattle.service_control.proofs.Present.{reported_more}
use Rattle.service_control.proofs.control.Control.print_reports.Goals as goal

pub loop-tenant-init : goal.loop-tenant-init
loop-tenant-init g c = record { hub = refl; changes = refl; told = no_report }

pub loop-tenant-preserved : goal.loop-tenant-preserved
loop-tenant-preserved g c =
    let before = c.loop-tenant.invariant in
    let told = c.print_report.ensures in
    record {
      hub = told.hub ∙ before.hub;
      changes = told.changes ∙ before.changes;
      told = reported_more _ _ _ _ c.args.tenants.now c.loop-tenant.tenant-index c.tenant-item.result _ _ _ _ _ _ c.loop-tenant-test.true
          c.tenant-item.is before.told (rw before.hub at told.reported);
    }

pub returns-clause-reported : goal.returns-clause-reported
returns-clause-reported g c =
    subst (λ ts. AreReported (length c.args.self.now.context.hub.now) c.args.self.now.context.caller c.args.self.now.beat.last
    (g.O.Write.contents c.args.output.now, c.args.lost.now) (map entry_of ts) c.loop-tenant.self.context.caller c.loop-tenant.self.beat.last
    (g.O.Write.contents c.loop-tenant.output, c.loop-tenant.lost))
    (take_all c.loop-tenant.tenant-index c.args.tenants.now c.loop-tenant-test.false) c.loop-tenant.invariant.told
