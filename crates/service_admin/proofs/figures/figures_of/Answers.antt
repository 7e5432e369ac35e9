use Rattle.std.proofs.Common.{length, map, refl, subst, ◌∙◌}
use Rattle.std.proofs.lemmas.List.{take_all}
use Rattle.admin_pages.specs.Figures.{tenant_of}
use Rattle.tenant_registry.specs.Roster.{entry_of}
use Rattle.tenant_registry.proofs.Answered.{on_err}
use Rattle.service_admin.specs.Shown.{AreLooked, no_look}
use Rattle.service_admin.proofs.Shown.{all_looked, looked_more, looks_then}
use Rattle.service_admin.proofs.figures.figures_of.Goals as goal

pub loop-tenant-init : goal.loop-tenant-init
loop-tenant-init g c = record { hub = refl; looked = rw c.new-figures.ensures.items no_look }

pub loop-tenant-preserved : goal.loop-tenant-preserved
loop-tenant-preserved g c =
    let before = c.loop-tenant.invariant in
    let told = c.in_ok-add_figures.ensures.looked in
    record {
      hub = c.add_figures.ensures.hub ∙ before.hub;
      looked = looked_more _ _ c.args.tenants.now c.loop-tenant.tenant-index c.tenant-item.result _ _ _ told.0 told.1 told.2 _
          c.loop-tenant-test.true c.tenant-item.is before.looked (rw before.hub at told.3) (rw before.hub at told.4) told.5 told.6;
    }

pub returns-in_err-add_figures-clause-looks : goal.returns-in_err-add_figures-clause-looks
returns-in_err-add_figures-clause-looks g c =
    let before = c.loop-tenant.invariant in
    on_err c.from_residual.result _
    (looks_then _ _ _ (all_looked _ _ before.looked) (rw before.hub at c.in_err-add_figures.ensures.looks))

pub returns-clause-looked : goal.returns-clause-looked
returns-clause-looked g c =
    subst (λ ts. AreLooked (length c.args.context.now.hub.now) c.args.context.now.caller (map entry_of ts)
    (map tenant_of c.loop-tenant.figures.items) c.loop-tenant.context.caller)
    (take_all c.loop-tenant.tenant-index c.args.tenants.now c.loop-tenant-test.false) c.loop-tenant.invariant.looked
