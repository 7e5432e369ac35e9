use Rattle.tenant_registry.proofs.Answered.{on_err}
use Rattle.service_context.specs.Looks.{nothing}
use Rattle.service_admin.proofs.Shown.{figures_found}
use Rattle.service_admin.proofs.figures.figures.Goals as goal

pub returns-in_err-tenants-clause-looks : goal.returns-in_err-tenants-clause-looks
returns-in_err-tenants-clause-looks g c = on_err c.from_residual.result _ nothing

pub returns-clause-looked : goal.returns-clause-looked
returns-clause-looked g c =
    let found = c.in_ok-tenants.ensures in
    figures_found _ _ _ _ found.0 c.in_ok-tenants.tenants.items c.figures_of.result found.1 found.2
    (rw c.as_slice.ensures.value at c.figures_of.ensures.looked)
