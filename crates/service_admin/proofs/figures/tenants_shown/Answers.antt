use Rattle.std.proofs.Common.{◌≡◌, length, map}
use Rattle.admin_pages.specs.Figures.{tenant_of}
use Rattle.admin_pages.specs.Json.{tenants_text}
use Rattle.http_edge.specs.declared.message.MediaType.TheVariants.{Json}
use Rattle.service_runtime.specs.Notice.{reply_of}
use Rattle.tenant_registry.proofs.Answered.{if_ok, on_err}
use Rattle.service_admin.specs.Shown.{ShowsTenants}
use Rattle.service_admin.proofs.Shown.{all_looked}
use Rattle.service_admin.proofs.figures.tenants_shown.Goals as goal

pub returns-clause-shown : goal.returns-clause-shown
returns-clause-shown g c =
    let figures = map tenant_of c.in_ok-figures.figures.items in
    if_ok c.tenants_reply.result (λ told. told ≡ reply_of 200 Json (tenants_text figures))
    (λ told. ShowsTenants g.J.SettingsNaming.first (length c.args.context.now.hub.now) c.args.context.now.caller c.figures.new.context.caller told)
    (λ told is. record { figures = figures; looked = c.in_ok-figures.ensures.looked; reply = is })
    (rw c.as_slice.ensures.value at c.tenants_reply.ensures)

pub returns-clause-looks : goal.returns-clause-looks
returns-clause-looks g c = on_err c.tenants_reply.result _ (all_looked _ _ c.in_ok-figures.ensures.looked.looked)
