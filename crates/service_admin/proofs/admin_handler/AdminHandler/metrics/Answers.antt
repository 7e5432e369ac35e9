use Rattle.std.proofs.Common.{◌≡◌, ◌∙◌, ◌++◌, length, map, sym}
use Rattle.std.proofs.lemmas.List.{length-map}
use Rattle.admin_pages.specs.Figures.{tenant_of}
use Rattle.admin_pages.specs.Metrics.{tenants_text}
use Rattle.admin_pages.specs.Service.{service_text}
use Rattle.http_edge.specs.declared.message.MediaType.TheVariants.{Metrics}
use Rattle.service_runtime.specs.Notice.{reply_of}
use Rattle.tenant_registry.proofs.Answered.{if_ok, on_err}
use Rattle.service_admin.specs.Shown.{ShowsMetrics}
use Rattle.service_front.specs.Pages.{admin_of}
use Rattle.service_admin.proofs.Shown.{all_looked, of_service}
use Rattle.service_admin.proofs.admin_handler.AdminHandler.metrics.Goals as goal

pub returns-clause-looks : goal.returns-clause-looks
returns-clause-looks g c =
    on_err c.metrics_reply.result _ (rw c.service_figures-service.ensures.caller (all_looked _ _ c.in_ok-figures.ensures.looked.looked))

pub returns-clause-shown : goal.returns-clause-shown
returns-clause-shown g c =
    let figures = map tenant_of c.in_ok-figures.figures.items in
    let service = c.service_figures-service.result in
    let admin = admin_of c.args.self.now.port c.args.self.now.limits c.args.self.now.lane_capacity in
    if_ok c.metrics_reply.result (λ told. told ≡ reply_of 200 Metrics (tenants_text figures ++ service_text service))
    (λ told. ShowsMetrics g.J.SettingsNaming.first (length c.args.self.now.context.now.hub.now) admin c.args.self.now.context.now.caller c.service_figures-service.new.self.context.now.caller told)
    (λ told is. record {
      figures = figures;
      looked = rw c.service_figures-service.ensures.caller c.in_ok-figures.ensures.looked;
      service = service;
      of_service = of_service _ _ _ service (c.len.ensures ∙ (c.in_ok-figures.figures.ok.0 ∙ sym (length-map c.in_ok-figures.figures.items tenant_of)))
          c.service_figures-service.ensures.of_service;
      reply = is;
    })
    (rw c.as_slice.ensures.value at c.metrics_reply.ensures)
