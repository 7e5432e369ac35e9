use Rattle.std.proofs.Common.{◌∙◌, ◌++◌, ap}
use Rattle.admin_pages.specs.Service.{service_text}
use Rattle.http_edge.specs.declared.message.MediaType.TheVariants.{Metrics}
use Rattle.service_runtime.specs.Notice.{reply_of}
use Rattle.service_front.proofs.pages.metrics_reply.Goals as goal

pub returns : goal.returns
returns c =
    let text = rw c.new-text.ensures.items at c.in_ok-put_tenant_metrics.ensures in
    c.shown.ensures ∙ ap (reply_of 200 Metrics) (c.in_ok-put_service.ensures ∙ ap (λ t. t ++ service_text c.args.service.now) text)
