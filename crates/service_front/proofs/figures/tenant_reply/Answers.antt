use Rattle.std.proofs.Common.{◌∙◌, ap}
use Rattle.admin_pages.specs.Settings.{settled_text}
use Rattle.drop_ledger.specs.Ledger.{ledger_of}
use Rattle.http_edge.specs.declared.message.MediaType.TheVariants.{Json}
use Rattle.service_runtime.specs.Notice.{reply_of}
use Rattle.tail_settings.specs.Section.{section_view}
use Rattle.service_front.specs.Figures.{figures_with}
use Rattle.service_front.proofs.figures.tenant_reply.Goals as goal

pub returns : goal.returns
returns c =
    let text = rw (c.new-text.ensures.items, c.usage_shown.ensures) at c.in_ok-put_settled_tenant.ensures in
    c.shown.ensures ∙ ap (reply_of 200 Json) (text
    ∙ ap (λ n. settled_text (figures_with n (ledger_of c.args.counters) c.args.waiting.now c.args.answer) (section_view c.args.section.now))
    c.in_ok-from_str.ensures.ok)
