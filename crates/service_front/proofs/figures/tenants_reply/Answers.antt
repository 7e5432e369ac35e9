use Rattle.std.proofs.Common.{◌∙◌, ap}
use Rattle.http_edge.specs.declared.message.MediaType.TheVariants.{Json}
use Rattle.service_runtime.specs.Notice.{reply_of}
use Rattle.service_front.proofs.figures.tenants_reply.Goals as goal

pub returns : goal.returns
returns c = c.shown.ensures ∙ ap (reply_of 200 Json) (rw c.new-text.ensures.items at c.in_ok-put_tenants.ensures)
