use Rattle.std.proofs.Common.{◌∙◌, ap}
use Rattle.http_edge.specs.declared.message.MediaType.TheVariants.{Json}
use Rattle.service_runtime.specs.Notice.{reply_of}
use Rattle.service_runtime.proofs.notices.notice.Goals as goal

pub returns : goal.returns
returns c = c.shown.ensures ∙ ap (reply_of c.args.status Json) c.in_ok-body.ensures
