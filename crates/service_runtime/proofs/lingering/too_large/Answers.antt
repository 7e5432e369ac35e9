use Rattle.std.proofs.Common.{refl}
use Rattle.std.specs.Fmt.{digits}
use Rattle.http_edge.specs.Reply.{head_text_of, reply_text}
use Rattle.service_runtime.proofs.lingering.too_large.Goals as goal

pub returns : goal.returns
unfolding head_text_of reply_text digits
returns c = refl
