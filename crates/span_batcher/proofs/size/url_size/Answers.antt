use Rattle.std.proofs.Common.{sym, ap, ◌∙◌, arith}
use Rattle.span_batcher.specs.Blocks.{capped}
use Rattle.span_batcher.proofs.Sizes.{url_some}
use Rattle.span_batcher.proofs.size.url_size.Goals as goal

pub returns : goal.returns
returns c = c.field_size.ensures ∙ ap capped (sym (url_some c.args.url.now (omega arith)))
