use Rattle.otlp_parts.specs.Parts.{body_parts_view}
use Rattle.otlp_parts.proofs.Answer.{parts_value, parts_only, parts_fault}
use Rattle.otlp_parts.proofs.body.read_parts.Goals as goal

pub returns : goal.returns
returns c = record {
  value = parts_value body_parts_view c.args.body.now c.body_parts.result c.body_parts.ensures.short c.body_parts.ensures.exact;
  only = λ v is. parts_only body_parts_view c.args.body.now v c.body_parts.result c.body_parts.ensures.short is c.body_parts.ensures.exact;
  fault = parts_fault body_parts_view c.args.body.now c.body_parts.result c.body_parts.ensures.exact;
  sliced = c.body_parts.ensures.sliced;
  pinned = c.body_parts.ensures.pinned;
}
