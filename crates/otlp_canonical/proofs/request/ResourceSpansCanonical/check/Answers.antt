use Rattle.std.proofs.Common.{rules, ◌≡◌, ◌-◌, suc, [], arith}
use Rattle.otlp_canonical.proofs.Messages.{resource_spans_whole}
use Rattle.otlp_canonical.proofs.Parts.{nothing}
use Rattle.otlp_canonical.proofs.request.ResourceSpansCanonical.check.Goals as goal

pub returns-then-is_empty : goal.returns-then-is_empty
returns-then-is_empty c =
    let is : c.args.room ≡ suc (c.args.room - 1) = omega arith in
    let none : c.in_ok-schema_url.schema_url.now ≡ [] = nothing _ (search rules) in
    resource_spans_whole c.args.room (c.args.room - 1) _ _ _ _ is c.in_ok-resource.ensures c.in_ok-scope_spans.ensures c.in_ok-schema_url.ensures none
