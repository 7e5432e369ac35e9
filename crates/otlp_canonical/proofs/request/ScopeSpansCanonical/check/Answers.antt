use Rattle.std.proofs.Common.{rules, ◌≡◌, ◌-◌, suc, [], arith}
use Rattle.otlp_canonical.proofs.Messages.{scope_spans_whole}
use Rattle.otlp_canonical.proofs.Parts.{nothing}
use Rattle.otlp_canonical.proofs.request.ScopeSpansCanonical.check.Goals as goal

pub returns-then-is_empty : goal.returns-then-is_empty
returns-then-is_empty c =
    let is : c.args.room ≡ suc (c.args.room - 1) = omega arith in
    let none : c.in_ok-schema_url.schema_url.now ≡ [] = nothing _ (search rules) in
    scope_spans_whole c.args.room (c.args.room - 1) _ _ _ _ is c.in_ok-scope.ensures c.in_ok-spans.ensures c.in_ok-schema_url.ensures none
