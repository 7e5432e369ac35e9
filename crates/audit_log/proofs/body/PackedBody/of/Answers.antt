use Rattle.std.proofs.Common.{List, ap, ◌∙◌, map}
use Rattle.tail_settings.specs.Policy.{policy_view}
use Rattle.tail_settings.specs.declared.policy.PolicySpec.{PolicySpec}
use Rattle.audit_log.proofs.Whole.{same_body, all_arrive, all_ready}
use Rattle.audit_log.proofs.body.PackedBody.of.Goals as goal

pub invariant_of-result : goal.invariant_of-result
invariant_of-result c =
    let policies = ap (λ (ps : List PolicySpec). map policy_view ps) c.in_ok-policies.ensures.cases ∙ c.policies.ensures in
    all_ready c.parts.result.0.now c.in_ok-origins.origins.items c.parts.result.1.now c.in_ok-texts.texts c.in_ok-spans.spans.items c.in_ok-origins.ensures c.in_ok-texts.ensures c.in_ok-spans.ensures
    _ _ policies c.parts.ensures.ready c.parts.ensures.sparing c.parts.ensures.grouped

pub returns : goal.returns
returns c =
    let policies = ap (λ (ps : List PolicySpec). map policy_view ps) c.in_ok-policies.ensures.cases ∙ c.policies.ensures in
    let arrive = all_arrive c.parts.result.0.now c.in_ok-origins.origins.items c.parts.result.1.now c.in_ok-texts.texts c.in_ok-spans.spans.items c.in_ok-origins.ensures c.in_ok-texts.ensures c.in_ok-spans.ensures in
    same_body c.args.prepared.now _ _ _ _ c.tenant.ensures policies (arrive ∙ c.parts.ensures.arrivals) c.invalid.ensures
