use Rattle.std.proofs.Common.{List, sym, ap, ◌∙◌, map}
use Rattle.std.specs.Arc.{arc_slice_items}
use Rattle.tail_settings.specs.Policy.{policy_view}
use Rattle.tail_settings.specs.declared.policy.PolicySpec.{PolicySpec}
use Rattle.prepared_body.specs.Equal.{same_policies}
use Rattle.prepared_body.specs.Prepared.{PreparedData}
use Rattle.prepared_body.proofs.Equals.{after_equal}
use Rattle.prepared_body.proofs.prepared.Prepared.is_for_same.Goals as goal

pub returns-then-self-other : goal.returns-then-self-other
returns-then-self-other c =
    let theirs = map policy_view (arc_slice_items c.other.inside.policies) in
    let slice = ap (λ (ps : List PolicySpec). same_policies c.args.self.now.policies (map policy_view ps)) c.as_slice.ensures.value in
    let policies = c.has_policies.ensures ∙ (slice ∙ ap (λ (p : PreparedData). same_policies p.policies theirs) (sym c.self.view_is)) in
    rw (← c.self.view_is, ← c.other.view_is) (after_equal c.self.inside.tenant c.other.inside.tenant _ _ c.if-self-other.true policies)
