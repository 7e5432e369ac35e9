use Rattle.std.proofs.Common.{◌∙◌, sym, rules, tests}
use Rattle.std.proofs.lemmas.Iterator.{YieldsList-from_slice}
use Rattle.std.proofs.lemmas.Iterator.Search.{any_from_yields_List}
use Rattle.tail_settings.specs.Policy.{policy_view}
use Rattle.tail_policy.specs.Meaning.{policy_samples, keeps}
use Rattle.tail_policy.proofs.Lists.{list_any-map}
use Rattle.tail_policy.proofs.keeps.Goals as goal

pub returns : goal.returns
unfolding keeps
returns c =
    let policies = c.args.policies.now in
    let spans = c.args.spans.now in
    any_from_yields_List (λ policy. policy_samples (policy_view policy) spans) _ _ _ c.any.ensures.ran (YieldsList-from_slice policies (cc)) (λ x b q k. search (rules, tests))
    ∙ sym (list_any-map (λ policy. policy_samples policy spans) policy_view policies)
