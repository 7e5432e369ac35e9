use Rattle.std.proofs.Common.{◌∙◌, sym, rules, tests}
use Rattle.std.proofs.lemmas.Iterator.{YieldsList-from_slice}
use Rattle.std.proofs.lemmas.Iterator.Search.{any_from_yields_List}
use Rattle.tail_settings.specs.Policy.{policy_view}
use Rattle.tail_policy.specs.Asks.{policy_asks}
use Rattle.tail_policy.proofs.Lists.{list_any-map}
use Rattle.tail_policy.proofs.asks.ask_attributes.Goals as goal

pub returns : goal.returns
returns c =
    let policies = c.args.policies.now in
    any_from_yields_List (λ policy. policy_asks (policy_view policy)) _ _ _ c.any.ensures.ran (YieldsList-from_slice policies (cc)) (λ x b q k. search (rules, tests))
    ∙ sym (list_any-map policy_asks policy_view policies)
