use Rattle.std.proofs.Common.{◌∙◌, sym, rules, tests}
use Rattle.std.proofs.lemmas.Iterator.{YieldsList-from_slice}
use Rattle.std.proofs.lemmas.Iterator.Search.{any_from_yields_List}
use Rattle.tail_settings.specs.Policy.{leaf_view}
use Rattle.tail_policy.specs.Asks.{leaf_asks}
use Rattle.tail_policy.proofs.Lists.{list_any-map}
use Rattle.tail_policy.proofs.asks.policy_asks.Goals as goal

pub returns-in-And : goal.returns-in-And
returns-in-And c =
    let leaves = c.in-And.leaves.items in
    rw c.in-And.is
    (any_from_yields_List (λ leaf. leaf_asks (leaf_view leaf)) _ _ _ c.any.ensures.ran (YieldsList-from_slice leaves (cc)) (λ x b q k. search (rules, tests))
    ∙ sym (list_any-map leaf_asks leaf_view leaves))
