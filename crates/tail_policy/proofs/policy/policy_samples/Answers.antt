use Rattle.std.proofs.Common.{◌∙◌, sym, rules, tests}
use Rattle.std.proofs.lemmas.Iterator.{YieldsList-from_slice}
use Rattle.std.proofs.lemmas.Iterator.Search.{all_from_yields_List}
use Rattle.std.proofs.lemmas.List.Folds.{list_all-map}
use Rattle.tail_settings.specs.Policy.{leaf_view}
use Rattle.tail_policy.specs.Meaning.{leaf_samples}
use Rattle.tail_policy.proofs.policy.policy_samples.Goals as goal

pub returns-in-And : goal.returns-in-And
returns-in-And c =
    let leaves = c.in-And.leaves.items in
    let spans = c.args.spans.now in
    rw c.in-And.is
    (all_from_yields_List (λ leaf. leaf_samples (leaf_view leaf) spans) _ _ _ c.all.ensures.ran (YieldsList-from_slice leaves (cc)) (λ x b q k. search (rules, tests))
    ∙ sym (list_all-map (λ leaf. leaf_samples leaf spans) leaf_view leaves))
