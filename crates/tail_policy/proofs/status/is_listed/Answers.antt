use Rattle.std.proofs.Common.{◌∙◌, sym, rules, tests}
use Rattle.std.proofs.lemmas.Iterator.{YieldsList-from_slice}
use Rattle.std.proofs.lemmas.Iterator.Search.{any_from_yields_List}
use Rattle.std.specs.Ordering.{int_eq}
use Rattle.tail_settings.specs.Policy.{status_view}
use Rattle.tail_policy.specs.Meaning.{number_of}
use Rattle.tail_policy.proofs.Lists.{list_any-map}
use Rattle.tail_policy.proofs.status.is_listed.Goals as goal

pub returns : goal.returns
returns c =
    let codes = c.args.codes.now in
    let status = c.args.status in
    any_from_yields_List (λ code. int_eq status (number_of (status_view code))) _ _ _ c.any.ensures.ran (YieldsList-from_slice codes (cc)) (λ x b q k. search (rules, tests))
    ∙ sym (list_any-map (λ code. int_eq status (number_of code)) status_view codes)
