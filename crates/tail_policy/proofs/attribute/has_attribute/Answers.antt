use Rattle.std.proofs.Common.{◌&&◌, rules, tests}
use Rattle.std.proofs.lemmas.Iterator.Consumers.{YieldsList-from_first}
use Rattle.std.proofs.lemmas.Iterator.Search.{any_from_yields_List}
use Rattle.std.specs.Str.{bytes_eq}
use Rattle.span_view.specs.Shown.{attribute_shown}
use Rattle.tail_policy.specs.AttributeTest.{is_wanted}
use Rattle.tail_policy.proofs.attribute.has_attribute.Goals as goal

pub returns : goal.returns
returns c =
    let is_such = is_wanted c.args.wanted in
    any_from_yields_List (λ attribute. bytes_eq attribute.key c.args.key.now && is_such attribute.value) _ _ _ c.any.ensures.ran
    (YieldsList-from_first attribute_shown (λ left. left) c.args.span.now.attributes c.attributes.ensures) (λ x b q k. search (rules, tests))
