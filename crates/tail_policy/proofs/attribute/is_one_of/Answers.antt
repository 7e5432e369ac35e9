use Rattle.std.proofs.Common.{◌∙◌, sym, rules, tests, string_bytes}
use Rattle.std.proofs.lemmas.Iterator.{YieldsList-from_slice}
use Rattle.std.proofs.lemmas.Iterator.Search.{any_from_yields_List}
use Rattle.std.specs.Str.{bytes_eq}
use Rattle.tail_policy.proofs.Lists.{list_any-map}
use Rattle.tail_policy.proofs.attribute.is_one_of.Goals as goal

pub returns-in-String : goal.returns-in-String
returns-in-String c =
    let texts = c.args.texts.now in
    let text = c.in-String.text.now in
    rw c.in-String.is
    (any_from_yields_List (λ other. bytes_eq text (string_bytes other)) _ _ _ c.any.ensures.ran (YieldsList-from_slice texts (cc)) (λ x b q k. search (rules, tests))
    ∙ sym (list_any-map (bytes_eq text) string_bytes texts))
