use Rattle.std.proofs.Common.{◌≡◌, ◌++◌, ap, sym, subst, map}
use Rattle.span_view.specs.Facts.{AreText}
use Rattle.span_view.specs.Fields.{told_of, attribute, attributes_told}
use Rattle.span_view.specs.Reading.{attributes_in}
use Rattle.span_view.proofs.FieldsTold.{attributes_are}
use Rattle.span_view.proofs.walk.SpanFields.of.Goals as goal

pub invariant_of-result : goal.invariant_of-result
invariant_of-result c =
    let same : told_of c.args.span.now c.args.resource.now ≡ told_of c.past_front.result.now c.args.resource.now =
    ap (λ facts. facts ++ map attribute (attributes_in 1 c.args.resource.now)) c.past_front.ensures.told in
    subst (λ facts. AreText (attributes_told facts)) same
    (subst AreText (sym (attributes_are c.args.span.now c.args.resource.now)) c.requires.text)
