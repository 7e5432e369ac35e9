use Rattle.std.proofs.Common.{sym, subst, ap, ◌∙◌, ◌∷◌, [], length, arith}
use Rattle.span_view.specs.Facts.{AreText}
use Rattle.span_view.specs.Fields.{attribute, told, told_of, attributes_told}
use Rattle.span_view.specs.Reading.{fields_of, attribute_in, attributes_in}
use Rattle.span_view.proofs.FieldsTold.{text_before, text_left, resource_told, none_told, nothing_told}
use Rattle.span_view.proofs.walk.SpanFieldsIterator.next.Goals as goal

pub next_told-requires : goal.next_told-requires
next_told-requires c = record {
  text = text_before (told (fields_of c.self.inside.span.now)) (attributes_in 1 c.self.inside.resource.now) c.self.invariant;
}

pub invariant_of-self-in-Some-next_attribute : goal.invariant_of-self-in-Some-next_attribute
invariant_of-self-in-Some-next_attribute c =
    let span = c.self.inside.span.now in
    let resource = c.self.inside.resource.now in
    let a = attribute_in c.in-Some-next_attribute.text.now in
    let rest = c.in-Some-next_attribute.rest.now in
    let next = resource_told span resource rest a c.in_default.ensures c.in-Some-next_attribute.ensures.attributes in
    text_left span resource rest a next c.self.invariant

pub returns-in-Some-next_attribute-clause-steps : goal.returns-in-Some-next_attribute-clause-steps
returns-in-Some-next_attribute-clause-steps c =
    let rest = c.in-Some-next_attribute.rest.now in
    sym c.self.view_is
    ∙ resource_told c.self.inside.span.now c.self.inside.resource.now rest (attribute_in c.in-Some-next_attribute.text.now) c.in_default.ensures c.in-Some-next_attribute.ensures.attributes
    ∙ ap (λ a. attribute a ∷ told_of [] rest) (sym c.of.ensures)

pub returns-in-Some-next_attribute-clause-goes : goal.returns-in-Some-next_attribute-clause-goes
returns-in-Some-next_attribute-clause-goes c =
    let next = sym c.self.view_is
    ∙ resource_told c.self.inside.span.now c.self.inside.resource.now c.in-Some-next_attribute.rest.now (attribute_in c.in-Some-next_attribute.text.now) c.in_default.ensures c.in-Some-next_attribute.ensures.attributes in
    record { on = λ _. (tt, tt, omega (arith, ap length next)); keeps = tt; rests = λ _. tt }

pub invariant_of-self-2 : goal.invariant_of-self-2
invariant_of-self-2 c = subst (λ fs. AreText (attributes_told fs)) (sym nothing_told) tt

pub returns-clause-steps : goal.returns-clause-steps
returns-clause-steps c = (
  sym c.self.view_is ∙ none_told c.self.inside.span.now c.self.inside.resource.now c.in_default.ensures c.in_default-next_attribute.ensures.attributes,
  nothing_told,
)
