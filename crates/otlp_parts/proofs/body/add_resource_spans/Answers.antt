use Rattle.std.proofs.Common.{rules, arith, ◌≡◌, ◌<◌, ◌+◌, ◌++◌, ◌∷◌, [], Ok, length, slice_range}
use Rattle.std.proofs.lemmas.Bool.Decides.{nat_tests}
use Rattle.otlp_parts.specs.declared.held.ResourceReading.{ResourceReading}
use Rattle.otlp_parts.specs.Kept.{counted, kept_resource_in, kept_resource_texts}
use Rattle.otlp_parts.specs.Parts.{body_parts_view, resource_parts_view, resource_reading_view}
use Rattle.otlp_parts.proofs.WithSpans.{reading_onto}
use Rattle.otlp_parts.proofs.body.add_resource_spans.Goals as goal

pub returns-clause-exact : goal.returns-clause-exact
returns-clause-exact c =
    let before = body_parts_view c.args.body.now in
    let after = body_parts_view c.add_parts.new.body in
    let bytes = slice_range c.args.text.now c.args.start c.args.end in
    let reading : ResourceReading = c.in_ok-resource.resource in
    let read : kept_resource_in bytes ≡ Ok (resource_reading_view reading) = search rules in
    let sound = reading.scopes.ok.0 in
    let test = c.is_empty.ensures in
    let filled = c.if-is_empty.false in
    let some : 0 < length reading.scopes.items = grind (arith, nat_tests, test, filled, sound) in
    let texts : kept_resource_texts (resource_reading_view reading) ≡ resource_parts_view c.in_ok-parts.parts = search rules in
    let is : after ≡ record { resources = before.resources ++ kept_resource_texts (resource_reading_view reading) ∷ []; invalid = counted (before.invalid + reading.invalid) } = search (rules, texts) in
    reading_onto before after bytes reading read some is
