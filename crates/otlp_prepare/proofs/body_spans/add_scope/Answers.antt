use Rattle.std.proofs.Common.{◌≡◌, ◌<◌, length, refl, arith}
use Rattle.std.proofs.lemmas.Bool.Decides.{nat_tests}
use Rattle.span_pool.specs.Stored.{Origin, bytes_of}
use Rattle.otlp_parts.specs.Parts.{spans_in}
use Rattle.otlp_prepare.proofs.Adding.{added, none_added}
use Rattle.otlp_prepare.proofs.Grouped.{group_pushed}
use Rattle.otlp_prepare.proofs.body_spans.add_scope.Goals as goal

pub returns-then-is_empty-clause-adds : goal.returns-then-is_empty-clause-adds
returns-then-is_empty-clause-adds c = λ policies resource found.
    let outer = c.args.outer.now in
    let around : Origin = record { resource = outer.resource; resource_schema_url = bytes_of outer.schema_url; scope = c.args.scope.scope; scope_schema_url = bytes_of c.args.scope.schema_url } in
    let none : length (spans_in c.args.scope.spans) ≡ 0 = grind (arith, nat_tests, c.is_empty.ensures, c.if-is_empty.true) in
    none_added policies c.args.found.now.origins.items around (spans_in c.args.scope.spans) c.args.found.now.parts.items none found

pub returns-then-is_empty-clause-grouped : goal.returns-then-is_empty-clause-grouped
returns-then-is_empty-clause-grouped c = λ group. group

pub returns-clause-adds : goal.returns-clause-adds
returns-clause-adds c = λ policies resource found.
    let outer = c.args.outer.now in
    let around : Origin = record { resource = outer.resource; resource_schema_url = bytes_of outer.schema_url; scope = c.args.scope.scope; scope_schema_url = bytes_of c.args.scope.schema_url } in
    let origins = c.args.found.now.origins in
    let index : c.len-index.result ≡ length origins.items = omega (arith, c.len-index.ensures, origins.ok.0) in
    let some : 0 < length (spans_in c.args.scope.spans) = grind (arith, nat_tests, c.is_empty.ensures, c.if-is_empty.false) in
    added c.read_spans_are_viewed.ensures.facts policies origins.items c.push.new.self.items c.in_ok-origin.origin around outer.bits c.len-index.result c.in_ok-origin.ensures.texts resource (spans_in c.args.scope.spans) c.requires.read c.in_ok-add_spans.ensures.short some c.args.found.now.parts.items c.add_spans.new.parts.items found c.in_ok-push.ensures.items index c.in_ok-add_spans.ensures.parts

pub returns-clause-grouped : goal.returns-clause-grouped
returns-clause-grouped c =
    let outer = c.args.outer.now in
    let around : Origin = record { resource = outer.resource; resource_schema_url = bytes_of outer.schema_url; scope = c.args.scope.scope; scope_schema_url = bytes_of c.args.scope.schema_url } in
    group_pushed c.args.found.now.origins.items c.push.new.self.items c.in_ok-origin.origin around outer.first outer.resource outer.schema_url
    c.in_ok-push.ensures.items c.in_ok-origin.ensures.texts c.in_ok-origin.ensures.first refl refl
