use Rattle.std.proofs.Common.{◌∙◌, List, map, length, ap, sym}
use Rattle.otlp_parts.specs.Parts.{resource_parts_view, scope_parts_view, scopes_in}
use Rattle.span_pool.specs.Stored.{bytes_of}
use Rattle.prepared_body.specs.Origin.{OriginTexts}
use Rattle.otlp_prepare.proofs.Adding.{all_around, one_around}
use Rattle.otlp_prepare.proofs.Grouped.{group_added}
use Rattle.otlp_prepare.proofs.body_spans.add_resource.Goals as goal

pub returns-in-One-clause-adds : goal.returns-in-One-clause-adds
returns-in-One-clause-adds c =
    let outer = c.in_ok-outer.outer in
    let same = c.in_ok-outer.ensures in
    let found = c.args.found.now in
    let new = c.add_scope.new.found in
    one_around c.args.policies.now (resource_parts_view c.args.group) outer.resource outer.schema_url c.in_ok-bits.bits outer.bits (scope_parts_view c.in-One.scope) found.origins.items new.origins.items found.parts.items new.parts.items
    same.0 (ap bytes_of same.1) same.2 (ap scopes_in (sym c.in-One.is)) c.in_ok-bits.ensures c.requires.found c.add_scope.result c.add_scope.ensures.adds

pub returns-clause-adds : goal.returns-clause-adds
returns-clause-adds c =
    let outer = c.in_ok-outer.outer in
    let same = c.in_ok-outer.ensures in
    let found = c.args.found.now in
    let new = c.add_scopes.new.found in
    all_around c.args.policies.now (resource_parts_view c.args.group) outer.resource outer.schema_url c.in_ok-bits.bits outer.bits (map scope_parts_view c.in-More.scopes.items) found.origins.items new.origins.items found.parts.items new.parts.items
    same.0 (ap bytes_of same.1) same.2 (ap scopes_in (sym c.in-More.is)) c.in_ok-bits.ensures c.requires.found c.add_scopes.result c.add_scopes.ensures.adds

pub returns-in-One-clause-grouped : goal.returns-in-One-clause-grouped
returns-in-One-clause-grouped c =
    let outer = c.in_ok-outer.outer in
    group_added outer.first c.in_ok-first.first outer.resource outer.schema_url c.args.found.now.origins.items c.add_scope.new.found.origins.items c.add_scope.result
    c.in_ok-outer.ensures.3 (c.in_ok-first.ensures ∙ ap (λ (os : List OriginTexts). length os) c.as_slice.ensures.value) c.add_scope.ensures.grouped

pub returns-clause-grouped : goal.returns-clause-grouped
returns-clause-grouped c =
    let outer = c.in_ok-outer.outer in
    group_added outer.first c.in_ok-first.first outer.resource outer.schema_url c.args.found.now.origins.items c.add_scopes.new.found.origins.items c.add_scopes.result
    c.in_ok-outer.ensures.3 (c.in_ok-first.ensures ∙ ap (λ (os : List OriginTexts). length os) c.as_slice.ensures.value) c.add_scopes.ensures.grouped
