use Rattle.std.proofs.Common.{◌≡◌, ◌∷◌, List, map, length, ap, subst, ◌∙◌, arith}
use Rattle.std.specs.List.{AllByRecursion}
use Rattle.std.specs.Vec.Iter.{into_iter_items}
use Rattle.otlp_parts.specs.Parts.{resource_parts_view}
use Rattle.otlp_parts.specs.Texts.{ResourceTexts}
use Rattle.otlp_prepare.specs.BodySpans.{IsGroupRead}
use Rattle.otlp_prepare.proofs.Gathered.{nothing_yet, group_added, all_added}
use Rattle.otlp_prepare.proofs.body_spans.add_resources.Goals as goal

pub loop-group-init : goal.loop-group-init
loop-group-init c =
    let whole = c.into_iter-group-iterator.ensures.into_iter_gives in
    record {
      adding = nothing_yet _ _ _ _ _ (ap (map resource_parts_view) whole.0) c.requires.found c.requires.read;
      grouped = λ was. was;
      len = omega (arith, ap length whole.0, whole.1, c.args.groups.ok.0);
    }

pub loop-group-preserved : goal.loop-group-preserved
loop-group-preserved c =
    let at = c.loop-group in
    let steps : into_iter_items at.group-iterator ≡ c.in-Some.group ∷ into_iter_items c.next.new.self = c.in-Some.ensures.steps.0 in
    let next : map resource_parts_view (into_iter_items at.group-iterator) ≡ resource_parts_view c.in-Some.group ∷ map resource_parts_view (into_iter_items c.next.new.self) = ap (map resource_parts_view) steps in
    record {
      adding = group_added _ _ _ _ _ _ _ _ _ _ _ next at.invariant.adding c.in_ok-add_resource.ensures.adds;
      grouped = λ was. c.in_ok-add_resource.ensures.grouped (at.invariant.grouped was);
      len =
          let was = at.invariant.len in
          let gone = c.in-Some.ensures.steps.1 in
          let short = ap length steps in
          omega arith;
    }

pub add_resource-requires-clause-found : goal.add_resource-requires-clause-found
add_resource-requires-clause-found c = c.loop-group.invariant.adding.found

pub add_resource-requires-clause-read : goal.add_resource-requires-clause-read
add_resource-requires-clause-read c =
    let steps : into_iter_items c.loop-group.group-iterator ≡ c.in-Some.group ∷ into_iter_items c.next.new.self = c.in-Some.ensures.steps.0 in
    let next : map resource_parts_view (into_iter_items c.loop-group.group-iterator) ≡ resource_parts_view c.in-Some.group ∷ map resource_parts_view (into_iter_items c.next.new.self) = ap (map resource_parts_view) steps in
    (subst (λ (xs : List ResourceTexts). AllByRecursion IsGroupRead xs) next c.loop-group.invariant.adding.read).0

pub returns-clause-adds : goal.returns-clause-adds
returns-clause-adds c =
    let none = c.in-None.ensures.steps in
    all_added resource_parts_view _ _ _ _ _ _ _ (c.loop-group.invariant.len ∙ none.0) c.loop-group.invariant.adding

pub returns-clause-grouped : goal.returns-clause-grouped
returns-clause-grouped c = c.loop-group.invariant.grouped
