use Rattle.std.proofs.Common.{◌≡◌, ◌∷◌, List, map, length, sym, ap, subst, ◌∙◌, arith}
use Rattle.std.specs.List.{AllByRecursion}
use Rattle.std.specs.Vec.Iter.{into_iter_items}
use Rattle.otlp_parts.specs.Parts.{scope_parts_view}
use Rattle.otlp_parts.specs.Texts.{ScopeTexts}
use Rattle.otlp_prepare.specs.BodySpans.{IsScopeRead}
use Rattle.otlp_prepare.proofs.Adding.{none_yet, one_more, all_now}
use Rattle.otlp_prepare.proofs.body_spans.add_scopes.Goals as goal

pub loop-scope-init : goal.loop-scope-init
loop-scope-init c =
    let whole = c.into_iter-scope-iterator.ensures.into_iter_gives in
    record {
      adding = λ policies around found. none_yet policies _ _ _ _ (ap (map scope_parts_view) whole.0) found;
      grouped = λ group. group;
      read = subst (λ (xs : List ScopeTexts). AllByRecursion IsScopeRead xs) (sym (ap (map scope_parts_view) whole.0)) c.requires.read;
      len = omega (arith, ap length whole.0, whole.1, c.args.scopes.ok.0);
    }

pub loop-scope-preserved : goal.loop-scope-preserved
loop-scope-preserved c =
    let at = c.loop-scope in
    let steps : into_iter_items at.scope-iterator ≡ c.in-Some.scope ∷ into_iter_items c.next.new.self = c.in-Some.ensures.steps.0 in
    let next : map scope_parts_view (into_iter_items at.scope-iterator) ≡ scope_parts_view c.in-Some.scope ∷ map scope_parts_view (into_iter_items c.next.new.self) = ap (map scope_parts_view) steps in
    record {
      adding = λ policies around found.
          let before = at.invariant.adding policies around found in
          one_more policies _ _ _ _ _ _ _ _ _ _ next before (c.in_ok-add_scope.ensures.adds policies around before.found);
      grouped = λ group. c.in_ok-add_scope.ensures.grouped (at.invariant.grouped group);
      read = (subst (λ (xs : List ScopeTexts). AllByRecursion IsScopeRead xs) next at.invariant.read).1;
      len =
          let was = at.invariant.len in
          let gone = c.in-Some.ensures.steps.1 in
          let short = ap length steps in
          omega arith;
    }

pub returns-clause-adds : goal.returns-clause-adds
returns-clause-adds c = λ policies around found.
    let none = c.in-None.ensures.steps in
    all_now scope_parts_view policies _ _ _ _ _ _ (c.loop-scope.invariant.len ∙ none.0) (c.loop-scope.invariant.adding policies around found)

pub returns-clause-grouped : goal.returns-clause-grouped
returns-clause-grouped c = c.loop-scope.invariant.grouped
