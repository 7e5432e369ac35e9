use Rattle.std.proofs.Common.{sym, ◌∙◌}
use Rattle.decision_cache.specs.Caches.{with_hits}
use Rattle.decision_cache.proofs.Hits.{finds_sampled, finds_other, finds_none}
use Rattle.decision_cache.proofs.caches.DecisionCaches.find.Goals as goal

pub returns-then-contains : goal.returns-then-contains
returns-then-contains c =
    let kept = with_hits c.self.inside.sampled c.self.inside.other c.self.inside.hits.items in
    rw (← c.self.view_is) (finds_sampled kept c.args.id c.self.invariant (sym c.contains.ensures ∙ c.if-contains.true))

pub returns-then-contains-2 : goal.returns-then-contains-2
returns-then-contains-2 c =
    let kept = with_hits c.self.inside.sampled c.self.inside.other c.self.inside.hits.items in
    rw (← c.self.view_is) (finds_other kept c.args.id c.self.invariant (sym c.contains.ensures ∙ c.if-contains.false) (sym c.contains-2.ensures ∙ c.if-contains-2.true))

pub returns : goal.returns
returns c =
    let kept = with_hits c.self.inside.sampled c.self.inside.other c.self.inside.hits.items in
    rw (← c.self.view_is) (finds_none kept c.args.id c.self.invariant (sym c.contains.ensures ∙ c.if-contains.false) (sym c.contains-2.ensures ∙ c.if-contains-2.false))
