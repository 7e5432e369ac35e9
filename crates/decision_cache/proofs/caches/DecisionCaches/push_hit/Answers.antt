use Rattle.std.proofs.Common.{◌≡◌, sym, ap, ◌∙◌, subst, ℕ, List, Bool, Some}
use Rattle.decision_cache.specs.Caches.{CachesData, both, with_hits, all_noted, shown, found, CachesInvariant}
use Rattle.decision_cache.proofs.Hits.{one_more, noted_more}
use Rattle.decision_cache.proofs.caches.DecisionCaches.push_hit.Goals as goal

pub invariant_of-self-2 : goal.invariant_of-self-2
invariant_of-self-2 c =
    let kept = with_hits c.self.inside.sampled c.self.inside.other c.self.inside.hits.items in
    let there = subst (λ (d : CachesData). found c.args.id (shown d) ≡ Some c.args.sampled) (sym c.self.view_is) c.requires.there in
    subst (λ (hits : List (List ℕ × Bool)). CachesInvariant (with_hits c.self.inside.sampled c.self.inside.other hits)) (sym c.in_ok-push.ensures.items) (one_more kept c.args.id c.args.sampled c.self.invariant there)

pub returns-clause-shown : goal.returns-clause-shown
returns-clause-shown c =
    let kept = both c.self.inside.sampled c.self.inside.other in
    rw (← c.self.view_is) (ap (λ (hits : List (List ℕ × Bool)). all_noted hits kept) c.in_ok-push.ensures.items ∙ noted_more c.self.inside.hits.items (c.args.id, c.args.sampled) kept)
