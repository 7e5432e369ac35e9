use Rattle.std.proofs.Common.{◌≡◌, sym, subst, ℕ, List, Bool}
use Rattle.decision_cache.specs.Caches.{both, with_hits, CachesInvariant}
use Rattle.decision_cache.proofs.Hits.{are_in_take}
use Rattle.decision_cache.proofs.caches.DecisionCaches.undo_hits.Goals as goal

pub invariant_of-self : goal.invariant_of-self
invariant_of-self c =
    let kept = both c.self.inside.sampled c.self.inside.other in
    let left = subst (λ (hits : List (List ℕ × Bool)). c.shrink_to.new.self.items ≡ hits) c.truncate.ensures.items c.shrink_to.ensures.items in
    subst (λ (hits : List (List ℕ × Bool)). CachesInvariant (with_hits c.self.inside.sampled c.self.inside.other hits)) (sym left) (record {
      within = c.self.invariant.within;
      hits = are_in_take c.args.count c.self.inside.hits.items kept c.self.invariant.hits;
    })
