use Rattle.std.proofs.Common.{◌≡◌, ◌≤◌, ◌<◌, length, sym, ap, ◌∙◌, subst, true, ℕ, List, [], Option}
use Rattle.std.specs.Prelude.{⊤, MatchOption}
use Rattle.std.specs.Option.{option_map_or}
use Rattle.std.specs.Map.{keys_of}
use Rattle.lru.specs.LruCache.{LruCache}
use Rattle.decision_cache.specs.Recent.{has, noted}
use Rattle.decision_cache.specs.Ids.{IdsData, is_same, contains}
use Rattle.decision_cache.proofs.Same.{same_laws, same_decides}
use Rattle.decision_cache.proofs.Entries.{promoted_after}
use Rattle.decision_cache.proofs.recent.RecentIds.promote.Goals as goal

pub invariant_of-self-2 : goal.invariant_of-self-2
invariant_of-self-2 c =
    let size = c.self.inside.size in
    let kept = subst (λ (o : Option (LruCache (List ℕ) ⊤)). MatchOption o (size ≡ 0) (λ d. (length d.entries ≤ size) × (size < d.cap) × (0 < size))) c.in-Some.is c.self.invariant in
    let there = subst (λ (d : IdsData). contains c.args.id d ≡ true) (sym c.self.view_is) c.requires.there in
    let has_it = subst (λ (o : Option (LruCache (List ℕ) ⊤)). has is_same c.args.id (option_map_or (λ d. keys_of d.entries) o []) ≡ true) c.in-Some.is there in
    let after = promoted_after is_same same_laws same_decides c.in-Some.cache c.promote.new.self c.args.id size has_it kept.0 kept.1 c.promote.ensures.entries in
    (after.0, after.1, kept.2)

pub returns : goal.returns
returns c =
    let size = c.self.inside.size in
    let kept = subst (λ (o : Option (LruCache (List ℕ) ⊤)). MatchOption o (size ≡ 0) (λ d. (length d.entries ≤ size) × (size < d.cap) × (0 < size))) c.in-Some.is c.self.invariant in
    let there = subst (λ (d : IdsData). contains c.args.id d ≡ true) (sym c.self.view_is) c.requires.there in
    let has_it = subst (λ (o : Option (LruCache (List ℕ) ⊤)). has is_same c.args.id (option_map_or (λ d. keys_of d.entries) o []) ≡ true) c.in-Some.is there in
    let after = promoted_after is_same same_laws same_decides c.in-Some.cache c.promote.new.self c.args.id size has_it kept.0 kept.1 c.promote.ensures.entries in
    let had = ap (λ (o : Option (LruCache (List ℕ) ⊤)). noted is_same size c.args.id (option_map_or (λ d. keys_of d.entries) o [])) c.in-Some.is in
    rw (← c.self.view_is) (λ i. record { size = size; ids = (after.2 ∙ sym had) i })
