use Rattle.std.proofs.Common.{◌≡◌, ◌≤◌, ◌<◌, length, sym, ap, ◌∙◌, subst, arith, ℕ, List, [], Option}
use Rattle.std.specs.Prelude.{⊤, MatchOption}
use Rattle.std.specs.Option.{option_map_or}
use Rattle.std.specs.Map.{keys_of}
use Rattle.lru.specs.LruCache.{LruCache}
use Rattle.decision_cache.specs.Recent.{noted}
use Rattle.decision_cache.specs.Ids.{is_same}
use Rattle.decision_cache.proofs.Same.{same_laws, same_decides}
use Rattle.decision_cache.proofs.Entries.{put_fitted, put_trimmed}
use Rattle.decision_cache.proofs.recent.RecentIds.put.Goals.{then-len-self, else-len-self}
use Rattle.decision_cache.proofs.recent.RecentIds.put.Goals as goal

pub invariant_of-self-2 : goal.invariant_of-self-2
invariant_of-self-2 c =
    let size = c.self.inside.size in
    let kept = subst (λ (o : Option (LruCache (List ℕ) ⊤)). MatchOption o (size ≡ 0) (λ d. (length d.entries ≤ size) × (size < d.cap) × (0 < size))) c.in-Some.is c.self.invariant in
    elim c.if-len-self.branch [
      | then-len-self w ↦
          let after = put_trimmed is_same same_laws same_decides c.in-Some.cache c.put.new.self w.pop_lru.new.self c.args.id tt size kept.0 kept.1 c.in_ok-put.ensures.entries w.pop_lru.ensures.entries (omega (arith, c.len.ensures.len, w.if-len-self)) in
          rw w.self-inside-is (after.0, after.1, kept.2)
      | else-len-self w ↦
          let after = put_fitted is_same same_laws same_decides c.in-Some.cache c.put.new.self c.args.id tt size kept.0 kept.1 c.in_ok-put.ensures.entries (omega (arith, c.len.ensures.len, w.if-len-self)) in
          rw w.self-inside-is (after.0, after.1, kept.2)
    ]

pub returns-clause-on_success : goal.returns-clause-on_success
returns-clause-on_success c =
    let size = c.self.inside.size in
    let kept = subst (λ (o : Option (LruCache (List ℕ) ⊤)). MatchOption o (size ≡ 0) (λ d. (length d.entries ≤ size) × (size < d.cap) × (0 < size))) c.in-Some.is c.self.invariant in
    let had = ap (λ (o : Option (LruCache (List ℕ) ⊤)). noted is_same size c.args.id (option_map_or (λ d. keys_of d.entries) o [])) c.in-Some.is in
    elim c.if-len-self.branch [
      | then-len-self w ↦
          let after = put_trimmed is_same same_laws same_decides c.in-Some.cache c.put.new.self w.pop_lru.new.self c.args.id tt size kept.0 kept.1 c.in_ok-put.ensures.entries w.pop_lru.ensures.entries (omega (arith, c.len.ensures.len, w.if-len-self)) in
          rw (w.self-inside-is, ← c.self.view_is) (λ i. record { size = size; ids = (after.2 ∙ sym had) i })
      | else-len-self w ↦
          let after = put_fitted is_same same_laws same_decides c.in-Some.cache c.put.new.self c.args.id tt size kept.0 kept.1 c.in_ok-put.ensures.entries (omega (arith, c.len.ensures.len, w.if-len-self)) in
          rw (w.self-inside-is, ← c.self.view_is) (λ i. record { size = size; ids = (after.2 ∙ sym had) i })
    ]
