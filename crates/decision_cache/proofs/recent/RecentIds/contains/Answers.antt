use Rattle.std.proofs.Common.{sym, ap, ◌∙◌, ℕ, List, [], Option}
use Rattle.std.specs.Prelude.{⊤}
use Rattle.std.specs.Option.{option_map_or}
use Rattle.std.specs.Map.{keys_of}
use Rattle.lru.specs.LruCache.{LruCache}
use Rattle.decision_cache.specs.Recent.{has}
use Rattle.decision_cache.specs.Ids.{is_same}
use Rattle.decision_cache.proofs.Entries.{has-lookup}
use Rattle.decision_cache.proofs.recent.RecentIds.contains.Goals as goal

pub returns-in-Some : goal.returns-in-Some
returns-in-Some c =
    let found = c.contains.ensures ∙ has-lookup is_same c.args.id c.in-Some.cache.entries in
    let kept = ap (λ (o : Option (LruCache (List ℕ) ⊤)). has is_same c.args.id (option_map_or (λ d. keys_of d.entries) o [])) c.in-Some.is in
    rw (← c.self.view_is) (found ∙ sym kept)
