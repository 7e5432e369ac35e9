-- A tenant's two caches of decisions (`decision_cache` of the Collector's tailsamplingprocessor), and the hits that
-- wait for a commit: this project's own rule.
use Rattle.std.specs.Prelude.{◌≡◌, ◌≤◌, ℕ, Bool, true, false, List, [], ◌∷◌, length, Option, Some, None, if◌then◌else◌}
use Rattle.decision_cache.specs.Ids.{IdsData, no_ids, with_id, contains}

-- the ids of traces that were sampled, and those of traces that weren't
pub record BothData : Type 0 where
  pub sampled : IdsData
  pub other : IdsData

-- the caches as they were after the last commit, and each hit since then in order: its id, and whether it is of a
-- trace that was sampled
pub record CachesData : Type 0 where
  pub kept : BothData
  pub hits : List (List ℕ × Bool)

-- two caches, as one value
abbrev pub both : IdsData → IdsData → BothData
both sampled other = record { sampled = sampled; other = other }

-- two caches and hits, as one value
abbrev pub with_hits : IdsData → IdsData → List (List ℕ × Bool) → CachesData
with_hits sampled other hits = record { kept = both sampled other; hits = hits }

-- two caches of these sizes that have no ids
abbrev pub no_decisions : ℕ → ℕ → CachesData
no_decisions sampled_size other_size = with_hits (no_ids sampled_size) (no_ids other_size) []

-- the cache of the traces that were sampled, or that of those that weren't
abbrev pub cache_of : Bool → BothData → IdsData
cache_of true b = b.sampled
cache_of false b = b.other

-- both caches after an event in one of them
abbrev pub noted_in : Bool → List ℕ → BothData → BothData
noted_in true id b = both (with_id id b.sampled) b.other
noted_in false id b = both b.sampled (with_id id b.other)

-- both caches after these hits, in their order
abbrev pub all_noted : List (List ℕ × Bool) → BothData → BothData
all_noted [] b = b
all_noted (hit ∷ hits) b = all_noted hits (noted_in hit.1 hit.0 b)

-- the caches with the hits that wait
abbrev pub shown : CachesData → BothData
shown c = all_noted c.hits c.kept

-- whether the trace was sampled, where a cache has its id; that of sampled traces is looked at first
abbrev pub found : List ℕ → BothData → Option Bool
found id b = if contains id b.sampled then Some true else if contains id b.other then Some false else None

-- each hit is in its cache
abbrev pub AreIn : List (List ℕ × Bool) → BothData → Type 0
AreIn [] b = Unit {0}
AreIn (hit ∷ hits) b = (contains hit.0 (cache_of hit.1 b) ≡ true) × AreIn hits b

-- no cache has more ids than it may have
abbrev pub AreWithin : BothData → Type 0
AreWithin b = (length b.sampled.ids ≤ b.sampled.size) × (length b.other.ids ≤ b.other.size)

-- what holds of the caches at all times
pub record CachesInvariant (c : CachesData) : Type 0 where
  pub within : AreWithin c.kept
  pub hits : AreIn c.hits c.kept
