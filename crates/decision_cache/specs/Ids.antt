-- A cache of trace ids: this project's own rule, under the name of the Collector's `decision_cache`.
use Rattle.std.specs.Prelude.{ℕ, Bool, List, [], nat_eq}
use Rattle.std.specs.Cmp.Lexicographic.{pointwise}
use Rattle.decision_cache.specs.Recent.{has, noted}

-- whether two ids are the same, byte for byte
abbrev pub is_same : List ℕ → List ℕ → Bool
is_same one other = pointwise nat_eq one other

-- how many ids a cache may have, and those that it has, the most recently used first
pub record IdsData : Type 0 where
  pub size : ℕ
  pub ids : List (List ℕ)

-- a cache of this size that has none
abbrev pub no_ids : ℕ → IdsData
no_ids size = record { size = size; ids = [] }

-- the cache after an event of this id
abbrev pub with_id : List ℕ → IdsData → IdsData
with_id id c = record { size = c.size; ids = noted is_same c.size id c.ids }

-- whether the cache has the id
abbrev pub contains : List ℕ → IdsData → Bool
contains id c = has is_same id c.ids
