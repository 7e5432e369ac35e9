-- What the list of a cache has to do with the events of ids, and what a hit changes: laws of this project's own rule.
use Rattle.std.specs.Prelude.{◌≡◌, ◌≤◌, ℕ, true, List, ◌∷◌, length}
use Rattle.decision_cache.specs.Recent.{has, is_cached, cached, noted}
use Rattle.decision_cache.specs.Ids.{is_same}

-- an id is in the list where it is in the cache by its events
abbrev pub ListsSay : Type 0
ListsSay = (size : ℕ) (id : List ℕ) (events : List (List ℕ)) →
    has is_same id (cached is_same size events) ≡ is_cached is_same size id events

-- one more event notes its id in the list
abbrev pub EventsAreNoted : Type 0
EventsAreNoted = (size : ℕ) (id : List ℕ) (events : List (List ℕ)) →
    cached is_same size (id ∷ events) ≡ noted is_same size id (cached is_same size events)

-- an event of an id that is in the list leaves the same ids in it
abbrev pub HitsKeep : Type 0
HitsKeep = (size : ℕ) (id other : List ℕ) (ids : List (List ℕ)) → has is_same id ids ≡ true → length ids ≤ size →
    has is_same other (noted is_same size id ids) ≡ has is_same other ids

-- and as many
abbrev pub HitsKeepLength : Type 0
HitsKeepLength = (size : ℕ) (id : List ℕ) (ids : List (List ℕ)) → has is_same id ids ≡ true → length ids ≤ size →
    length (noted is_same size id ids) ≡ length ids
