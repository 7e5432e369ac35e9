-- Which ids a cache of bounded size has, by their events: those used least recently leave it (`decision_cache` of the
-- Collector's tailsamplingprocessor). Lists have the newest first.
use Rattle.std.specs.Prelude.{ℕ, Bool, false, List, [], ◌∷◌, take, length, if◌then◌else◌, ◌&&◌, ◌||◌, nat_lt}

module _ {X : Type 0} (eq : X → X → Bool) where
  -- whether the id is among these
  abbrev pub has : X → List X → Bool
  has id [] = false
  has id (other ∷ others) = eq id other || has id others

  -- without the id, where it is among these
  abbrev pub without : X → List X → List X
  without id [] = []
  without id (other ∷ others) = if eq id other then others else other ∷ without id others

  -- each id that has an event once, by its last event
  abbrev pub recent : List X → List X
  recent [] = []
  recent (id ∷ events) = id ∷ without id (recent events)

  -- the events after the id's last one; all, where it has none
  abbrev pub after : X → List X → List X
  after id [] = []
  after id (event ∷ events) = if eq id event then [] else event ∷ after id events

  -- whether the id is in a cache of this size: it has an event, and fewer other ids than that have events after it
  abbrev pub is_cached : ℕ → X → List X → Bool
  is_cached size id events = has id events && nat_lt (length (recent (after id events))) size

  -- the ids that are in the cache, as a list
  abbrev pub cached : ℕ → List X → List X
  cached size events = take size (recent events)

  -- the list after one more event: its id goes first, and the last id goes where there are too many
  abbrev pub noted : ℕ → X → List X → List X
  noted size id ids = take size (id ∷ without id ids)
