-- Items with their numbers: their positions, from 0 on, in one list that only grows, as the offsets of a log's records.
-- Whoever holds some of them holds pairs of a number and an item, as `enumerate` of Rust's iterators gives them.
use Rattle.std.specs.Prelude.{◌≡◌, ℕ, ◌<◌, List, map, Some, slice_get, All, AllPairs, IsPermutation}
use Rattle.std.specs.List.{enumerate_from}

-- the items without their numbers
abbrev pub items_of : {X : Type 0} → List (ℕ × X) → List X
items_of es = map (λ e. e.1) es

-- each number is below n
abbrev pub AreBelow : {X : Type 0} → ℕ → List (ℕ × X) → Type 0
AreBelow n es = All (λ e. e.0 < n) es

-- each number is above all before it
abbrev pub AreRising : {X : Type 0} → List (ℕ × X) → Type 0
AreRising es = AllPairs (λ a b. a.0 < b.0) es

-- each item is the one that stands in the list at its number
abbrev pub AreFrom : {X : Type 0} → List X → List (ℕ × X) → Type 0
AreFrom xs es = All (λ e. slice_get xs e.0 ≡ Some e.1) es

-- they are all of the list, each once, in some order
abbrev pub AreAllOf : {X : Type 0} → List X → List (ℕ × X) → Type 0
AreAllOf xs es = IsPermutation es (enumerate_from 0 xs)
