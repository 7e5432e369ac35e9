-- The keepers of a hub's shards while its callers are taken in, by which `specs/Hub` is proved. This project's own
-- rule.
use Rattle.std.specs.Prelude.{◌≡◌, ℕ, ◌<◌, List, [], ◌∷◌, ◌++◌, length, map, replicate}
use Rattle.atomic_table.specs.Seated.{TableId}
use Rattle.machine_hub.specs.declared.view.Home.{Home}
use Rattle.machine_hub.specs.declared.view.Standing.{Standing}
use Rattle.machine_hub.specs.Slot.{home_of}
use Rattle.machine_hub.specs.Seats.{SeatState, KeeperState, new_seat, new_keeper, keeper_with, IsWholeRun}
use Rattle.machine_hub.specs.Hub.{paired, homes_of, new_caller}

-- each of the one list is changed by the one of the other that stands beside it
abbrev pub zipped : {A B : Type 0} → (A → B → A) → List A → List B → List A
zipped f [] ys = []
zipped f (x ∷ xs) [] = x ∷ xs
zipped f (x ∷ xs) (y ∷ ys) = f x y ∷ zipped f xs ys

-- one more at the end
abbrev pub snoc : {X : Type 0} → List X → X → List X
snoc xs x = xs ++ x ∷ []

module _ {M S O C : Type 0} where
  -- none has taken in a seat
  abbrev pub AreFresh : ℕ → List (KeeperState M S O C) → Type 0
  AreFresh seats [] = Unit {0}
  AreFresh seats (k ∷ ks) = (k ≡ new_keeper k.slot k.home seats) × AreFresh seats ks

  -- the slots of keepers
  abbrev pub keeper_slots : List (KeeperState M S O C) → List TableId
  keeper_slots ks = map (λ k. k.slot) ks

  -- each can take in one seat more
  abbrev pub AreRoomy : List (KeeperState M S O C) → Type 0
  AreRoomy [] = Unit {0}
  AreRoomy (k ∷ ks) = (k.taken < k.seats) × AreRoomy ks

  -- each has taken in all its seats
  abbrev pub AreFull : List (KeeperState M S O C) → Type 0
  AreFull [] = Unit {0}
  AreFull (k ∷ ks) = (k.taken ≡ k.seats) × AreFull ks

  -- each has taken in the caller's seat at its slot
  abbrev pub taken_in : List (KeeperState M S O C) → List (SeatState M S O C) → List (KeeperState M S O C)
  taken_in ks c = zipped keeper_with ks c

  -- the keepers after all callers, the last first
  abbrev pub gathered : List (KeeperState M S O C) → List (List (SeatState M S O C)) → List (KeeperState M S O C)
  gathered ks [] = ks
  gathered ks (c ∷ cs) = taken_in (gathered ks cs) c

  -- what stands of these machines, each at a slot of its own with so many seats
  pub record IsOpen (seats : ℕ) (machines : List (Standing M S O C)) (slots : List TableId)
      (keepers : List (KeeperState M S O C)) (callers : List (List (SeatState M S O C))) : Type 0 where
    pub homes : List (Home M)
    pub homes_are : homes ≡ homes_of machines
    pub keepers_are : keepers ≡ paired (λ t h. new_keeper t h seats) slots homes
    pub callers_are : callers ≡ replicate seats (new_caller slots homes)
    pub long : length slots ≡ length homes

  -- one machine more
  pub record IsAdded (seats : ℕ) (machine : Standing M S O C) (slots slots' : List TableId)
      (keepers keepers' : List (KeeperState M S O C)) (callers callers' : List (List (SeatState M S O C)))
      : Type 0 where
    pub slot : TableId
    pub slots_are : slots' ≡ snoc slots slot
    pub keepers_are : keepers' ≡ snoc keepers (new_keeper slot (home_of machine) seats)
    pub callers_are : callers' ≡ zipped snoc callers (replicate seats (new_seat slot (home_of machine)))

module _ {M S O C : Type 0} (asks : C → S → Type 0) (steps : M → S → O → M → Type 0) (loses : C → M → M → Type 0) where
  -- the machines that the keepers gave at the end
  abbrev pub AreWholeRuns : List (KeeperState M S O C) → List (Standing M S O C) → Type 0
  AreWholeRuns [] [] = Unit {0}
  AreWholeRuns [] (s ∷ ss) = ⊥
  AreWholeRuns (k ∷ ks) [] = ⊥
  AreWholeRuns (k ∷ ks) (s ∷ ss) = IsWholeRun asks steps loses k s × AreWholeRuns ks ss
