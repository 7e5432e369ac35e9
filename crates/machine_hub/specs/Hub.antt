-- What contracts see of a hub of machines, of its callers, and of what all their calls tell of the machines at the end.
-- This project's own rule.
use Rattle.std.specs.Prelude.{◌≡◌, ℕ, ◌<◌, List, [], ◌∷◌, map, flat_map, sum_by, length, Bool, true, false, Option, Some, Result, option_map, slice_get, slice_set, All}
use Rattle.std.specs.List.{filter_map}
use Rattle.atomic_table.specs.Seated.{TableId}
use Rattle.log_positions.specs.Numbered.{AreBelow, AreRising, AreAllOf}
use Rattle.machine_hub.specs.declared.entry.Entry.{Entry}
use Rattle.machine_hub.specs.declared.view.Home.{Home}
use Rattle.machine_hub.specs.declared.view.Standing.{Standing}
use Rattle.machine_hub.specs.Runs.{entries_in, lost_in, losses, IsHistory}
use Rattle.machine_hub.specs.Slot.{home_of, with_entries, stored, IsAtHome}
use Rattle.machine_hub.specs.Seats.{SeatState, new_seat, seat_after, seat_refused, IsAbove, WasMade, WasLost, WasTold, if_kept, unless_late}
use Rattle.machine_hub.specs.declared.receipt.Receipt.{Receipt}
use Rattle.machine_hub.specs.declared.told.Told.{Told}

-- who ends a hub: at which slots its shards stand, what they were at first, and how many callers it has
pub record HubKeeping (M : Type 0) : Type 0 where
  pub slots : List TableId
  pub homes : List (Home M)
  pub callers : ℕ

-- the same, by its parts
abbrev pub keeping : {M : Type 0} → List TableId → List (Home M) → ℕ → HubKeeping M
keeping slots homes callers = record { slots = slots; homes = homes; callers = callers }

-- each of the one list with the one of the other that stands beside it
abbrev pub paired : {A B C : Type 0} → (A → B → C) → List A → List B → List C
paired f [] ys = []
paired f (x ∷ xs) [] = []
paired f (x ∷ xs) (y ∷ ys) = f x y ∷ paired f xs ys

-- a receipt of the entry at this position of a shard's log
abbrev pub receipt_at : ℕ → ℕ → Receipt
receipt_at shard position = record { shard = shard; position = position }

module _ {M S O C : Type 0} where
  -- the machines' logs are empty
  abbrev pub AreNew : List (Standing M S O C) → Type 0
  AreNew [] = Unit {0}
  AreNew (s ∷ ss) = ((s.entries ≡ []) × (s.stopped ≡ false)) × AreNew ss

  -- what the machines are at first
  abbrev pub homes_of : List (Standing M S O C) → List (Home M)
  homes_of ms = map home_of ms

  -- the slots at which a caller has its seats, one at each shard
  abbrev pub slots_of : List (SeatState M S O C) → List TableId
  slots_of seats = map (λ s. s.slot) seats

  -- each of them is a caller of these shards
  abbrev pub AreCallersOf : List TableId → List (List (SeatState M S O C)) → Type 0
  AreCallersOf slots callers = All (λ c. slots_of c ≡ slots) callers

  -- a caller that made no call yet
  abbrev pub new_caller : List TableId → List (Home M) → List (SeatState M S O C)
  new_caller slots homes = paired new_seat slots homes

  -- the callers' seats at one shard
  abbrev pub seats_at : ℕ → List (List (SeatState M S O C)) → List (SeatState M S O C)
  seats_at shard callers = filter_map (λ c. slice_get c shard) callers

  -- these entries are those of all calls of the seats that have one: each is one call's, under its position
  abbrev pub AreCallsOf : List (Entry S O) → List (SeatState M S O C) → Type 0
  AreCallsOf entries seats = AreAllOf entries (flat_map (λ x. x.calls) seats)

  -- the same of their calls that came after memory was refused
  abbrev pub AreLateCallsOf : List (Entry S O) → List (SeatState M S O C) → Type 0
  AreLateCallsOf entries seats = AreAllOf entries (flat_map (λ x. x.late) seats)

  -- of each seat the positions of its entries rise, in the order of its calls
  abbrev pub EachRises : List (SeatState M S O C) → Type 0
  EachRises [] = Unit {0}
  EachRises (s ∷ ss) = AreRising s.calls × EachRises ss

  -- these calls are those of the seats that were refused memory: each is one call, under its position
  abbrev pub AreLostCallsOf : List C → List (SeatState M S O C) → Type 0
  AreLostCallsOf calls seats = AreAllOf calls (flat_map (λ x. x.lost) seats)

  -- a call at one shard was refused memory: the caller's seat there has it, and its other seats are as before
  abbrev pub IsRefusedOn : List (SeatState M S O C) → List (SeatState M S O C) → ℕ → Type 0
  IsRefusedOn old new shard =
      (seat : SeatState M S O C) × (noted : ℕ × C) × (slice_get old shard ≡ Some seat)
      × (new ≡ slice_set old shard (seat_refused seat noted))

-- a call at one shard answered: the machine there made one step that the call asked for, with this outcome; the
-- caller's seat there has its entry, unless memory was refused before, above those of its earlier calls there; the
-- receipt, where the log keeps, names the shard and the entry's position; the caller's other seats are as before
pub record IsCallOn {C M S O : Type 0} (asks : C → S → Type 0) (steps : M → S → O → M → Type 0)
    (loses : C → M → M → Type 0) (old new : List (SeatState M S O C)) (shard : ℕ) (call : C) (outcome : O)
    (receipt : Option Receipt) : Type 0 where
  pub seat : SeatState M S O C
  pub late : Bool
  pub noted : ℕ × Entry S O
  pub at : slice_get old shard ≡ Some seat
  pub made : WasMade asks steps loses seat call outcome late noted
  pub above : IsAbove seat late noted
  pub after : new ≡ slice_set old shard (seat_after seat late noted)
  pub receipt_is :
      receipt ≡ option_map (λ g. receipt_at shard g.0) (if_kept seat.home.keeps (unless_late late noted))

-- this call at one shard was refused memory: the machine there is what this call leaves then; the caller's seat there
-- has the call, above its earlier ones that were; the caller's other seats are as before
pub record IsRefusalOn {C M S O : Type 0} (asks : C → S → Type 0) (steps : M → S → O → M → Type 0)
    (loses : C → M → M → Type 0) (old new : List (SeatState M S O C)) (shard : ℕ) (call : C) : Type 0 where
  pub seat : SeatState M S O C
  pub noted : ℕ × C
  pub at : slice_get old shard ≡ Some seat
  pub lost : WasLost asks steps loses seat call noted
  pub above : AreBelow noted.0 seat.lost
  pub after : new ≡ slice_set old shard (seat_refused seat noted)

-- at one moment of a call the machine of this shard, which did all that the caller's earlier calls there gave, answered
-- so
abbrev pub IsToldOn : {M S O C Q A : Type 0} → (C → S → Type 0) → (M → S → O → M → Type 0) → (C → M → M → Type 0) →
    (M → Q → A → Type 0) → List (SeatState M S O C) → ℕ → Q → Told A → Type 0
IsToldOn {M} {S} {O} {C} asks steps loses reads callers shard question told =
    (seat : SeatState M S O C) × (slice_get callers shard ≡ Some seat)
    × WasTold asks steps loses reads seat question told

module _ {M S O C : Type 0} (steps : M → S → O → M → Type 0) where
  -- what all callers' calls at a shard tell of it at the end. What it did is a run from what it was at first, which the
  -- log has where it keeps. Each entry of the run is one call's, with its step and outcome, and each call with an entry
  -- is there: so there are as many entries as such calls, and no two have one position. Of each caller they rise. A
  -- call without an entry came only after memory was refused, and the shard is stopped just where a call was refused
  -- memory
  pub record IsShardRun (home : Home M) (seats : List (SeatState M S O C)) (s : Standing M S O C) : Type 0 where
    pub entries : List (Entry S O)
    pub run : IsAtHome steps home (with_entries entries s)
    pub kept : s.entries ≡ stored home.keeps entries
    pub each : AreCallsOf entries seats
    pub rising : EachRises seats
    pub blank : 0 < sum_by (λ x. x.bare) seats → s.stopped ≡ true
    pub blame : s.stopped ≡ true → 0 < sum_by (λ x. x.refused) seats
    pub stops : 0 < sum_by (λ x. x.refused) seats → s.stopped ≡ true

  -- the same of each shard
  pub record AreShardRuns (homes : List (Home M)) (callers : List (List (SeatState M S O C)))
      (shards : List (Standing M S O C)) : Type 0 where
    pub count : length shards ≡ length homes
    pub each : (k : ℕ) (home : Home M) (s : Standing M S O C) → slice_get homes k ≡ Some home →
        slice_get shards k ≡ Some s → IsShardRun home (seats_at k callers) s

module _ {M S O C : Type 0} (asks : C → S → Type 0) (steps : M → S → O → M → Type 0) (loses : C → M → M → Type 0) where
  -- what all callers' calls at a shard tell of it beyond its first want of memory. What happened there is a run, and
  -- then later steps and calls that were refused memory: each later entry is one later call's, and each call that was
  -- refused is one of these seats'
  pub record IsShardHistory (home : Home M) (seats : List (SeatState M S O C)) (s : Standing M S O C) : Type 0 where
    pub entries : List (Entry S O)
    pub later : List (Result (Entry S O) C)
    pub history : IsHistory asks steps loses home.start entries later s.stopped s.machine
    pub each : AreCallsOf entries seats
    pub late : AreLateCallsOf (entries_in later) seats
    pub lost : AreLostCallsOf (lost_in later) seats
    pub count : losses later ≡ sum_by (λ x. x.refused) seats

  -- the same of each shard
  abbrev pub AreShardHistories : List (Home M) → List (List (SeatState M S O C)) → List (Standing M S O C) → Type 0
  AreShardHistories homes callers shards = (k : ℕ) (home : Home M) (s : Standing M S O C) →
      slice_get homes k ≡ Some home → slice_get shards k ≡ Some s → IsShardHistory home (seats_at k callers) s
