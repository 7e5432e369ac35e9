-- What contracts see of a slot, its seats and its keeper. This project's own rule.
use Rattle.std.specs.Prelude.{◌≡◌, ℕ, ◌+◌, ◌<◌, List, [], ◌∷◌, ◌++◌, length, Bool, true, false, Option, Some, None, Result, Ok, Err}
use Rattle.atomic_table.specs.Seated.{TableId}
use Rattle.log_positions.specs.Numbered.{AreBelow, AreFrom, AreAllOf}
use Rattle.machine_hub.specs.declared.entry.Entry.{Entry}
use Rattle.machine_hub.specs.declared.view.Home.{Home}
use Rattle.machine_hub.specs.declared.view.SlotView.{SlotView}
use Rattle.machine_hub.specs.declared.view.Standing.{Standing}
use Rattle.machine_hub.specs.declared.told.Told.{Told}
use Rattle.machine_hub.specs.Runs.{entry, IsLossOf, entries_in, lost_in, losses, IsHistory}
use Rattle.machine_hub.specs.Slot.{seat_view, with_entries, stored, IsAtHome, HasHistory}

-- a seat: its slot and its machine's home, the entries of its calls, each with its position in what the machine did: of
-- those that came before memory was refused, and of those that came later; how many these are; how many calls were
-- refused memory, and which, each with its position among the machine's calls that were
pub record SeatState (M S O C : Type 0) : Type 0 where
  pub slot : TableId
  pub home : Home M
  pub calls : List (ℕ × Entry S O)
  pub late : List (ℕ × Entry S O)
  pub bare : ℕ
  pub refused : ℕ
  pub lost : List (ℕ × C)

-- who ends a slot, with what it has taken in of the slot's seats
pub record KeeperState (M S O C : Type 0) : Type 0 where
  pub slot : TableId
  pub home : Home M
  pub seats : ℕ
  pub taken : ℕ
  pub calls : List (ℕ × Entry S O)
  pub late : List (ℕ × Entry S O)
  pub bare : ℕ
  pub refused : ℕ
  pub lost : List (ℕ × C)

module _ {M S O C : Type 0} where
  -- a seat that made no call yet
  abbrev pub new_seat : TableId → Home M → SeatState M S O C
  new_seat slot home = record { slot = slot; home = home; calls = []; late = []; bare = 0; refused = 0; lost = [] }

  -- a keeper that has taken in no seat yet
  abbrev pub new_keeper : TableId → Home M → ℕ → KeeperState M S O C
  new_keeper slot home seats = record {
    slot = slot;
    home = home;
    seats = seats;
    taken = 0;
    calls = [];
    late = [];
    bare = 0;
    refused = 0;
    lost = [];
  }

  -- a keeper that has taken in one seat more
  abbrev pub keeper_with : KeeperState M S O C → SeatState M S O C → KeeperState M S O C
  keeper_with k s = record {
    slot = k.slot;
    home = k.home;
    seats = k.seats;
    taken = k.taken + 1;
    calls = s.calls ++ k.calls;
    late = s.late ++ k.late;
    bare = s.bare + k.bare;
    refused = s.refused + k.refused;
    lost = s.lost ++ k.lost;
  }

  -- a seat after a call that answered, after memory was refused or before: its entry is behind its others
  abbrev pub seat_after : SeatState M S O C → Bool → ℕ × Entry S O → SeatState M S O C
  seat_after s true noted = record {
    slot = s.slot;
    home = s.home;
    calls = s.calls;
    late = s.late ++ noted ∷ [];
    bare = s.bare + 1;
    refused = s.refused;
    lost = s.lost;
  }
  seat_after s false noted = record {
    slot = s.slot;
    home = s.home;
    calls = s.calls ++ noted ∷ [];
    late = s.late;
    bare = s.bare;
    refused = s.refused;
    lost = s.lost;
  }

  -- these entries have the seat's calls at their positions
  abbrev pub HasCalls : List (Entry S O) → SeatState M S O C → Type 0
  HasCalls entries seat = AreFrom entries seat.calls

  -- what came after memory was refused has the seat's later calls at their positions
  abbrev pub HasLateCalls : List (Result (Entry S O) C) → SeatState M S O C → Type 0
  HasLateCalls later seat = AreFrom (entries_in later) seat.late

  -- it has the seat's calls that were refused memory at theirs
  abbrev pub HasLostCalls : List (Result (Entry S O) C) → SeatState M S O C → Type 0
  HasLostCalls later seat = AreFrom (lost_in later) seat.lost

  -- the entry's position is above those of all earlier calls
  abbrev pub IsAbove : SeatState M S O C → Bool → ℕ × Entry S O → Type 0
  IsAbove s true noted = AreBelow noted.0 s.late
  IsAbove s false noted = AreBelow noted.0 s.calls

  -- a seat after a call that was refused memory: the call is behind its others
  abbrev pub seat_refused : SeatState M S O C → ℕ × C → SeatState M S O C
  seat_refused s noted = record {
    slot = s.slot;
    home = s.home;
    calls = s.calls;
    late = s.late;
    bare = s.bare;
    refused = s.refused + 1;
    lost = s.lost ++ noted ∷ [];
  }

  -- a pass that has taken in a seat
  abbrev pub with_seat : SlotView M S O C → SeatState M S O C → SlotView M S O C
  with_seat v s =
      seat_view (v.parts + 1) v.home v.held (s.calls ++ v.calls) (s.late ++ v.late) (s.bare + v.bare)
      (s.refused + v.refused) (s.lost ++ v.lost)

-- what a step adds to what the machine did: its entry, under its position, behind those after memory was refused or
-- behind those before
abbrev pub IsNoted : {M S O C : Type 0} →
    Standing M S O C → Standing M S O C → Entry S O → Bool → ℕ × Entry S O → Type 0
IsNoted old new e true noted =
    (noted ≡ (length (entries_in old.later), e)) × (new.entries ≡ old.entries) × (new.later ≡ old.later ++ Ok e ∷ [])
    × (old.stopped ≡ true) × (new.stopped ≡ true)
IsNoted old new e false noted =
    (noted ≡ (length old.entries, e)) × (new.entries ≡ old.entries ++ e ∷ []) × (new.later ≡ old.later)
    × (old.stopped ≡ false) × (new.stopped ≡ false)

-- what a call adds to it that was refused memory: the call, under its position among those that were
abbrev pub IsNotedLost : {M S O C : Type 0} → Standing M S O C → Standing M S O C → C → ℕ × C → Type 0
IsNotedLost old new call noted =
    (noted ≡ (length (lost_in old.later), call)) × (new.entries ≡ old.entries)
    × (new.later ≡ old.later ++ Err call ∷ []) × (new.stopped ≡ true)

-- it is the seat's machine, known with what it did: a run, and what came after memory was refused. In these are all of
-- the seat's calls
pub record IsSeatsMachine {M S O C : Type 0} (asks : C → S → Type 0) (steps : M → S → O → M → Type 0)
    (loses : C → M → M → Type 0) (seat : SeatState M S O C) (s : Standing M S O C) : Type 0 where
  pub home : IsAtHome steps seat.home s
  pub history : HasHistory asks steps loses seat.home s
  pub calls : HasCalls s.entries seat
  pub late_calls : HasLateCalls s.later seat
  pub lost_calls : HasLostCalls s.later seat

-- at one moment of a call the seat's machine, which did all that the seat's earlier calls gave, made this step
pub record WasMade {C M S O : Type 0} (asks : C → S → Type 0) (steps : M → S → O → M → Type 0)
    (loses : C → M → M → Type 0) (seat : SeatState M S O C) (call : C) (outcome : O) (late : Bool)
    (noted : ℕ × Entry S O) : Type 0 where
  pub old : Standing M S O C
  pub new : Standing M S O C
  pub before : IsSeatsMachine asks steps loses seat old
  pub step : S
  pub asked : asks call step
  pub made : steps old.machine step outcome new.machine
  pub adds : IsNoted old new (entry step outcome) late noted

-- at one moment of a call the seat's machine, which did all that the seat's earlier calls gave, came to what this call
-- leaves where it is refused memory
pub record WasLost {C M S O : Type 0} (asks : C → S → Type 0) (steps : M → S → O → M → Type 0)
    (loses : C → M → M → Type 0) (seat : SeatState M S O C) (call : C) (noted : ℕ × C) : Type 0 where
  pub old : Standing M S O C
  pub new : Standing M S O C
  pub before : IsSeatsMachine asks steps loses seat old
  pub lost : IsLossOf asks steps loses call old.machine new.machine
  pub adds : IsNotedLost old new call noted

-- a call's entry, where it came before memory was refused
abbrev pub unless_late : {X : Type 0} → Bool → X → Option X
unless_late true x = None
unless_late false x = Some x

-- what a log that keeps answers
abbrev pub if_kept : {X : Type 0} → Bool → Option X → Option X
if_kept true o = o
if_kept false o = None

-- a call answered: its step was made, and the seat has its entry behind its others, above all of them. The entry is
-- answered where the log keeps
pub record IsStepOf {C M S O : Type 0} (asks : C → S → Type 0) (steps : M → S → O → M → Type 0)
    (loses : C → M → M → Type 0) (old new : SeatState M S O C) (call : C) (outcome : O)
    (given : Option (ℕ × Entry S O)) : Type 0 where
  pub late : Bool
  pub noted : ℕ × Entry S O
  pub made : WasMade asks steps loses old call outcome late noted
  pub above : IsAbove old late noted
  pub after : new ≡ seat_after old late noted
  pub given_is : given ≡ if_kept old.home.keeps (unless_late late noted)

-- this call was refused memory: the machine is what the call leaves then, and the seat has the call behind its others
-- that were, above all of them
pub record IsRefusalOf {C M S O : Type 0} (asks : C → S → Type 0) (steps : M → S → O → M → Type 0)
    (loses : C → M → M → Type 0) (old new : SeatState M S O C) (call : C) : Type 0 where
  pub noted : ℕ × C
  pub lost : WasLost asks steps loses old call noted
  pub above : AreBelow noted.0 old.lost
  pub after : new ≡ seat_refused old noted

-- at one moment of a call the seat's machine, which did all that the seat's earlier calls gave, answered so, and had
-- been refused memory or hadn't
abbrev pub WasTold : {M S O C Q A : Type 0} → (C → S → Type 0) → (M → S → O → M → Type 0) → (C → M → M → Type 0) →
    (M → Q → A → Type 0) → SeatState M S O C → Q → Told A → Type 0
WasTold {M} {S} {O} {C} asks steps loses reads seat question told =
    (s : Standing M S O C) × IsSeatsMachine asks steps loses seat s
    × reads s.machine question told.answer × (told.stopped ≡ s.stopped)

-- what the calls of all seats tell of the machine at its end: what it did is a run from what it was at first, which the
-- log has where it keeps; each entry is one call's and each call with an entry is there; a call without one came only
-- after memory was refused, and the machine is stopped just where a call was refused memory. Each loss is one call's
-- that was, and each such call is there
pub record IsWholeRun {M S O C : Type 0} (asks : C → S → Type 0) (steps : M → S → O → M → Type 0)
    (loses : C → M → M → Type 0) (k : KeeperState M S O C) (s : Standing M S O C) : Type 0 where
  pub entries : List (Entry S O)
  pub later : List (Result (Entry S O) C)
  pub history : IsHistory asks steps loses k.home.start entries later s.stopped s.machine
  pub late : AreAllOf (entries_in later) k.late
  pub lost : AreAllOf (lost_in later) k.lost
  pub count : losses later ≡ k.refused
  pub run : IsAtHome steps k.home (with_entries entries s)
  pub kept : s.entries ≡ stored k.home.keeps entries
  pub each : AreAllOf entries k.calls
  pub blank : 0 < k.bare → s.stopped ≡ true
  pub blame : s.stopped ≡ true → 0 < k.refused
  pub stops : 0 < k.refused → s.stopped ≡ true
