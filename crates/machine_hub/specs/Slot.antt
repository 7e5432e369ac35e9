-- The rule of a slot: it holds a machine with its log, or one seat has it out. The machine that `specs/Seats` is proved
-- by. What the machine did is known whether or not its log keeps: a machine that a seat has out is known with the
-- entries of all steps that it made until it was refused memory. This project's own rule.
use Rattle.std.specs.Prelude.{◌≡◌, ℕ, ◌+◌, ◌-◌, ◌^◌, ◌<◌, List, [], ◌∷◌, ◌++◌, length, Bool, true, false, Option, Some, None, IfSome, Result, sum_by, flat_map}
use mathlib.Core.Option.{some}
use lib.ListN.{get_elem?}
use Rattle.log_positions.specs.Numbered.{AreFrom, AreAllOf}
use Rattle.machine_hub.specs.declared.entry.Entry.{Entry}
use Rattle.machine_hub.specs.declared.view.Home.{Home}
use Rattle.machine_hub.specs.declared.view.SlotView.{SlotView}
use Rattle.machine_hub.specs.declared.view.Standing.{Standing}
use Rattle.machine_hub.specs.Runs.{entry, RunsFrom, IsLossOf, entries_in, lost_in, losses, IsHistory}

-- more parts than a slot can have seats
abbrev pub all_parts : ℕ
all_parts = 2 ^ 64

-- the entries after one step more, unless memory was refused before
abbrev pub added : {E : Type 0} → Bool → List E → E → List E
added true es e = es
added false es e = es ++ e ∷ []

-- those that came after memory was refused, after one step more
abbrev pub added_late : {E : Type 0} → Bool → List E → E → List E
added_late true es e = es ++ e ∷ []
added_late false es e = es

-- what a log has of these entries
abbrev pub stored : {E : Type 0} → Bool → List E → List E
stored true es = es
stored false es = []

-- how many steps came after memory was refused
abbrev pub passed : Bool → ℕ → ℕ
passed true n = n + 1
passed false n = n

module _ {M S O C : Type 0} where
  -- what a pass knows
  abbrev pub seat_view : ℕ → Home M → Option (Standing M S O C) → List (ℕ × Entry S O) → List (ℕ × Entry S O) → ℕ → ℕ
      → List (ℕ × C) → SlotView M S O C
  seat_view parts home held calls late bare refused lost = record {
    parts = parts;
    home = home;
    held = held;
    calls = calls;
    late = late;
    bare = bare;
    refused = refused;
    lost = lost;
  }

  -- what a machine is at first
  abbrev pub home_of : Standing M S O C → Home M
  home_of s = record { number = s.number; start = s.machine; keeps = s.keeps }

  -- no machine
  abbrev pub no_standing : M → Standing M S O C
  no_standing m = record {
    number = 0;
    machine = m;
    entries = [];
    keeps = true;
    stopped = false;
    last = None;
    later = [];
    asked = None;
  }

  -- the machine with the entries of all that it did, whether or not its log has them
  abbrev pub with_entries : List (Entry S O) → Standing M S O C → Standing M S O C
  with_entries es s = record {
    number = s.number;
    machine = s.machine;
    entries = es;
    keeps = s.keeps;
    stopped = s.stopped;
    last = s.last;
    later = s.later;
    asked = s.asked;
  }

  -- the same, with what happened since memory was refused
  abbrev pub with_history : List (Entry S O) → List (Result (Entry S O) C) → Standing M S O C → Standing M S O C
  with_history es later s = record {
    number = s.number;
    machine = s.machine;
    entries = es;
    keeps = s.keeps;
    stopped = s.stopped;
    last = s.last;
    later = later;
    asked = s.asked;
  }

  -- who makes the slot holds a machine that nobody has seen
  abbrev pub maker : M → SlotView M S O C
  maker m = seat_view all_parts (home_of (no_standing m)) (Some (no_standing m)) [] [] 0 0 []

  -- a pass that is spent
  abbrev pub spent_view : M → SlotView M S O C
  spent_view m = seat_view 0 (home_of (no_standing m)) None [] [] 0 0 []

  -- how many machines a seat has out
  abbrev pub held_count : Option (Standing M S O C) → ℕ
  held_count None = 0
  held_count (Some s) = 1

  -- a part is cut off for a new seat
  abbrev pub without_part : SlotView M S O C → SlotView M S O C
  without_part v = seat_view (v.parts - 1) v.home v.held v.calls v.late v.bare v.refused v.lost

  abbrev pub newcomer : SlotView M S O C → SlotView M S O C
  newcomer v = seat_view 1 v.home None [] [] 0 0 []

  -- one has taken in another
  abbrev pub both_views : SlotView M S O C → SlotView M S O C → SlotView M S O C
  both_views v w =
      seat_view (v.parts + w.parts) v.home v.held (w.calls ++ v.calls) (w.late ++ v.late) (w.bare + v.bare)
      (w.refused + v.refused) (w.lost ++ v.lost)

  -- the machine came in, with an empty log
  abbrev pub Opened : SlotView M S O C → Standing M S O C → SlotView M S O C → Type 0
  Opened v s w = w ≡ seat_view v.parts (home_of s) None [] [] 0 0 []

  -- the machine came back after a step
  abbrev pub Stepped : SlotView M S O C → Standing M S O C → SlotView M S O C → Type 0
  Stepped v s w =
      (old : Standing M S O C) × (e : Entry S O) × (v.held ≡ Some old) × (s.last ≡ Some e)
      × (w ≡ seat_view v.parts v.home None (added s.stopped v.calls (length old.entries, e))
      (added_late s.stopped v.late (length (entries_in old.later), e)) (passed s.stopped v.bare) v.refused
      v.lost)

  -- the machine came back after a call was refused memory
  abbrev pub Stopped : SlotView M S O C → Standing M S O C → SlotView M S O C → Type 0
  Stopped v s w =
      (old : Standing M S O C) × (call : C) × (v.held ≡ Some old) × (s.asked ≡ Some call)
      × (w ≡ seat_view v.parts v.home None v.calls v.late v.bare (v.refused + 1)
      (v.lost ++ (length (lost_in old.later), call) ∷ []))

  -- the machine came back as it was
  abbrev pub Returned : SlotView M S O C → Standing M S O C → SlotView M S O C → Type 0
  Returned v s w = w ≡ seat_view v.parts v.home None v.calls v.late v.bare v.refused v.lost

  -- who has the machine out knows that the slot is empty
  abbrev pub IsOut : SlotView M S O C → List (Standing M S O C) → Type 0
  IsOut v items = (s : Standing M S O C) → v.held ≡ Some s → items ≡ []

  -- who has all parts and not the machine knows that it is in the slot
  abbrev pub IsIn : SlotView M S O C → List (Standing M S O C) → Type 0
  IsIn v items = v.parts ≡ all_parts → v.held ≡ None → length items ≡ 1

  -- these are all calls: each entry is one call's, each loss one call's that was refused memory, and the machine is
  -- stopped just where memory was refused
  pub record IsWhole (v : SlotView M S O C) (s : Standing M S O C) : Type 0 where
    pub each : AreAllOf s.entries v.calls
    pub late : AreAllOf (entries_in s.later) v.late
    pub lost : AreAllOf (lost_in s.later) v.lost
    pub count : losses s.later ≡ v.refused
    pub blame : s.stopped ≡ true → 0 < v.refused
    pub stops : 0 < v.refused → s.stopped ≡ true

module _ {M S O C : Type 0} (steps : M → S → O → M → Type 0) where
  -- it is the machine of this home, known with the entries of what it did, which are a run from the home's start
  abbrev pub IsAtHome : Home M → Standing M S O C → Type 0
  IsAtHome home s =
      (s.number ≡ home.number) × (s.keeps ≡ home.keeps)
      × RunsFrom steps home.start s.entries s.stopped s.machine

module _ {M S O C : Type 0} (asks : C → S → Type 0) (steps : M → S → O → M → Type 0) (loses : C → M → M → Type 0) where
  -- what it did from its home's start is known
  abbrev pub HasHistory : Home M → Standing M S O C → Type 0
  HasHistory home s = IsHistory asks steps loses home.start s.entries s.later s.stopped s.machine

  -- it is known with these entries, and with what happened later
  pub record IsState (home : Home M) (entries : List (Entry S O)) (later : List (Result (Entry S O) C)) (stopped : Bool)
      (s : Standing M S O C) : Type 0 where
    pub home_is : IsAtHome steps home s
    pub history : HasHistory home s
    pub entries_are : s.entries ≡ entries
    pub later_is : s.later ≡ later
    pub stopped_is : s.stopped ≡ stopped

  -- it did this, and its log has the entries where it keeps, and else nothing
  pub record Did (home : Home M) (entries : List (Entry S O)) (later : List (Result (Entry S O) C)) (stopped : Bool)
      (s : Standing M S O C) : Type 0 where
    pub home_is : IsAtHome steps home (with_history entries later s)
    pub history : HasHistory home (with_history entries later s)
    pub kept : s.entries ≡ stored home.keeps entries
    pub stopped_is : s.stopped ≡ stopped

  -- the same of each
  abbrev pub AreStates : Home M → List (Entry S O) → List (Result (Entry S O) C) → Bool → List (Standing M S O C) →
      Type 0
  AreStates home entries later stopped [] = Unit {0}
  AreStates home entries later stopped (s ∷ ss) =
      Did home entries later stopped s × AreStates home entries later stopped ss

  -- what a view has to do with the machine
  pub record Fits (home : Home M) (entries : List (Entry S O)) (later : List (Result (Entry S O) C)) (stopped : Bool)
      (v : SlotView M S O C) : Type 0 where
    pub homed : 0 < v.parts → v.home ≡ home
    pub out : IfSome v.held (IsState home entries later stopped)
    pub blank : 0 < v.bare → stopped ≡ true
    pub stops : 0 < v.refused → stopped ≡ true
    pub idle : v.parts ≡ 0 → (v.held ≡ None) × (v.calls ≡ []) × (v.late ≡ []) × (v.bare ≡ 0) × (v.refused ≡ 0)
        × (v.lost ≡ [])

  -- the rule
  pub record IsSlot (items : List (Standing M S O C)) (views : List (SlotView M S O C)) : Type 0 where
    pub home : Home M
    pub entries : List (Entry S O)
    pub later : List (Result (Entry S O) C)
    pub stopped : Bool
    pub parts : sum_by (λ v. v.parts) views ≡ all_parts
    pub one : length items + sum_by (λ v. held_count v.held) views ≡ 1
    pub stands : AreStates home entries later stopped items
    pub calls : AreAllOf entries (flat_map (λ v. v.calls) views)
    pub late : AreAllOf (entries_in later) (flat_map (λ v. v.late) views)
    pub lost : AreAllOf (lost_in later) (flat_map (λ v. v.lost) views)
    pub count : losses later ≡ sum_by (λ v. v.refused) views
    pub blame : stopped ≡ true → 0 < sum_by (λ v. v.refused) views
    pub fits : (i : ℕ) (v : SlotView M S O C) → get_elem? views i ≡ some v → Fits home entries later stopped v

  -- the machine went out: all calls of this seat are of what it did, which is a run
  pub record Taken (v : SlotView M S O C) (s : Standing M S O C) (w : SlotView M S O C) : Type 0 where
    pub entries : List (Entry S O)
    pub later : List (Result (Entry S O) C)
    pub after :
        w ≡ seat_view v.parts v.home (Some (with_history entries later s)) v.calls v.late v.bare v.refused v.lost
    pub home : 0 < v.parts → IsAtHome steps v.home (with_history entries later s)
    pub history : 0 < v.parts → HasHistory v.home (with_history entries later s)
    pub kept : 0 < v.parts → s.entries ≡ stored v.home.keeps entries
    pub calls : AreFrom entries v.calls
    pub blank : 0 < v.bare → s.stopped ≡ true
    pub late : AreFrom (entries_in later) v.late
    pub lost : AreFrom (lost_in later) v.lost
    pub whole : v.parts ≡ all_parts → IsWhole v (with_history entries later s)

module _ {M S O C : Type 0} (steps : M → S → O → M → Type 0) where
  -- the machine that this seat has out, after a step
  pub record IsSteppedBy (v : SlotView M S O C) (s : Standing M S O C) : Type 0 where
    pub old : Standing M S O C
    pub step : S
    pub outcome : O
    pub part : 0 < v.parts
    pub held : v.held ≡ Some old
    pub same : (s.number ≡ old.number) × (s.keeps ≡ old.keeps)
    pub kept : s.entries ≡ stored v.home.keeps (added s.stopped old.entries (entry step outcome))
    pub last : s.last ≡ Some (entry step outcome)
    pub stays : s.stopped ≡ old.stopped
    pub stepped : steps old.machine step outcome s.machine

module _ {M S O C : Type 0} where
  -- the machine that this seat has out, with no entry more
  pub record IsBackWith (old : Standing M S O C) (v : SlotView M S O C) (s : Standing M S O C) : Type 0 where
    pub part : 0 < v.parts
    pub held : v.held ≡ Some old
    pub same : (s.number ≡ old.number) × (s.keeps ≡ old.keeps)
    pub kept : s.entries ≡ stored v.home.keeps old.entries

  -- after a call was refused memory
  abbrev pub IsStoppedBy : (C → S → Type 0) → (M → S → O → M → Type 0) → (C → M → M → Type 0) → SlotView M S O C →
      Standing M S O C → Type 0
  IsStoppedBy asks steps loses v s =
      (old : Standing M S O C) × (call : C) × IsBackWith old v s × (s.stopped ≡ true) × (s.asked ≡ Some call)
      × IsLossOf asks steps loses call old.machine s.machine

  -- as it was
  abbrev pub IsReturnedBy : SlotView M S O C → Standing M S O C → Type 0
  IsReturnedBy v s =
      (old : Standing M S O C) × IsBackWith old v s × (s.machine ≡ old.machine) × (s.stopped ≡ old.stopped)
