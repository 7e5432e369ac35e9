-- Runs of a state machine, as its log has them. This project's own rule.
use Rattle.std.specs.Prelude.{◌≡◌, ◌⊎◌, ℕ, ◌+◌, List, [], ◌∷◌, ◌++◌, length, Bool, true, false, Option, Some, None, Result, Ok, Err}
use Rattle.machine_hub.specs.declared.entry.Entry.{Entry}
use Rattle.machine_hub.specs.declared.view.Standing.{Standing}

-- an entry of a log
abbrev pub entry : {S O : Type 0} → S → O → Entry S O
entry step outcome = record { step = step; outcome = outcome }

-- those of a log that keeps nothing
abbrev pub no_entries : (S O : Type 0) → List (Entry S O)
no_entries S O = []

-- the entries lead a machine from one state to another, each by a step that gave its outcome
abbrev pub Runs : {M S O : Type 0} → (M → S → O → M → Type 0) → M → List (Entry S O) → M → Type 0
Runs steps start [] end = start ≡ end
Runs {M} steps start (e ∷ es) end = (next : M) × steps start e.step e.outcome next × Runs steps next es end

-- the entries are a run from a start. Unless the log is stopped, it leaves what the machine is now
pub record RunsFrom {M S O : Type 0} (steps : M → S → O → M → Type 0)
    (start : M) (entries : List (Entry S O)) (stopped : Bool) (now : M) : Type 0 where
  pub middle : M
  pub run : Runs steps start entries middle
  pub now_is : stopped ≡ false → middle ≡ now

-- this call was refused memory: nothing happened; or the machine is what want of memory leaves at this call; or a step
-- that the call asks for was made, and nobody was told what it gave
abbrev pub IsLossOf : {M S O C : Type 0} → (C → S → Type 0) → (M → S → O → M → Type 0) → (C → M → M → Type 0) →
    C → M → M → Type 0
IsLossOf {M} {S} {O} asks steps loses call old new =
    (new ≡ old) ⊎ (loses call old new ⊎ ((step : S) × (outcome : O) × asks call step × steps old step outcome new))

-- what happened leads a machine from one state to another: steps that gave their outcomes, and calls that were refused
-- memory, each of which left what such a call may leave
abbrev pub RunsWithLosses : {M S O C : Type 0} → (C → S → Type 0) → (M → S → O → M → Type 0) →
    (C → M → M → Type 0) → M → List (Result (Entry S O) C) → M → Type 0
RunsWithLosses asks steps loses start [] end = start ≡ end
RunsWithLosses {M} asks steps loses start (Err call ∷ hs) end =
    (next : M) × IsLossOf asks steps loses call start next × RunsWithLosses asks steps loses next hs end
RunsWithLosses {M} asks steps loses start (Ok e ∷ hs) end =
    (next : M) × steps start e.step e.outcome next × RunsWithLosses asks steps loses next hs end

-- the entries of the steps in it
abbrev pub entries_in : {E C : Type 0} → List (Result E C) → List E
entries_in [] = []
entries_in (Err call ∷ hs) = entries_in hs
entries_in (Ok e ∷ hs) = e ∷ entries_in hs

-- the calls in it that were refused memory
abbrev pub lost_in : {E C : Type 0} → List (Result E C) → List C
lost_in [] = []
lost_in (Err call ∷ hs) = call ∷ lost_in hs
lost_in (Ok e ∷ hs) = lost_in hs

-- how many these are
abbrev pub losses : {E C : Type 0} → List (Result E C) → ℕ
losses [] = 0
losses (Err call ∷ hs) = losses hs + 1
losses (Ok e ∷ hs) = losses hs

-- what a machine did from its start: a run, which are these entries, until memory was refused, and what happened later
pub record IsHistory {M S O C : Type 0} (asks : C → S → Type 0) (steps : M → S → O → M → Type 0)
    (loses : C → M → M → Type 0) (start : M) (entries : List (Entry S O)) (later : List (Result (Entry S O) C))
    (stopped : Bool) (now : M) : Type 0 where
  pub middle : M
  pub run : Runs steps start entries middle
  pub later_run : RunsWithLosses asks steps loses middle later now
  pub clean : stopped ≡ false → later ≡ []

-- what a step leaves in the log, and what is given of it: its entry, which is the last, with its position; or none,
-- where the log keeps nothing or was stopped before
abbrev pub IsLogged : {M S O C : Type 0} →
    Standing M S O C → Standing M S O C → Entry S O → Option (ℕ × Entry S O) → Type 0
IsLogged old new e None =
    (new.entries ≡ old.entries) × (new.stopped ≡ old.stopped) × (old.keeps ≡ true → old.stopped ≡ true)
IsLogged old new e (Some given) =
    (given ≡ (length old.entries, e)) × (new.entries ≡ old.entries ++ e ∷ [])
    × (old.stopped ≡ false) × (new.stopped ≡ false) × (old.keeps ≡ true)

-- a call made one step, which it asked for, and the log has it where it keeps
abbrev pub IsMade : {C M S O : Type 0} → (C → S → Type 0) → (M → S → O → M → Type 0) →
    C → Standing M S O C → Standing M S O C → O → Option (ℕ × Entry S O) → Type 0
IsMade {C} {M} {S} asks steps call old new outcome given =
    (step : S) × asks call step × steps old.machine step outcome new.machine
    × (new.last ≡ Some (entry step outcome)) × IsLogged old new (entry step outcome) given
