-- What contracts say of calls, and of the logs at the end. This project's own rule.
use Rattle.std.specs.Prelude.{◌≡◌, ◌≢◌, ◌⊎◌, ℕ, ◌<◌, ◌≤◌, sum_by, List, [], ◌∷◌, ◌++◌, map, length, Bool, true, false, Option, Some, None, Result, slice_get}
use Rattle.std.specs.Option.{option_or}
use Rattle.send_retry.specs.declared.answer.Answer.{Answer}
use Rattle.send_retry.specs.Class.{answer_view}
use Rattle.tail_settings.specs.Section.{SectionData}
use Rattle.tail_settings.specs.Settings.{SettingsData}
use Rattle.tenant_shard.specs.declared.step.Step.{Step}
use Rattle.tenant_shard.specs.declared.step.Outcome.{Outcome}
use Rattle.tenant_shard.specs.View.{kept_of}
use Rattle.tenant_shard.specs.Empty.{is_empty}
use Rattle.tenant_shard.specs.declared.waiting.Waiting.{Waiting}
use Rattle.tenant_shard.specs.Waiting.{IsWaiting}
use Rattle.tenant_shard.specs.Lives.{ShardStands}
use Rattle.tenant_shard.specs.Run.{Run, after_all}
use Rattle.tenant_shard.specs.Chain.{ShardRuns}
use Rattle.tenant_shard.specs.Outcomes.{Asked, Answer as Answered, named, named_in}
use Rattle.tenant_shard.specs.Alone.{alone, own_steps, told_to}
use Rattle.tenant_shard.specs.Table.{section_of, opened, members_of}
use Rattle.machine_hub.specs.declared.view.Standing.{Standing}
use Rattle.machine_hub.specs.Runs.{entry, entries_in, lost_in, losses, IsHistory}
use Rattle.machine_hub.specs.Slot.{with_history}
use Rattle.machine_hub.specs.Seats.{SeatState, HasCalls}
use Rattle.machine_hub.specs.declared.receipt.Receipt.{Receipt}
use Rattle.machine_hub.specs.declared.told.Told.{Told}
use Rattle.machine_hub.specs.Hub.{IsCallOn, IsRefusalOn, IsToldOn, seats_at, AreCallsOf, AreLateCallsOf, AreLostCallsOf}
use Rattle.shard_machine.specs.declared.step.Call.{Call}
use Rattle.shard_machine.specs.declared.step.Call.TheVariants as calls
use Rattle.shard_machine.specs.declared.step.LoggedStep.{LoggedStep}
use Rattle.shard_machine.specs.Drawing.{IsLost}
use Rattle.shard_machine.specs.MachineState.{MachineState, AsksFor, MachineDoes, started}
use Rattle.shard_machine.specs.Run.{Logged, steps_of, outcomes_of, drawn_for, section_in, AreFirstWords}
use Rattle.shared_hub.specs.Shards.{IsFresh}

-- a caller's seat at a shard
abbrev pub Seat : Type 0
Seat = SeatState MachineState LoggedStep Outcome Call

-- a caller, by its seats at the shards
abbrev pub CallerState : Type 0
CallerState = List Seat

-- a shard with its log
abbrev pub LoggedShard : Type 0
LoggedShard = Standing MachineState LoggedStep Outcome Call

-- a call made this step of a shard, with this outcome and this receipt
abbrev pub IsStepOn : CallerState → CallerState → ℕ → Step → Outcome → Option Receipt → Type 0
IsStepOn old new shard step outcome receipt =
    IsCallOn AsksFor MachineDoes IsLost old new shard (calls.Step step) outcome receipt

-- a call made the step of a back end's answer, for whose word its tenant's generator was asked
abbrev pub IsAnswerOn : CallerState → CallerState → ℕ → ℕ → ℕ → ℕ → Answer → Outcome → Option Receipt → Type 0
IsAnswerOn old new shard tenant now ticket answer outcome receipt =
    (copy : Answer) × (answer_view copy ≡ answer_view answer)
    × IsCallOn AsksFor MachineDoes IsLost old new shard (calls.Answer tenant now ticket copy) outcome receipt

-- a call for this step of a shard was refused memory, and left what this step leaves then
abbrev pub IsStepLostOn : CallerState → CallerState → ℕ → Step → Type 0
IsStepLostOn old new shard step = IsRefusalOn AsksFor MachineDoes IsLost old new shard (calls.Step step)

-- the same of the step of a back end's answer
abbrev pub IsAnswerLostOn : CallerState → CallerState → ℕ → ℕ → ℕ → ℕ → Answer → Type 0
IsAnswerLostOn old new shard tenant now ticket answer =
    (copy : Answer) × (answer_view copy ≡ answer_view answer)
    × IsRefusalOn AsksFor MachineDoes IsLost old new shard (calls.Answer tenant now ticket copy)

-- whether a tenant is empty in a shard
abbrev pub has_none : MachineState → ℕ → Bool
has_none shard tenant = is_empty (kept_of tenant shard.views)

-- what a tenant and its shard wait for
abbrev pub waits : MachineState → ℕ → Waiting → Type 0
waits shard tenant waiting = IsWaiting shard.views tenant waiting

-- at one moment of a call the tenant and its shard waited for this, and the shard had been refused memory or hadn't
abbrev pub IsLookOn : CallerState → ℕ → ℕ → Told Waiting → Type 0
IsLookOn caller shard tenant told = IsToldOn AsksFor MachineDoes IsLost waits caller shard tenant told

-- at one moment of a call the tenant was empty or wasn't
abbrev pub IsEmptyOn : CallerState → ℕ → ℕ → Bool → Type 0
IsEmptyOn caller shard tenant empty =
    (stopped : Bool) × IsToldOn AsksFor MachineDoes IsLost (λ s of answer. answer ≡ has_none s of) caller shard tenant
    (record { answer = empty; stopped = stopped })

-- the section of a tenant in such a log: the table's, where it was a member at first, or else the one with which it was
-- let in, where it was
abbrev pub section_in_log : SettingsData → List ℕ → List Logged → ℕ → Option SectionData
section_in_log table members entries tenant = option_or (section_of table members tenant) (section_in tenant entries)

-- entries are a run of a shard of these tenants from before its first step: one chain of what is kept. The outcomes are
-- those that the tenants' own steps say, each tenant, a member at first or one that came or nobody, was told exactly
-- what its life alone says of the steps that were its own, whoever else came and went, and the shard stands for these.
-- The words that were drawn for a tenant are in order the first of its own generator, which starts from its own seed,
-- and none was drawn for who never was a member
pub record IsLogOf (table : SettingsData) (members : List ℕ) (entries : List Logged) (last : MachineState)
    : Type 0 where
  pub first : MachineState
  pub fresh : IsFresh table members first
  pub runs : ShardRuns (steps_of entries) first.views (outcomes_of entries) last.views
  pub by_own_steps : Run (opened table members) (steps_of entries) (outcomes_of entries)
  pub each_alone : (tenant : ℕ) → told_to tenant (outcomes_of entries) ≡ map (named tenant)
      (alone (opened table members tenant) (own_steps tenant (steps_of entries) (outcomes_of entries)))
  pub stands : ShardStands (after_all (steps_of entries) (outcomes_of entries) (opened table members)) last.views
  pub words : (tenant : ℕ) →
      AreFirstWords (started (section_in_log table members entries tenant)) (drawn_for tenant entries)

-- a step that the call asked for, with this outcome, comes after these entries in such a run
pub record EndsARun (table : SettingsData) (members : List ℕ) (before : List Logged) (call : Call)
    (outcome : Outcome) : Type 0 where
  pub step : LoggedStep
  pub asked : AsksFor call step
  pub last : MachineState
  pub log : IsLogOf table members (before ++ entry step outcome ∷ []) last

-- whether or not a log keeps it, the step of a call that answered comes after all that the shard did in such a run, in
-- which all earlier calls of its caller are, so what is answered follows from the own steps of that run alone. It is
-- said of each call that its caller's seat doesn't count as one that came after memory was refused
abbrev pub EachCallEndsARun : Type 0
EachCallEndsARun = (table : SettingsData) (members : List ℕ) (old new : CallerState) (shard : ℕ) (call : Call)
    (outcome : Outcome) (receipt : Option Receipt)
    (made : IsCallOn AsksFor MachineDoes IsLost old new shard call outcome receipt) →
    IsFresh table members made.seat.home.start →
    (after : Seat) → slice_get new shard ≡ Some after → after.bare ≡ made.seat.bare →
    EndsARun table members made.made.old.entries call outcome

-- a tenant and its shard wait for this where such a run ends in which all earlier calls of this seat are
pub record SeesARun (table : SettingsData) (members : List ℕ) (seat : Seat) (tenant : ℕ) (waiting : Waiting)
    : Type 0 where
  pub entries : List Logged
  pub last : MachineState
  pub log : IsLogOf table members entries last
  pub calls : HasCalls entries seat
  pub waits_so : waits last tenant waiting

-- what is told of a tenant is so where such a run ends, unless it is told too that the shard was refused memory
abbrev pub EachLookSeesARun : Type 0
EachLookSeesARun = (table : SettingsData) (members : List ℕ) (caller : CallerState) (shard tenant : ℕ)
    (told : Told Waiting) (look : IsLookOn caller shard tenant told) → IsFresh table members look.0.home.start →
    told.stopped ≡ false → SeesARun table members look.0 tenant told.answer

-- what this shard did is such a run, and where its log keeps, that run is the log. Unless it was refused memory, the
-- run leaves what the shard is now
pub record IsLogged (table : SettingsData) (shard : ℕ) (s : LoggedShard) : Type 0 where
  pub entries : List Logged
  pub last : MachineState
  pub log : IsLogOf table (members_of table shard) entries last
  pub kept : s.keeps ≡ true → entries ≡ s.entries
  pub now_is : s.stopped ≡ false → last ≡ s.machine

-- so it is of each shard
abbrev pub AreLogged : SettingsData → List LoggedShard → Type 0
AreLogged table shards =
    (shard : ℕ) (s : LoggedShard) → slice_get shards shard ≡ Some s → IsLogged table shard s

-- all callers' calls at this shard are one such run, whether or not a log keeps it: each that answered before the shard
-- was refused memory is there once, with its step and outcome
pub record IsOneRun (table : SettingsData) (callers : List CallerState) (shard : ℕ) : Type 0 where
  pub entries : List Logged
  pub last : MachineState
  pub log : IsLogOf table (members_of table shard) entries last
  pub each : AreCallsOf entries (seats_at shard callers)

-- so it is at each shard
abbrev pub AreOneRun : SettingsData → List CallerState → Type 0
AreOneRun table callers = (shard : ℕ) → shard < table.global.shards → IsOneRun table callers shard

-- the tenant is none of these
abbrev pub IsSpared : ℕ → List ℕ → Type 0
IsSpared tenant [] = Unit {0}
IsSpared tenant (other ∷ others) = (other ≢ tenant) × IsSpared tenant others

-- the tenant that a call names; a turn names none
abbrev pub named_by : Call → Option ℕ
named_by (calls.Step step) = named_in step
named_by (calls.Answer tenant now ticket answer) = Some tenant

-- whom a call may cost that was refused memory: the tenant that it names, where it names one
abbrev pub MayCost : Option ℕ → ℕ → Type 0
MayCost None tenant = Unit {0}
MayCost (Some other) tenant = other ≡ tenant

-- in their order these calls cost these tenants, each the one whom it may cost or nobody
abbrev pub AreCosts : List Call → List ℕ → Type 0
AreCosts [] hit = hit ≡ []
AreCosts (call ∷ lost) hit =
    AreCosts lost hit ⊎ ((tenant : ℕ) × (rest : List ℕ) × (hit ≡ tenant ∷ rest) × MayCost (named_by call) tenant
    × AreCosts lost rest)

-- all that this shard answered: its entries before memory was refused and then those that came later
abbrev pub answered : LoggedShard → List Logged
answered s = s.entries ++ entries_in s.later

-- what a shard of these tenants did from before its first step, with the calls that were refused memory: one chain of
-- what is kept, in which each of these calls left what its own step may leave. Each costs one tenant at most, the one
-- that it names, and each other tenant was told exactly what its life alone says of the steps that were its own
pub record IsHistoryOf (table : SettingsData) (members : List ℕ) (s : LoggedShard) : Type 0 where
  pub first : MachineState
  pub fresh : IsFresh table members first
  pub history : IsHistory AsksFor MachineDoes IsLost first s.entries s.later s.stopped s.machine
  pub hit : List ℕ
  pub costs : AreCosts (lost_in s.later) hit
  pub few : length hit ≤ losses s.later
  pub each_alone : (tenant : ℕ) → IsSpared tenant hit →
      told_to tenant (outcomes_of (answered s)) ≡ map (named tenant)
      (alone (opened table members tenant) (own_steps tenant (steps_of (answered s)) (outcomes_of (answered s))))

-- all callers' calls at this shard are one such history, whether or not a log keeps it: each that answered is there
-- once, with its step and outcome, before memory was refused or after, and each that was refused memory is there once
pub record IsOneHistory (table : SettingsData) (callers : List CallerState) (shard : ℕ) (s : LoggedShard)
    : Type 0 where
  pub entries : List Logged
  pub later : List (Result Logged Call)
  pub log : IsHistoryOf table (members_of table shard) (with_history entries later s)
  pub each : AreCallsOf entries (seats_at shard callers)
  pub each_late : AreLateCallsOf (entries_in later) (seats_at shard callers)
  pub each_lost : AreLostCallsOf (lost_in later) (seats_at shard callers)
  pub count : losses later ≡ sum_by (λ x. x.refused) (seats_at shard callers)

-- so it is at each shard
abbrev pub AreOneHistory : SettingsData → List CallerState → List LoggedShard → Type 0
AreOneHistory table callers shards =
    (shard : ℕ) (s : LoggedShard) → slice_get shards shard ≡ Some s → IsOneHistory table callers shard s

-- what a call's shard did, with the step of the call, is such a history, in which all earlier calls of its caller are,
-- also where memory was refused before
abbrev pub EachCallEndsAHistory : Type 0
EachCallEndsAHistory = (table : SettingsData) (members : List ℕ) (old new : CallerState) (shard : ℕ) (call : Call)
    (outcome : Outcome) (receipt : Option Receipt)
    (made : IsCallOn AsksFor MachineDoes IsLost old new shard call outcome receipt) →
    IsFresh table members made.seat.home.start → IsHistoryOf table members made.made.new

-- what the shard of a call did that was refused memory, with what this call left behind it, is such a history too
abbrev pub EachRefusalEndsAHistory : Type 0
EachRefusalEndsAHistory = (table : SettingsData) (members : List ℕ) (old new : CallerState) (shard : ℕ) (call : Call)
    (refused : IsRefusalOn AsksFor MachineDoes IsLost old new shard call) →
    IsFresh table members refused.seat.home.start → IsHistoryOf table members refused.lost.new

-- what is told of a tenant is so where such a history ends
abbrev pub EachLookSeesAHistory : Type 0
EachLookSeesAHistory = (table : SettingsData) (members : List ℕ) (caller : CallerState) (shard tenant : ℕ)
    (told : Told Waiting) (look : IsLookOn caller shard tenant told) →
    IsFresh table members look.0.home.start → IsHistoryOf table members look.2.0

-- what a tenant is told follows from its section at first, if it had one, and its own steps alone, whichever log it is,
-- whatever the other tenants' sections and steps, whoever else came and went, and whatever threads did
abbrev pub LogsTellByOwnSteps : Type 0
LogsTellByOwnSteps = (section : Option SectionData) (steps : List Asked) → (answers : List Answered)
    × ((table : SettingsData) (members : List ℕ) (entries : List Logged) (last : MachineState) →
    IsLogOf table members entries last → (tenant : ℕ) → section_of table members tenant ≡ section →
    own_steps tenant (steps_of entries) (outcomes_of entries) ≡ steps →
    told_to tenant (outcomes_of entries) ≡ map (named tenant) answers)
