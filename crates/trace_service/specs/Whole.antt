-- What a service comes to, from its start to its end. This project's own rule.
use Rattle.std.specs.Prelude.{◌≡◌, ℕ, ◌≤◌, List, ◌∷◌, length, Bool, Option, Some, Result, IfOk, slice_get, All}
use Rattle.atomic_table.specs.Seated.{TableId}
use Rattle.job_lane.specs.Lane.{SeatLists, IsWholeRun}
use Rattle.machine_hub.specs.declared.view.Home.{Home}
use Rattle.machine_hub.specs.Hub.{AreShardRuns, new_caller}
use Rattle.otlp_front.specs.Route.{names_in}
use Rattle.service_runtime.specs.Documents.{Reads}
use Rattle.service_runtime.specs.Output.{Output}
use Rattle.shard_machine.specs.MachineState.{MachineState, MachineDoes}
use Rattle.shared_hub.specs.Logs.{CallerState, LoggedShard, AreLogged, AreOneRun, AreOneHistory}
use Rattle.shared_hub.specs.Shards.{AreOpened}
use Rattle.tail_settings.specs.Settings.{SettingsData}
use Rattle.tenant_registry.specs.Roster.{Present}
use Rattle.trace_service.specs.Audit.{audit_text, IsFollowed}
use Rattle.service_control.specs.Comings.{unchanged}
use Rattle.service_control.specs.Commands.{AreInForce}
use Rattle.service_workers.specs.Jobs.{AreThreads}
use Rattle.service_control.specs.Directed.{IsDirected}

-- of a hub's callers, which had made no call, one did that, and nobody changed the settings before
pub record IsCourse (port : Bool) (reads : Reads) (first : SettingsData) (present : Present) (shards : ℕ)
    (input : Option (List ℕ)) (fresh : CallerState) (so_far : Output) (callers : List CallerState) (written : Output)
    : Type 0 where
  pub before : ℕ
  pub last : ℕ
  pub own : CallerState
  pub others : List CallerState
  pub callers_are : callers ≡ own ∷ others
  pub directed : IsDirected port reads first (unchanged present) shards input fresh before so_far own last written

-- so it was where the input didn't fail: so many answers were lost, and none before
abbrev pub IsCourseIfOk : {E : Type 0} → Bool → Reads → SettingsData → Present → ℕ → Option (List ℕ) → CallerState
    → Option (List ℕ) → List CallerState → Option (List ℕ) → Result ℕ E → Type 0
IsCourseIfOk port reads first present shards input fresh so_far callers written result =
    IfOk result (λ lost. IsCourse port reads first present shards input fresh (so_far, 0) callers (written, lost))

-- What a service did to its shards, and what it wrote, with an admin port or without: there was a hub of the settings'
-- shards, and one of its callers, which had made no call before, read the input and wrote what its calls at these
-- shards gave; who was present at the input's end are the tenants of the settings that its changes made. All callers'
-- calls at a shard are one run of it, log or not, of which each tenant was told what its pipeline alone answers to its
-- own steps, and from its first want of memory on one history. The other callers were threads', with all seats of one
-- lane: the jobs that were pushed there are those of turns that these callers made, each that was popped is one of
-- them, and so many were popped and so many are left. Where an audit is asked for the logs keep, and their lines were
-- written last, each shard's under its number; else they keep nothing. So many of what was to be written were lost:
-- where that is none, all was written.
pub record IsServed (port : Bool) (reads : Reads) (table : SettingsData) (audit : Bool)
    (input so_far written : Option (List ℕ)) (lost : ℕ) : Type 0 where
  pub slots : List TableId
  pub homes : List (Home MachineState)
  pub opened : AreOpened table homes
  pub callers : List CallerState
  pub text : Output
  pub course : IsCourse port reads table (names_in table).tenants table.global.shards input (new_caller slots homes)
      (so_far, 0) callers text
  pub in_force : AreInForce table course.directed.left
  pub shards : List LoggedShard
  pub calls : AreShardRuns MachineDoes homes callers shards
  pub one_run : AreOneRun table callers
  pub one_history : AreOneHistory table callers shards
  pub seats : List SeatLists
  pub threads : AreThreads table table.global.shards (new_caller slots homes) callers seats
  pub taken : ℕ
  pub left : ℕ
  pub lane : IsWholeRun seats taken left
  pub room : left ≤ table.global.lane_size
  pub logged : AreLogged table shards
  pub count : length shards ≡ table.global.shards
  pub numbered : (k : ℕ) (s : LoggedShard) → slice_get shards k ≡ Some s → s.number ≡ k
  pub kept : All (λ s. s.keeps ≡ audit) shards
  pub lines : IsFollowed audit (audit_text shards) text (written, lost)
