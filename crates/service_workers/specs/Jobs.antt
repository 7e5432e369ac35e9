-- What the threads of a service did to the shards and to the lane between them. This project's own rule.
use Rattle.std.specs.Prelude.{◌≡◌, ℕ, ◌⊎◌, List, [], ◌∷◌, ◌++◌, map, flat_map, Option, Some, option_to_list, slice_get, All, Contains}
use Rattle.std.specs.List.{AllZip}
use Rattle.export_edge.specs.Work.{Through, Turn, moment_of, jobs_in, Hands, Handed, attempts}
use Rattle.http_edge.specs.Message.{Request, Response}
use Rattle.job_lane.specs.declared.job.Job.{Job}
use Rattle.job_lane.specs.Lane.{SeatLists, IsWholeRun}
use Rattle.job_lane.specs.Law.{all_pops}
use Rattle.log_positions.specs.Numbered.{items_of}
use Rattle.service_runtime.specs.Moments.{Rises}
use Rattle.shard_machine.specs.Run.{Logged}
use Rattle.shared_hub.specs.Logs.{CallerState, Seat}
use Rattle.tail_settings.specs.Settings.{SettingsData}
use Rattle.tenant_shard.specs.declared.step.Outcome.TheVariants as outcomes
use Rattle.service_context.specs.Post.{IsHandled}
use Rattle.service_context.specs.Looks.{OnlyLooks}
use Rattle.service_context.specs.Work.{MakesTurn, TakesAnswer, RefusesAnswer}

-- A turner, whose caller had made no call: its calls were these turns of one shard, none at a moment below the one
-- before, and their jobs, in order, are those that its seat pushed, each once, and one that it may have held at the
-- end.
pub record IsTurner (fresh caller : CallerState) (seat : SeatLists) : Type 0 where
  pub shard : ℕ
  pub made : List Turn
  pub runs : Through (λ old t new. MakesTurn old new shard t) fresh made caller
  pub before : ℕ
  pub last : ℕ
  pub moments : Rises before (map moment_of made) last
  pub held : Option Job
  pub jobs : flat_map jobs_in made ≡ items_of seat.pushes ++ option_to_list held
  pub no_pops : seat.pops ≡ []

-- A sender, whose caller had made no call: for each job that its seat popped, in order, its calls handed in one answer
-- to the shard of the job's own tenant, until it was taken, none at a moment below the one before.
pub record IsSender (shards : ℕ) (fresh caller : CallerState) (seat : SeatLists) : Type 0 where
  pub sent : List Handed
  pub handing : Through
      (Hands (λ old g new. TakesAnswer old new shards g) (λ old g new. RefusesAnswer old new shards g))
      fresh sent caller
  pub before : ℕ
  pub last : ℕ
  pub moments : Rises before (flat_map attempts sent) last
  pub jobs : map (λ h. h.post.job) sent ≡ items_of seat.pops
  pub no_pushes : seat.pushes ≡ []

-- nothing was done at the lane
pub record IsApart (seat : SeatLists) : Type 0 where
  pub no_pushes : seat.pushes ≡ []
  pub no_pops : seat.pops ≡ []

-- a message that was handled, and what its sender was told
pub record Handling : Type 0 where
  pub request : Request
  pub told : Response

-- Who handles messages by calls of a caller, each at a moment of a beat, handled this one: these are its calls and its
-- beat's last moment, before and after.
abbrev pub Handles : SettingsData → ℕ → CallerState × ℕ → Handling → CallerState × ℕ → Type 0
Handles first shards old handling new =
    IsHandled first old.1 new.1 old.0 new.0 shards handling.request handling.told

-- A receiver, whose caller had made no call: its calls were those by which it handled these messages, in order, none at
-- a moment below the one before.
pub record IsReceiver (first : SettingsData) (shards : ℕ) (fresh caller : CallerState) : Type 0 where
  pub handled : List Handling
  pub before : ℕ
  pub last : ℕ
  pub runs : Through (Handles first shards) (fresh, before) handled (caller, last)

-- What a thread with a seat at the lane did: a turner's work, or a sender's; or it did nothing at the lane, and no call
-- at all, or a receiver's work, or its calls asked for counters alone, at the admin port.
pub data IsThread (first : SettingsData) (shards : ℕ) (fresh caller : CallerState) (seat : SeatLists) : Type 0 where
  turner : IsTurner fresh caller seat → IsThread first shards fresh caller seat
  sender : IsSender shards fresh caller seat → IsThread first shards fresh caller seat
  idle : IsApart seat → caller ≡ fresh → IsThread first shards fresh caller seat
  receiver : IsApart seat → IsReceiver first shards fresh caller → IsThread first shards fresh caller seat
  admin : IsApart seat → OnlyLooks shards fresh caller → IsThread first shards fresh caller seat

-- one of the callers has no seat, and each other one was a thread's that had one of these
pub record AreThreads (first : SettingsData) (shards : ℕ) (fresh : CallerState) (callers : List CallerState)
    (seats : List SeatLists) : Type 0 where
  pub own : CallerState
  pub others : List CallerState
  pub callers_are : callers ≡ own ∷ others
  pub each : AllZip (IsThread first shards fresh) others seats

-- one of this caller's calls, before its shard was refused memory or after, gave this job
pub record HasGiven (caller : CallerState) (job : Job) : Type 0 where
  pub shard : ℕ
  pub seat : Seat
  pub at : slice_get caller shard ≡ Some seat
  pub noted : ℕ × Logged
  pub among : Contains seat.calls noted ⊎ Contains seat.late noted
  pub outcome : noted.1.outcome ≡ outcomes.Job job.tenant job.ticket job.payload

-- one of these callers' calls did
abbrev pub WasGiven : List CallerState → Job → Type 0
WasGiven callers job = (caller : CallerState) × Contains callers caller × HasGiven caller job

-- each job that was popped from such a lane is one that a call of these callers gave
abbrev pub PoppedWereGiven : Type 0
PoppedWereGiven = (first : SettingsData) (shards : ℕ) (fresh : CallerState) (callers : List CallerState)
    (seats : List SeatLists) (taken left : ℕ) → AreThreads first shards fresh callers seats →
    IsWholeRun seats taken left →
    All (λ p. WasGiven callers p.1) (all_pops seats)
