-- What the contexts of threads do to the shards. This project's own rule.
use Rattle.std.specs.Prelude.{◌≡◌, ℕ, ◌%◌, ◌⊎◌, Option}
use Rattle.export_edge.specs.declared.work.TurnResult.{TurnResult}
use Rattle.export_edge.specs.declared.work.TurnResult.TheVariants as turned
use Rattle.export_edge.specs.Work.{Turn, Given}
use Rattle.job_lane.specs.Lane.{LaneName, lane_name}
use Rattle.machine_hub.specs.declared.receipt.Receipt.{Receipt}
use Rattle.machine_hub.specs.Hub.{IsRefusedOn}
use Rattle.send_retry.specs.declared.answer.Answer.{Answer}
use Rattle.send_retry.specs.Class.{answer_view}
use Rattle.shared_hub.specs.Logs.{CallerState, IsStepOn, IsAnswerOn}
use Rattle.tenant_registry.specs.Noted.{no_table}
use Rattle.tenant_shard.specs.declared.step.Step.TheVariants as steps
use Rattle.tenant_shard.specs.declared.step.Outcome.{Outcome}
use Rattle.tenant_shard.specs.declared.step.Outcome.TheVariants as outcomes

-- what a turn's outcome is to who made it
abbrev pub turned_of : Outcome → TurnResult
turned_of (outcomes.Job tenant ticket payload) =
    turned.Job (record { tenant = tenant; ticket = ticket; payload = payload })
turned_of (outcomes.Worked tenant) = turned.Worked
turned_of _ = turned.Idle

-- one turn of a shard was made, and came to this; or it was refused memory, which looks like a turn with nothing to do
pub data MakesTurn (old new : CallerState) (shard : ℕ) (t : Turn) : Type 0 where
  made : (outcome : Outcome) (receipt : Option Receipt) → IsStepOn old new shard (steps.Turn t.now) outcome receipt
      → t.came_to ≡ turned_of outcome → MakesTurn old new shard t
  refused : IsRefusedOn old new shard → t.came_to ≡ turned.Idle → MakesTurn old new shard t

-- one answer was made to its tenant's shard, and was heard
pub record TakesAnswer (old new : CallerState) (shards : ℕ) (g : Given) : Type 0 where
  pub answer : Answer
  pub answer_is : answer_view answer ≡ g.answer
  pub outcome : Outcome
  pub receipt : Option Receipt
  pub made : IsAnswerOn old new (g.tenant % shards) g.tenant g.now g.ticket answer outcome receipt

-- memory was refused, before the answer was handed in or then
abbrev pub RefusesAnswer : CallerState → CallerState → ℕ → Given → Type 0
RefusesAnswer old new shards g = (new ≡ old) ⊎ IsRefusedOn old new (g.tenant % shards)

-- the name of no lane
abbrev pub no_lane : LaneName
no_lane = lane_name no_table 0
