-- Entries of a shard's log, however they are kept. This project's own rule.
use Rattle.std.specs.Prelude.{ℕ, List}
use Rattle.std.specs.Arc.{arc_value}
use Rattle.prepared_body.specs.Prepared.{PreparedData}
use Rattle.machine_hub.specs.Runs.{entry}
use Rattle.shard_machine.specs.Run.{Logged}
use Rattle.shard_machine.specs.declared.step.WordSource.{WordSource}
use Rattle.tenant_shard.specs.declared.step.Step.TheVariants as steps
use Rattle.tenant_shard.specs.declared.step.Outcome.{Outcome}
use Rattle.tenant_shard.specs.declared.step.Outcome.TheVariants as outcomes
use Rattle.audit_log.specs.declared.entry.Kept.{Kept}
use Rattle.audit_log.specs.declared.entry.Kept.TheVariants as kept

-- a body was posted, with this outcome
abbrev pub posted : ℕ → PreparedData → WordSource → Outcome → Logged
posted now prepared word outcome = entry (record { step = steps.Post now prepared; word = word }) outcome

-- a turn gave a job
abbrev pub handed_out : ℕ → WordSource → ℕ → ℕ → List ℕ → Logged
handed_out now word tenant ticket payload =
    entry (record { step = steps.Turn now; word = word }) (outcomes.Job tenant ticket payload)

-- the entry
abbrev pub entry_in : Kept → Logged
entry_in (kept.Whole whole) = arc_value whole
entry_in (kept.Post post) = posted post.value.moment post.value.body post.value.word post.value.outcome
entry_in (kept.Job job) =
    handed_out job.value.moment job.value.word job.value.tenant job.value.ticket job.value.payload
