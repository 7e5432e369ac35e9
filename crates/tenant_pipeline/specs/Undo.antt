-- How what a step has changed of its tenant's own is taken back. This project's own rule.
use Rattle.std.specs.Prelude.{◌≡◌, ◌≤◌, ℕ, length, take, Option, None, Some}
use Rattle.drop_ledger.specs.Ledger.{ledger_of}
use Rattle.span_batcher.specs.State as batcher
use Rattle.span_batcher.specs.Machine.{PlannedData, taken}
use Rattle.span_batcher.specs.Marks.{cut_back}
use Rattle.tenant_pipeline.specs.declared.pipeline.Pipeline.{Pipeline}
use Rattle.tenant_pipeline.specs.declared.undo.Undo.{Undo}
use Rattle.tenant_pipeline.specs.Outbox.{undone}

-- what was pending before the first group that filled a batch, where one did
abbrev pub before : Option (PlannedData ℕ) → batcher.State ℕ → batcher.State ℕ
before None b = b
before (Some former) b = taken former b

-- taken back, the tenant's own is what it was
pub record TakesBack (undo : Undo) (start own : Pipeline) : Type 0 where
  pub rows : undo.rows ≡ start.rows
  pub ledger : ledger_of undo.counters ≡ start.ledger
  pub batcher : cut_back undo.mark (before undo.former own.batcher) ≡ start.batcher
  pub mark : undo.mark.count ≤ length (before undo.former own.batcher).spans
  pub sender : undone undo.offers own.sender ≡ start.sender
  pub offers : undo.offers ≤ length own.sender.queue
  pub same : start ≡
      record own { rows = start.rows; ledger = start.ledger; batcher = start.batcher; sender = start.sender }

-- what is a tenant's own without the hits behind the first so many
abbrev pub hits_undone : ℕ → Pipeline → Pipeline
hits_undone n own = record own { caches = record (own.caches) { hits = take n own.caches.hits } }
