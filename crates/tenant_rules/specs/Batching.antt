-- The batches that a tenant's groups make (the Collector's batchprocessor).
use Rattle.std.specs.Prelude.{ℕ, ◌+◌, List, [], ◌∷◌, map, length, Option}
use Rattle.tail_settings.specs.Section.{SectionData}
use Rattle.span_batcher.specs.Batches.{Rules, Batch, batches}
use Rattle.span_batcher.specs.State as batcher
use Rattle.tenant_rules.specs.Arrivals.{Arrival}
use Rattle.tenant_rules.specs.Rows.{Taken}
use Rattle.tenant_rules.specs.Fate.{WaitingData, waiting}
use Rattle.tenant_rules.specs.Placement.{opened, spans_in_rows}
use Rattle.tenant_rules.specs.Groups.{groups}
use Rattle.tenant_rules.specs.ExportText.{export_text}
use Rattle.tenant_rules.specs.Sender.{BatchData}

-- the settings of a tenant's batches
abbrev pub rules_of : SectionData → Rules
rules_of section = record {
  timeout = section.batch.timeout;
  size = section.batch.send_batch_size;
  most = section.batch.send_batch_max_size;
}

-- a batch of these spans, as it is sent
abbrev pub as_sent : Batch Arrival → BatchData
as_sent batch = record { moment = batch.moment; spans = length batch.spans; payload = export_text batch.spans }

-- batches of these
abbrev pub all_sent : List (Batch Arrival) → List BatchData
all_sent bs = map as_sent bs

-- all batches that form by the moment, oldest first
unfoldable pub formed : SectionData → ℕ → Option ℕ → List Taken → List BatchData
formed section reached drain spans =
    all_sent (batches (rules_of section) reached drain (groups section reached drain spans))

-- the spans of groups that are in no batch by then, with the moment at which their timer started
unfoldable pub pending : SectionData → ℕ → Option ℕ → List Taken → batcher.State Arrival
pending section reached drain spans =
    batcher.state (rules_of section) reached drain (groups section reached drain spans)

-- the spans of rows that wait
abbrev pub spans_in : List WaitingData → ℕ
spans_in [] = 0
spans_in (row ∷ rows) = length row.spans + spans_in rows

-- the rows that wait at the moment
abbrev pub waiting_rows : SectionData → ℕ → Option ℕ → List Taken → List WaitingData
waiting_rows section reached drain spans =
    waiting section reached drain (spans_in_rows section spans) (length (opened section spans)) (opened section spans)

-- the spans that are held: on time in rows that wait, or in groups and in no batch
unfoldable pub held : SectionData → ℕ → Option ℕ → List Taken → ℕ
held section reached drain spans =
    spans_in (waiting_rows section reached drain spans) + length (pending section reached drain spans).spans
