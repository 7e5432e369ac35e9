-- One tenant's settings, and how they are read from its table: keys in this order, the first fault being the answer.
-- The tables are those of the Collector's tailsamplingprocessor, batchprocessor and exporterhelper (their READMEs); the
-- order is this project's own rule.
use Rattle.std.specs.Prelude.{codes, ℕ, ◌^◌, List, Result, Ok, string_bytes}
use Rattle.toml.specs.Data.{Members}
use Rattle.tail_settings.specs.declared.section.Section.{Section}
use Rattle.tail_settings.specs.Fault.{FaultData, ◌>>=◌}
use Rattle.tail_settings.specs.Keys.{number_at}
use Rattle.tail_settings.specs.Texts.{address_at}
use Rattle.tail_settings.specs.TailSampling.{TailSamplingData, tail_sampling_view, tail_sampling_of}
use Rattle.tail_settings.specs.Batch.{BatchData, batch_view, batch_of}
use Rattle.tail_settings.specs.SendingQueue.{SendingQueueData, sending_queue_view, sending_queue_of}
use Rattle.tail_settings.specs.RetryOnFailure.{RetryData, retry_view, retry_of}

-- where the tenant's batches go, how many spans it may hold, the seed of its random words, and its tables
pub record SectionData : Type 0 where
  pub endpoint : List ℕ
  pub max_spans : ℕ
  pub seed : ℕ
  pub tail_sampling : TailSamplingData
  pub batch : BatchData
  pub sending_queue : SendingQueueData
  pub retry_on_failure : RetryData

-- what a Rust value says
abbrev pub section_view : Section → SectionData
section_view s = record {
  endpoint = string_bytes s.endpoint;
  max_spans = s.max_spans;
  seed = s.seed;
  tail_sampling = tail_sampling_view s.tail_sampling;
  batch = batch_view s.batch;
  sending_queue = sending_queue_view s.sending_queue;
  retry_on_failure = retry_view s.retry_on_failure;
}

-- the table of a tenant, or its first fault
unfoldable pub section_of : Members → Result SectionData FaultData
section_of tenant = do
  endpoint ← address_at (codes "endpoint") (codes "127.0.0.1:4319") tenant
  max_spans ← number_at (codes "max_spans") 1 (2 ^ 31) 100000 tenant
  seed ← number_at (codes "seed") 0 (2 ^ 62) 0 tenant
  tail_sampling ← tail_sampling_of tenant
  batch ← batch_of tenant
  sending_queue ← sending_queue_of tenant
  retry_on_failure ← retry_of tenant
  Ok (record {
    endpoint = endpoint;
    max_spans = max_spans;
    seed = seed;
    tail_sampling = tail_sampling;
    batch = batch;
    sending_queue = sending_queue;
    retry_on_failure = retry_on_failure;
  })
