-- How full a tenant is, and how full it may be (the Collector's tailsamplingprocessor keeps at most `num_traces`
-- traces, and its exporterhelper queues at most `queue_size` batches, or bytes where that is its `sizer`). Each limit
-- is the one that the rule by which something is lost compares with: `evicted` and `come` of `tenant_rules`, `is_full`
-- of `send_queue`.
use Rattle.std.specs.Prelude.{ℕ, ◌+◌, length, if◌then◌else◌}
use Rattle.tenant_rules.specs.Sender.{payload_bytes}
use Rattle.tenant_rules.specs.State.{State}
use Rattle.tenant_pipeline.specs.declared.usage.Usage.{Usage}

-- how many rows are present: those that were decided, and those that wait
abbrev pub rows_present : State → ℕ
rows_present s = length s.settled + length s.waiting

-- how many bytes the batches that wait have together; none are counted after a drain, when bytes don't bound the
-- batches, of which not all are written
abbrev pub bytes_waiting : State → ℕ
bytes_waiting s = if s.drained then 0 else payload_bytes s.sender.queue

-- how full it is, and how full it may be
abbrev pub usage_of : State → Usage
usage_of s = record {
  rows = rows_present s;
  undecided_rows = length s.waiting;
  rows_limit = s.section.tail_sampling.num_traces;
  spans_limit = s.section.max_spans;
  queued_batches = length s.sender.queue;
  queued_batches_limit = s.sender.sending.queue_size;
  queued_bytes = bytes_waiting s;
  queued_bytes_limit = s.sender.sending.queue_bytes;
}

-- that of nobody
abbrev pub no_usage : Usage
no_usage = record {
  rows = 0;
  undecided_rows = 0;
  rows_limit = 0;
  spans_limit = 0;
  queued_batches = 0;
  queued_batches_limit = 0;
  queued_bytes = 0;
  queued_bytes_limit = 0;
}
