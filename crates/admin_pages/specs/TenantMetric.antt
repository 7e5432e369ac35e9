-- What is told of a tenant in numbers, as those outside name it: by the words of a report's line and of JSON, and for
-- scrapers by the conventions of OpenMetrics 1.0 for names and types (a counter ends in `_total`, a gauge doesn't; the
-- base unit of time is the second), under the Collector's own name where it measures the same
-- (`sampling_traces_on_memory` of its tailsamplingprocessor, `queue_size` and `queue_capacity` of its exporterhelper,
-- which count batches).
use Rattle.std.specs.Prelude.{ℕ, Bool, true, false, List, [], ◌∷◌, Option, Some, option_map, codes}
use Rattle.admin_pages.specs.Figures.{TenantData}
use Rattle.admin_pages.specs.declared.tenant_metric.MetricKind.{MetricKind}
use Rattle.admin_pages.specs.declared.tenant_metric.MetricKind.TheVariants.{Counter, Gauge}
use Rattle.admin_pages.specs.declared.tenant_metric.TenantMetric.{TenantMetric}
use Rattle.admin_pages.specs.declared.tenant_metric.TenantMetric.TheVariants.{Accepted, Undecided, Pending, Queued, Active, Exported, NotSampled, TooEarly, QueueFull, RetryExhausted, BackEndRefused, BackEndRejected, Invalid, OverBudget, Rows, UndecidedRows, RowsLimit, SpansLimit, QueuedBatches, QueuedBatchesLimit, QueuedBytes, QueuedBytesLimit, Ready, BackEndStatus, BackEndStatusMoment}

-- the counters of its spans, in the order of a report's line
abbrev pub all_counters : List TenantMetric
all_counters =
    Accepted ∷ Undecided ∷ Pending ∷ Queued ∷ Active ∷ Exported ∷ NotSampled ∷ TooEarly ∷ QueueFull ∷ RetryExhausted ∷
    BackEndRefused ∷ BackEndRejected ∷ Invalid ∷ OverBudget ∷ []

-- all others, in the order in which they are told
abbrev pub all_others : List TenantMetric
all_others =
    Rows ∷ UndecidedRows ∷ RowsLimit ∷ SpansLimit ∷ QueuedBatches ∷ QueuedBatchesLimit ∷ QueuedBytes ∷
    QueuedBytesLimit ∷ Ready ∷ BackEndStatus ∷ BackEndStatusMoment ∷ []

-- what it is for a tenant, moments in milliseconds since the start; none where nothing waits, or nothing was answered
abbrev pub value_of : TenantMetric → TenantData → Option ℕ
value_of Accepted tenant = Some tenant.ledger.accepted
value_of Undecided tenant = Some tenant.ledger.places.undecided
value_of Pending tenant = Some tenant.ledger.places.pending
value_of Queued tenant = Some tenant.ledger.places.queued
value_of Active tenant = Some tenant.ledger.places.active
value_of Exported tenant = Some tenant.ledger.places.exported
value_of NotSampled tenant = Some tenant.ledger.places.not_sampled
value_of TooEarly tenant = Some tenant.ledger.places.too_early
value_of QueueFull tenant = Some tenant.ledger.places.queue_full
value_of RetryExhausted tenant = Some tenant.ledger.places.retry_exhausted
value_of BackEndRefused tenant = Some tenant.ledger.places.back_end_refused
value_of BackEndRejected tenant = Some tenant.ledger.places.back_end_rejected
value_of Invalid tenant = Some tenant.ledger.invalid
value_of OverBudget tenant = Some tenant.ledger.over_budget
value_of Rows tenant = Some tenant.usage.rows
value_of UndecidedRows tenant = Some tenant.usage.undecided_rows
value_of RowsLimit tenant = Some tenant.usage.rows_limit
value_of SpansLimit tenant = Some tenant.usage.spans_limit
value_of QueuedBatches tenant = Some tenant.usage.queued_batches
value_of QueuedBatchesLimit tenant = Some tenant.usage.queued_batches_limit
value_of QueuedBytes tenant = Some tenant.usage.queued_bytes
value_of QueuedBytesLimit tenant = Some tenant.usage.queued_bytes_limit
value_of Ready tenant = tenant.ready
value_of BackEndStatus tenant = option_map (λ answer. answer.status) tenant.back_end
value_of BackEndStatusMoment tenant = option_map (λ answer. answer.moment) tenant.back_end

-- its word in a report and in JSON
abbrev pub word_of : TenantMetric → List ℕ
word_of Accepted = codes "accepted"
word_of Undecided = codes "undecided"
word_of Pending = codes "pending"
word_of Queued = codes "queued"
word_of Active = codes "active"
word_of Exported = codes "exported"
word_of NotSampled = codes "not_sampled"
word_of TooEarly = codes "too_early"
word_of QueueFull = codes "queue_full"
word_of RetryExhausted = codes "retry_exhausted"
word_of BackEndRefused = codes "back_end_refused"
word_of BackEndRejected = codes "back_end_rejected"
word_of Invalid = codes "invalid"
word_of OverBudget = codes "over_budget"
word_of Rows = codes "rows"
word_of UndecidedRows = codes "undecided_rows"
word_of RowsLimit = codes "rows_limit"
word_of SpansLimit = codes "spans_limit"
word_of QueuedBatches = codes "queued_batches"
word_of QueuedBatchesLimit = codes "queued_batches_limit"
word_of QueuedBytes = codes "queued_bytes"
word_of QueuedBytesLimit = codes "queued_bytes_limit"
word_of Ready = codes "ready_at_ms"
word_of BackEndStatus = codes "back_end_status"
word_of BackEndStatusMoment = codes "back_end_status_at_ms"

-- the name of its metric
abbrev pub metric_of : TenantMetric → List ℕ
metric_of Accepted = codes "otelcol_receiver_accepted_spans_total"
metric_of Undecided = codes "nimchaes_undecided_spans"
metric_of Pending = codes "nimchaes_pending_spans"
metric_of Queued = codes "nimchaes_queued_spans"
metric_of Active = codes "nimchaes_active_spans"
metric_of Exported = codes "otelcol_exporter_sent_spans_total"
metric_of NotSampled = codes "nimchaes_not_sampled_spans_total"
metric_of TooEarly = codes "nimchaes_too_early_spans_total"
metric_of QueueFull = codes "otelcol_exporter_enqueue_failed_spans_total"
metric_of RetryExhausted = codes "nimchaes_retry_exhausted_spans_total"
metric_of BackEndRefused = codes "nimchaes_back_end_refused_spans_total"
metric_of BackEndRejected = codes "nimchaes_back_end_rejected_spans_total"
metric_of Invalid = codes "nimchaes_invalid_spans_total"
metric_of OverBudget = codes "nimchaes_over_budget_spans_total"
metric_of Rows = codes "otelcol_processor_tail_sampling_sampling_traces_on_memory"
metric_of UndecidedRows = codes "nimchaes_undecided_traces"
metric_of RowsLimit = codes "nimchaes_traces_limit"
metric_of SpansLimit = codes "nimchaes_spans_limit"
metric_of QueuedBatches = codes "otelcol_exporter_queue_size"
metric_of QueuedBatchesLimit = codes "otelcol_exporter_queue_capacity"
metric_of QueuedBytes = codes "nimchaes_queued_bytes"
metric_of QueuedBytesLimit = codes "nimchaes_queued_bytes_limit"
metric_of Ready = codes "nimchaes_ready_uptime_seconds"
metric_of BackEndStatus = codes "nimchaes_back_end_last_status"
metric_of BackEndStatusMoment = codes "nimchaes_back_end_last_status_uptime_seconds"

-- what a scraper is told that it is
abbrev pub help_of : TenantMetric → List ℕ
help_of Accepted = codes "Spans that were taken"
help_of Undecided = codes "Spans whose trace waits for its decision"
help_of Pending = codes "Spans that were kept and wait for a batch"
help_of Queued = codes "Spans in batches that wait to be sent"
help_of Active = codes "Spans in batches on their way or waiting for a retry"
help_of Exported = codes "Spans that the back end took"
help_of NotSampled = codes "Spans of traces that no policy kept"
help_of TooEarly = codes "Spans of traces that were pushed out before their decision"
help_of QueueFull = codes "Spans in batches that met a full queue or were too large"
help_of RetryExhausted = codes "Spans in batches that were tried for too long"
help_of BackEndRefused = codes "Spans in batches that the back end refused for good"
help_of BackEndRejected = codes "Spans that the back end left out of a batch that it took"
help_of Invalid = codes "Spans without a valid id, left out of posts that were taken"
help_of OverBudget = codes "Spans for which there was no room, left out of posts that were taken"
help_of Rows = codes "Traces that are present, undecided ones and decided ones"
help_of UndecidedRows = codes "Traces that wait for their decision"
help_of RowsLimit = codes "Traces that may be present"
help_of SpansLimit = codes "Spans that may wait for a decision or for a batch"
help_of QueuedBatches = codes "Batches that wait to be sent"
help_of QueuedBatchesLimit = codes "Batches that may wait to be sent"
help_of QueuedBytes = codes "Bytes of batches that wait to be sent or 0 after a drain"
help_of QueuedBytesLimit = codes "Bytes that batches may have that wait to be sent"
help_of Ready = codes "Seconds after the start at which something of the tenant is due next"
help_of BackEndStatus = codes "Status that the back end answered last or 0 if no whole answer came"
help_of BackEndStatusMoment = codes "Seconds after the start at which the back end answered last"

-- whether it only grows while the service runs
abbrev pub kind_of : TenantMetric → MetricKind
kind_of Accepted = Counter
kind_of Exported = Counter
kind_of NotSampled = Counter
kind_of TooEarly = Counter
kind_of QueueFull = Counter
kind_of RetryExhausted = Counter
kind_of BackEndRefused = Counter
kind_of BackEndRejected = Counter
kind_of Invalid = Counter
kind_of OverBudget = Counter
kind_of _ = Gauge

-- whether it is a moment
abbrev pub is_moment : TenantMetric → Bool
is_moment Ready = true
is_moment BackEndStatusMoment = true
is_moment _ = false

-- the word for a kind (the type of a family of metrics)
abbrev pub kind_word : MetricKind → List ℕ
kind_word Counter = codes "counter"
kind_word Gauge = codes "gauge"
