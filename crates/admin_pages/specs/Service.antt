-- Figures of a whole service for a scraper. Names and types are by the conventions of Prometheus and of OpenMetrics 1.0
-- (a counter ends in `_total`, and a figure with a unit has it in its name), and the Collector's for its process where
-- it measures the same.
use Rattle.std.specs.Prelude.{ℕ, List, [], ◌∷◌, ◌++◌, map, Option, Some, None, if◌then◌else◌, codes}
use Rattle.admin_pages.specs.Metrics.{measure_text, measures_text}
use Rattle.admin_pages.specs.Status.{counts_by_status}
use Rattle.admin_pages.specs.declared.tenant_metric.MetricKind.{MetricKind}
use Rattle.admin_pages.specs.declared.tenant_metric.MetricKind.TheVariants.{Counter, Gauge}
use Rattle.admin_pages.specs.declared.service.Measure.{Measure}
use Rattle.admin_pages.specs.declared.service.ServiceFigures.{ServiceFigures}
use Rattle.admin_pages.specs.declared.service.StatusCounts.{StatusCounts}

-- a family of one sample: its name, its help, its kind, and its figure
pub record MeasureData : Type 0 where
  pub name : List ℕ
  pub help : List ℕ
  pub kind : MetricKind
  pub value : ℕ

-- the one that the code's value stands for
abbrev pub measure_view : Measure → MeasureData
measure_view m = record { name = m.name.now; help = m.help.now; kind = m.kind; value = m.value }

-- a figure that goes up and down
abbrev pub gauge : List ℕ → List ℕ → ℕ → MeasureData
gauge name help value = record { name = name; help = help; kind = Gauge; value = value }

-- a figure that only grows
abbrev pub counter : List ℕ → List ℕ → ℕ → MeasureData
counter name help value = record { name = name; help = help; kind = Counter; value = value }

-- such families, one after the other
abbrev pub families_of : List MeasureData → List ℕ
families_of [] = []
families_of (m ∷ ms) = measure_text m.name m.help m.kind m.value ++ families_of ms

-- how the service stands
abbrev pub standing_of : ServiceFigures → List MeasureData
standing_of f =
    counter (codes "otelcol_process_uptime_seconds_total") (codes "Seconds since the start") f.uptime
    ∷ gauge (codes "nimchaes_tenants") (codes "Tenants that are present") f.tenants
    ∷ gauge (codes "nimchaes_draining") (codes "Whether a drain was asked for or has begun") (if f.is_draining then 1 else 0)
    ∷ counter (codes "nimchaes_memory_refusals_total")
    (codes "How often a post or a step or a sender of a batch was refused memory") f.counts.memory_refusals
    ∷ []

-- how batches leave it
abbrev pub sending_of : ServiceFigures → List MeasureData
sending_of f =
    counter (codes "nimchaes_turns_total")
    (codes "Turns of shards that looked whether a decision or a batch was ready") f.counts.turns
    ∷ counter (codes "nimchaes_idle_turns_total") (codes "Turns of shards that found nothing ready") f.counts.idle_turns
    ∷ gauge (codes "nimchaes_lane_jobs") (codes "Batches that wait for a sender") f.counts.lane_jobs
    ∷ gauge (codes "nimchaes_lane_capacity") (codes "Batches for which there is room before senders") f.lane_capacity
    ∷ gauge (codes "nimchaes_senders") (codes "Senders that there are") f.senders
    ∷ gauge (codes "nimchaes_senders_busy") (codes "Senders that have a batch") f.counts.senders_busy
    ∷ counter (codes "nimchaes_retries_total")
    (codes "Answers after which a batch is sent again unless it was tried for too long") f.counts.retries
    ∷ []

-- how bodies come to it
abbrev pub receiving_of : ServiceFigures → List MeasureData
receiving_of f =
    gauge (codes "nimchaes_receivers") (codes "Receivers that there are") f.receivers
    ∷ gauge (codes "nimchaes_connections_open") (codes "Connections that have a receiver") f.counts.connections_open
    ∷ counter (codes "nimchaes_connections_total") (codes "Connections that have or had a receiver") f.counts.connections
    ∷ counter (codes "nimchaes_received_bytes_total") (codes "Bytes that were read from clients") f.counts.received_bytes
    ∷ counter (codes "nimchaes_sent_bytes_total") (codes "Bytes that were written to clients") f.counts.sent_bytes
    ∷ []

-- the name and the kind of the family of the memory that the process has
abbrev pub memory_family : List ℕ × MetricKind
memory_family = (codes "otelcol_process_memory_rss_bytes", Gauge)

-- those of the family of the version that runs
abbrev pub build_family : List ℕ × MetricKind
build_family = (codes "nimchaes_build_info", Gauge)

-- those of the requests that were answered
abbrev pub requests_family : List ℕ × MetricKind
requests_family = (codes "nimchaes_requests_total", Counter)

-- those of the answers of back ends
abbrev pub answers_family : List ℕ × MetricKind
answers_family = (codes "nimchaes_back_end_answers_total", Counter)

-- what a scraper is told that the first of these four is
abbrev pub memory_help : List ℕ
memory_help = codes "Bytes of memory that the process has"

-- what it is told of the version
abbrev pub build_help : List ℕ
build_help = codes "The version that runs"

-- of the requests
abbrev pub requests_help : List ℕ
requests_help = codes "Requests that were answered by their status"

-- and of the answers of back ends
abbrev pub answers_help : List ℕ
answers_help = codes "Answers of back ends by their status"

-- the memory that the process has, where that is known
abbrev pub memory_text : Option ℕ → List ℕ
memory_text (Some bytes) =
    measure_text memory_family.0 memory_help memory_family.1 bytes
memory_text None = []

-- a figure for each class of HTTP's statuses
abbrev pub classes_of : StatusCounts → List (List ℕ × ℕ)
classes_of counts =
    (codes "2xx", counts.success) ∷ (codes "4xx", counts.client_error) ∷ (codes "5xx", counts.server_error)
    ∷ (codes "other", counts.other) ∷ []

-- a figure for each class of the statuses of back ends' answers, which may be any, behind one for batches to which no
-- whole answer came
abbrev pub answers_of : StatusCounts → ℕ → List (List ℕ × ℕ)
answers_of counts failed = (codes "none", failed) ∷ classes_of counts

-- what is told of the version that runs
abbrev pub build_text : List ℕ → List ℕ
build_text version =
    measures_text build_family.0 build_help build_family.1 (codes "version") ((version, 1) ∷ [])

-- the requests that were answered, by their statuses, under the label that Prometheus' own server and clients have for
-- these
abbrev pub requests_text : List ℕ → List ℕ
requests_text counts =
    measures_text requests_family.0 requests_help requests_family.1
    (codes "code") (counts_by_status counts)

-- the answers of back ends, by their statuses
abbrev pub answers_text : StatusCounts → ℕ → List ℕ
answers_text counts failed =
    measures_text answers_family.0 answers_help answers_family.1 (codes "class")
    (answers_of counts failed)

-- the names and the kinds of families of one sample
abbrev pub families_named : List MeasureData → List (List ℕ × MetricKind)
families_named ms = map (λ m. (m.name, m.kind)) ms

-- those of all families, in the order in which they are told
abbrev pub service_families : ServiceFigures → List (List ℕ × MetricKind)
service_families f =
    build_family ∷ families_named (standing_of f) ++ memory_family ∷ families_named (receiving_of f)
    ++ requests_family ∷ families_named (sending_of f) ++ answers_family ∷ []

-- the help texts of families of one sample
abbrev pub helps_in : List MeasureData → List (List ℕ)
helps_in ms = map (λ m. m.help) ms

-- those of all families
abbrev pub service_helps : ServiceFigures → List (List ℕ)
service_helps f =
    build_help ∷ helps_in (standing_of f) ++ memory_help ∷ helps_in (receiving_of f)
    ++ requests_help ∷ helps_in (sending_of f) ++ answers_help ∷ []

-- all figures
unfoldable pub service_text : ServiceFigures → List ℕ
service_text f =
    build_text f.version.now ++ families_of (standing_of f) ++ memory_text f.resident_bytes
    ++ families_of (receiving_of f) ++ requests_text f.counts.requests
    ++ families_of (sending_of f) ++ answers_text f.counts.answers f.counts.failed_answers
