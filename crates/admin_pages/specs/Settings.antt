-- A tenant's settings in force as JSON (RFC 8259): each key that a document may have stands in an object for its table,
-- also where the document left it out, in the units of the document (docs/SETTINGS.md).
use Rattle.std.specs.Prelude.{ℕ, List, [], ◌∷◌, ◌++◌, codes, decimal}
use Rattle.std.specs.Fmt.{signed_decimal}
use Rattle.tail_settings.specs.Batch.{BatchData}
use Rattle.tail_settings.specs.Policy.{StatusData, unset, ok, error, LeafData, always_sample, latency, status_code, string_attribute, numeric_attribute, PolicyData, leaf, and}
use Rattle.tail_settings.specs.RetryOnFailure.{RetryData}
use Rattle.tail_settings.specs.Section.{SectionData}
use Rattle.tail_settings.specs.SendingQueue.{SendingQueueData}
use Rattle.tail_settings.specs.TailSampling.{TailSamplingData}
use Rattle.admin_pages.specs.Figures.{TenantData}
use Rattle.admin_pages.specs.Json.{string_text, figures_text}

-- the code of a status
abbrev pub status_text : StatusData → List ℕ
status_text unset = codes "\"UNSET\""
status_text ok = codes "\"OK\""
status_text error = codes "\"ERROR\""

-- statuses as the elements of an array, of which the first stands behind this and each other one behind a comma
abbrev pub statuses_behind : List ℕ → List StatusData → List ℕ
statuses_behind mark [] = []
statuses_behind mark (status ∷ statuses) = mark ++ status_text status ++ statuses_behind (codes ",") statuses

-- strings as the elements of an array, of which the first stands behind this and each other one behind a comma
abbrev pub strings_behind : List ℕ → List (List ℕ) → List ℕ
strings_behind mark [] = []
strings_behind mark (text ∷ texts) = mark ++ string_text text ++ strings_behind (codes ",") texts

-- a policy that holds no other
unfoldable pub leaf_text : LeafData → List ℕ
leaf_text always_sample = codes "{\"type\":\"always_sample\"}"
leaf_text (latency threshold) =
    codes "{\"type\":\"latency\",\"threshold_ms\":" ++ decimal threshold ++ codes "}"
leaf_text (status_code statuses) =
    codes "{\"type\":\"status_code\",\"status_codes\":[" ++ statuses_behind [] statuses ++ codes "]}"
leaf_text (string_attribute key values) =
    codes "{\"type\":\"string_attribute\",\"key\":" ++ string_text key
    ++ codes ",\"values\":[" ++ strings_behind [] values ++ codes "]}"
leaf_text (numeric_attribute key low high) =
    codes "{\"type\":\"numeric_attribute\",\"key\":" ++ string_text key
    ++ codes ",\"min_value\":" ++ signed_decimal low ++ codes ",\"max_value\":" ++ signed_decimal high ++ codes "}"

-- such policies, as the elements of an array
abbrev pub leaves_behind : List ℕ → List LeafData → List ℕ
leaves_behind mark [] = []
leaves_behind mark (first ∷ leaves) = mark ++ leaf_text first ++ leaves_behind (codes ",") leaves

-- a policy
unfoldable pub policy_text : PolicyData → List ℕ
policy_text (leaf l) = leaf_text l
policy_text (and leaves) = codes "{\"type\":\"and\",\"and_sub_policy\":[" ++ leaves_behind [] leaves ++ codes "]}"

-- policies, as the elements of an array
abbrev pub policies_behind : List ℕ → List PolicyData → List ℕ
policies_behind mark [] = []
policies_behind mark (policy ∷ policies) = mark ++ policy_text policy ++ policies_behind (codes ",") policies

-- the table `tail_sampling`
unfoldable pub sampling_text : TailSamplingData → List ℕ
sampling_text s =
    codes "{\"decision_wait_ms\":" ++ decimal s.decision_wait
    ++ codes ",\"num_traces\":" ++ decimal s.num_traces
    ++ codes ",\"decision_cache\":{\"sampled_cache_size\":" ++ decimal s.sampled_cache_size
    ++ codes ",\"non_sampled_cache_size\":" ++ decimal s.non_sampled_cache_size
    ++ codes "},\"policy\":[" ++ policies_behind [] s.policies ++ codes "]}"

-- the table `batch`
unfoldable pub batch_text : BatchData → List ℕ
batch_text b =
    codes "{\"send_batch_size\":" ++ decimal b.send_batch_size
    ++ codes ",\"timeout_ms\":" ++ decimal b.timeout
    ++ codes ",\"send_batch_max_size\":" ++ decimal b.send_batch_max_size ++ codes "}"

-- the table `sending_queue`
unfoldable pub queue_text : SendingQueueData → List ℕ
queue_text q =
    codes "{\"queue_size\":" ++ decimal q.queue_size ++ codes ",\"num_consumers\":" ++ decimal q.num_consumers ++ codes "}"

-- the table `retry_on_failure`
unfoldable pub retry_text : RetryData → List ℕ
retry_text r =
    codes "{\"initial_interval_ms\":" ++ decimal r.initial_interval
    ++ codes ",\"max_interval_ms\":" ++ decimal r.max_interval
    ++ codes ",\"max_elapsed_time_ms\":" ++ decimal r.max_elapsed_time
    ++ codes ",\"multiplier\":" ++ decimal r.multiplier
    ++ codes ",\"randomization_factor\":" ++ decimal r.randomization_factor ++ codes "}"

-- the keys of a tenant that stand in no table, but for its name
unfoldable pub plain_text : SectionData → List ℕ
plain_text s =
    codes "\"endpoint\":" ++ string_text s.endpoint
    ++ codes ",\"max_spans\":" ++ decimal s.max_spans ++ codes ",\"seed\":" ++ decimal s.seed

-- a tenant's tables
unfoldable pub tables_text : SectionData → List ℕ
tables_text s =
    codes ",\"tail_sampling\":" ++ sampling_text s.tail_sampling ++ codes ",\"batch\":" ++ batch_text s.batch
    ++ codes ",\"sending_queue\":" ++ queue_text s.sending_queue
    ++ codes ",\"retry_on_failure\":" ++ retry_text s.retry_on_failure

-- what a tenant's table says beside its name, as an object
unfoldable pub section_text : SectionData → List ℕ
section_text s = codes "{" ++ plain_text s ++ tables_text s ++ codes "}"

-- a tenant's figures, with its settings behind them, as an object
unfoldable pub settled_text : TenantData → SectionData → List ℕ
settled_text tenant section = figures_text tenant ++ codes ",\"settings\":" ++ section_text section ++ codes "}"
