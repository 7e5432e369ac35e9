-- The document that says all of some settings: every table with every key, nothing left to a default. Keys stand in
-- the order of their bytes, which is that of the tables of the TOML library. This project's own rule.
use Rattle.std.specs.Prelude.{codes, ℕ, min, ◌^◌, pos, List, map}
use Rattle.toml.specs.Data.{Data, string, integer, array, table, Members, no_members, member}
use Rattle.toml.specs.View.{items_of}
use Rattle.tail_settings.specs.Batch.{BatchData}
use Rattle.tail_settings.specs.Global.{GlobalData}
use Rattle.tail_settings.specs.Policy.{StatusData, unset, ok, error, LeafData, always_sample, latency, status_code, string_attribute, numeric_attribute, PolicyData, leaf, and}
use Rattle.tail_settings.specs.RetryOnFailure.{RetryData}
use Rattle.tail_settings.specs.Section.{SectionData}
use Rattle.tail_settings.specs.SendingQueue.{SendingQueueData}
use Rattle.tail_settings.specs.Settings.{TenantData, SettingsData}
use Rattle.tail_settings.specs.TailSampling.{TailSamplingData}

-- a whole number
abbrev pub number : ℕ → Data
number n = integer (pos n)

-- an array of tables, each made of a value
abbrev pub tables : {A : Type 0} → (A → Members) → List A → Data
tables f xs = array (items_of (map (λ x. table (f x)) xs))

-- an array of texts, each made of a value
abbrev pub texts : {A : Type 0} → (A → List ℕ) → List A → Data
texts f xs = array (items_of (map (λ x. string (f x)) xs))

-- the table `global`
abbrev pub global_table : GlobalData → Members
global_table g =
    member (codes "lane_size") (number g.lane_size)
    (member (codes "listen") (string g.listen)
    (member (codes "parts") (number g.parts)
    (member (codes "receivers") (number g.receivers)
    (member (codes "senders") (number g.senders)
    (member (codes "shards") (number g.shards)
    (member (codes "tenant_header") (string g.tenant_header) no_members))))))

-- the name of a status
abbrev pub status_name : StatusData → List ℕ
status_name unset = codes "UNSET"
status_name ok = codes "OK"
status_name error = codes "ERROR"

-- a policy that holds no other; a threshold is at most 2^40 wherever it comes from a document
abbrev pub leaf_table : LeafData → Members
leaf_table always_sample = member (codes "type") (string (codes "always_sample")) no_members
leaf_table (latency threshold) =
    member (codes "threshold_ms") (number (min threshold (2 ^ 40)))
    (member (codes "type") (string (codes "latency")) no_members)
leaf_table (status_code statuses) =
    member (codes "status_codes") (texts status_name statuses)
    (member (codes "type") (string (codes "status_code")) no_members)
leaf_table (string_attribute key values) =
    member (codes "key") (string key)
    (member (codes "type") (string (codes "string_attribute"))
    (member (codes "values") (texts (λ value. value) values) no_members))
leaf_table (numeric_attribute key low high) =
    member (codes "key") (string key)
    (member (codes "max_value") (integer high)
    (member (codes "min_value") (integer low)
    (member (codes "type") (string (codes "numeric_attribute")) no_members)))

-- a policy
abbrev pub policy_table : PolicyData → Members
policy_table (leaf l) = leaf_table l
policy_table (and ls) =
    member (codes "and_sub_policy") (tables leaf_table ls)
    (member (codes "type") (string (codes "and")) no_members)

-- the table `decision_cache` of a tenant's `tail_sampling`
abbrev pub cache_table : TailSamplingData → Members
cache_table s =
    member (codes "non_sampled_cache_size") (number s.non_sampled_cache_size)
    (member (codes "sampled_cache_size") (number s.sampled_cache_size) no_members)

-- a tenant's table `tail_sampling`
abbrev pub sampling_table : TailSamplingData → Members
sampling_table s =
    member (codes "decision_cache") (table (cache_table s))
    (member (codes "decision_wait_ms") (number s.decision_wait)
    (member (codes "num_traces") (number s.num_traces)
    (member (codes "policy") (tables policy_table s.policies) no_members)))

-- a tenant's table `batch`
abbrev pub batch_table : BatchData → Members
batch_table b =
    member (codes "send_batch_max_size") (number b.send_batch_max_size)
    (member (codes "send_batch_size") (number b.send_batch_size)
    (member (codes "timeout_ms") (number b.timeout) no_members))

-- a tenant's table `sending_queue`
abbrev pub queue_table : SendingQueueData → Members
queue_table q =
    member (codes "num_consumers") (number q.num_consumers)
    (member (codes "queue_size") (number q.queue_size) no_members)

-- a tenant's table `retry_on_failure`
abbrev pub retry_table : RetryData → Members
retry_table r =
    member (codes "initial_interval_ms") (number r.initial_interval)
    (member (codes "max_elapsed_time_ms") (number r.max_elapsed_time)
    (member (codes "max_interval_ms") (number r.max_interval)
    (member (codes "multiplier") (number r.multiplier)
    (member (codes "randomization_factor") (number r.randomization_factor) no_members))))

-- the tables of a tenant's table
abbrev pub section_tables : SectionData → Members
section_tables s =
    member (codes "batch") (table (batch_table s.batch))
    (member (codes "retry_on_failure") (table (retry_table s.retry_on_failure))
    (member (codes "sending_queue") (table (queue_table s.sending_queue))
    (member (codes "tail_sampling") (table (sampling_table s.tail_sampling)) no_members)))

-- the table of a tenant of this name
abbrev pub section_table : List ℕ → SectionData → Members
section_table name s =
    member (codes "batch") (table (batch_table s.batch))
    (member (codes "endpoint") (string s.endpoint)
    (member (codes "max_spans") (number s.max_spans)
    (member (codes "name") (string name)
    (member (codes "retry_on_failure") (table (retry_table s.retry_on_failure))
    (member (codes "seed") (number s.seed)
    (member (codes "sending_queue") (table (queue_table s.sending_queue))
    (member (codes "tail_sampling") (table (sampling_table s.tail_sampling)) no_members)))))))

-- a tenant's table
abbrev pub tenant_table : TenantData → Members
tenant_table t = section_table t.name t.section

-- the document
abbrev pub document_of : SettingsData → Members
document_of s =
    member (codes "global") (table (global_table s.global))
    (member (codes "tenant") (tables tenant_table s.tenants) no_members)
