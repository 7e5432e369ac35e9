-- What holds of all settings that a document means: the ranges and counts of docs/SETTINGS.md. This project's own rule.
use Rattle.std.specs.Prelude.{◌≡◌, ℕ, ◌<◌, ◌≤◌, ◌≢◌, ◌^◌, List, length, get_or, slice_get, All, AllPairs, IsTrue}
use Rattle.tail_settings.specs.Global.{GlobalData}
use Rattle.tail_settings.specs.Keys.{IsFrom}
use Rattle.tail_settings.specs.Policy.{LeafData, always_sample, latency, status_code, string_attribute, numeric_attribute, PolicyData, leaf, and, leaves_of}
use Rattle.tail_settings.specs.TailSampling.{TailSamplingData}
use Rattle.tail_settings.specs.Batch.{BatchData}
use Rattle.tail_settings.specs.SendingQueue.{SendingQueueData, most_queue_bytes}
use Rattle.tail_settings.specs.RetryOnFailure.{RetryData}
use Rattle.tail_settings.specs.Section.{SectionData}
use Rattle.tail_settings.specs.Settings.{TenantData, SettingsData, tenant_at, spans_of}
use Rattle.tail_settings.specs.Texts.{is_name, is_address, is_header, is_attribute_key}

-- the table `global`
pub record IsValidGlobal (g : GlobalData) : Type 0 where
  pub shards : IsFrom 1 64 g.shards
  pub parts : IsFrom 1 16 g.parts
  pub receivers : IsFrom 1 64 g.receivers
  pub senders : IsFrom 1 64 g.senders
  pub lane_size : IsFrom 1 4096 g.lane_size
  pub listen : IsTrue (is_address g.listen)
  pub tenant_header : IsTrue (is_header g.tenant_header)

-- a policy that holds no other; bounds of numbers may be any
abbrev pub IsValidLeaf : LeafData → Type 0
IsValidLeaf always_sample = Unit {0}
IsValidLeaf (latency threshold) = threshold ≤ 2 ^ 40
IsValidLeaf (status_code codes) = 0 < length codes
IsValidLeaf (string_attribute key values) = IsTrue (is_attribute_key key) × IsFrom 1 64 (length values)
IsValidLeaf (numeric_attribute key low high) = IsTrue (is_attribute_key key)

-- a policy
abbrev pub IsValidPolicy : PolicyData → Type 0
IsValidPolicy (leaf l) = IsValidLeaf l
IsValidPolicy (and ls) = (0 < length ls) × All IsValidLeaf ls

-- a table `tail_sampling`
pub record IsValidTailSampling (s : TailSamplingData) : Type 0 where
  pub decision_wait : IsFrom 1 86400000 s.decision_wait
  pub num_traces : IsFrom 1 1000000 s.num_traces
  pub sampled_cache_size : s.sampled_cache_size ≤ 1000000
  pub non_sampled_cache_size : s.non_sampled_cache_size ≤ 1000000
  pub some_policy : 0 < length s.policies
  pub few_leaves : leaves_of s.policies ≤ 64
  pub policies : All IsValidPolicy s.policies

-- a table `batch`
pub record IsValidBatch (b : BatchData) : Type 0 where
  pub send_batch_size : IsFrom 1 1000000 b.send_batch_size
  pub timeout : b.timeout ≤ 86400000
  pub send_batch_max_size : b.send_batch_max_size ≤ 1000000
  pub none_or_more : 0 < b.send_batch_max_size → b.send_batch_size ≤ b.send_batch_max_size

-- a table `sending_queue`
pub record IsValidSendingQueue (q : SendingQueueData) : Type 0 where
  pub queue_size : IsFrom 1 100000 q.queue_size
  pub queue_bytes : q.queue_bytes ≡ most_queue_bytes
  pub num_consumers : IsFrom 1 1000 q.num_consumers

-- a table `retry_on_failure`
pub record IsValidRetry (r : RetryData) : Type 0 where
  pub initial_interval : IsFrom 1 86400000 r.initial_interval
  pub max_interval : IsFrom 1 86400000 r.max_interval
  pub max_elapsed_time : r.max_elapsed_time ≤ 2 ^ 40
  pub multiplier : IsFrom 1000 100000 r.multiplier
  pub randomization_factor : r.randomization_factor ≤ 1000

-- a tenant's table
pub record IsValidSection (s : SectionData) : Type 0 where
  pub endpoint : IsTrue (is_address s.endpoint)
  pub max_spans : IsFrom 1 (2 ^ 31) s.max_spans
  pub seed : s.seed ≤ 2 ^ 62
  pub tail_sampling : IsValidTailSampling s.tail_sampling
  pub batch : IsValidBatch s.batch
  pub sending_queue : IsValidSendingQueue s.sending_queue
  pub retry_on_failure : IsValidRetry s.retry_on_failure

-- each tenant has a name that no other has
pub record AreSoundTenants (tenants : List TenantData) : Type 0 where
  pub names : All (λ t. IsTrue (is_name t.name)) tenants
  pub distinct : AllPairs (λ t u. t.name ≢ u.name) tenants
  pub sections : All (λ t. IsValidSection t.section) tenants

-- number i stands at place i, from 0
abbrev pub AreByPlace : List TenantData → Type 0
AreByPlace tenants = (i : ℕ) (d : TenantData) → i < length tenants → (get_or tenants i d).number ≡ i

-- all settings
pub record AreValidSettings (s : SettingsData) : Type 0 where
  pub global : IsValidGlobal s.global
  pub some_tenant : 0 < length s.tenants
  pub few_tenants : length s.tenants ≤ 1000
  pub few_spans : spans_of s.tenants ≤ 2 ^ 31
  pub tenants : AreSoundTenants s.tenants
  pub numbers : AreByPlace s.tenants
  pub next : s.next ≡ length s.tenants
  pub queue_bytes : s.queue_bytes ≡ most_queue_bytes

-- where tenants stand by place, the tenant with a number is the one at that place
abbrev pub AreFoundByPlace : Type 0
AreFoundByPlace = (s : SettingsData) (number : ℕ) → AreByPlace s.tenants
    → tenant_at s number ≡ slice_get s.tenants number
