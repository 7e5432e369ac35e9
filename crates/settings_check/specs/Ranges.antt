-- How the ranges and the defaults that are told in words (src/table.rt) stand to those that `tail_settings` reads by:
-- they have the same ends, and a missing key is read as if it had the default. This project's own rule.
use Rattle.std.specs.Prelude.{◌≡◌, codes, ℕ, ◌+◌, zero, suc, ℤ, pos, negsuc, List, [], ◌++◌, Result, Err, IsOk}
use Rattle.std.specs.Fmt.{decimal}
use Rattle.toml.specs.Data.{integer, array, table, no_items, item, Members, no_members, member}
use Rattle.tail_settings.specs.Batch.{BatchData, batch_of}
use Rattle.tail_settings.specs.Fault.{FaultData, out_of_range}
use Rattle.tail_settings.specs.Global.{GlobalData, global_of}
use Rattle.tail_settings.specs.Policy.{policy_of}
use Rattle.tail_settings.specs.RetryOnFailure.{RetryData, retry_of}
use Rattle.tail_settings.specs.SendingQueue.{SendingQueueData, sending_queue_of}
use Rattle.tail_settings.specs.Settings.{tenant_of}
use Rattle.tail_settings.specs.TailSampling.{TailSamplingData, tail_sampling_of}
use Rattle.settings_check.specs.declared.table.Key.{Key}
use Rattle.settings_check.specs.declared.table.Key.TheVariants as keys
use Rattle.settings_check.specs.Law.{holding, with_cache, typed, small_tenant}
use Rattle.settings_check.specs.Put.{put_member}
use Rattle.settings_check.specs.Table.{allowed_of, name_of}

-- a range in words, of numbers that are told so
abbrev pub range_words : List ℕ → ℕ → ℕ → List ℕ
range_words numbers low high = numbers ++ codes " from " ++ decimal low ++ codes " to " ++ decimal high

-- a default in words
abbrev pub default_words : ℕ → List ℕ
default_words default = codes ", or missing, which is " ++ decimal default

-- the number below
abbrev pub below : ℕ → ℤ
below zero = negsuc 0
below (suc n) = pos n

-- a table with this number at a key
abbrev pub with_number : Key → ℤ → Members → Members
with_number key z = put_member (name_of key) (integer z)

-- in a table that is good without it, a number is taken at a key
abbrev pub Takes : {A : Type 0} → (Members → Result A FaultData) → Members → Key → ℤ → Type 0
Takes read good key z = IsOk (read (with_number key z good))

-- and one is refused as out of the key's range
abbrev pub Refuses : {A : Type 0} → (Members → Result A FaultData) → Members → Key → ℤ → Type 0
Refuses read good key z = read (with_number key z good) ≡ Err (out_of_range (name_of key))

-- both ends of a range are taken, and the numbers beside them aren't
abbrev pub IsRange : {A : Type 0} → (Members → Result A FaultData) → Members → Key → ℕ → ℕ → Type 0
IsRange read good key low high =
    Takes read good key (pos low) × Refuses read good key (below low)
    × Takes read good key (pos high) × Refuses read good key (pos (high + 1))

-- a table without the key is read as one that has this number there
abbrev pub IsDefault : {A : Type 0} → (Members → Result A FaultData) → Members → Key → ℕ → Type 0
IsDefault read good key default = read good ≡ read (with_number key (pos default) good)

-- a key's range and its default are told as they are read
abbrev pub IsTold : {A : Type 0} → (Members → Result A FaultData) → Members → Key → List ℕ → ℕ → ℕ → ℕ → Type 0
IsTold read good key numbers low high default =
    (allowed_of key ≡ range_words numbers low high ++ default_words default)
    × IsRange read good key low high × IsDefault read good key default

-- how a number is told
abbrev pub a_number : List ℕ
a_number = codes "a whole number"

-- how a time is told
abbrev pub milliseconds : List ℕ
milliseconds = codes "whole milliseconds"

-- how a factor is told
abbrev pub thousandths : List ℕ
thousandths = codes "whole thousandths"

-- a table `tail_sampling` that has a policy
abbrev pub small_sampling : Members
small_sampling = member (codes "policy") (array (item (table (typed (codes "always_sample"))) no_items)) no_members

-- what a table `global` is read as
abbrev pub read_global : Members → Result GlobalData FaultData
read_global t = global_of (holding (codes "global") t)

-- what a table `tail_sampling` is read as
abbrev pub read_sampling : Members → Result TailSamplingData FaultData
read_sampling t = tail_sampling_of (holding (codes "tail_sampling") t)

-- what a table `decision_cache` is read as, beside a policy
abbrev pub read_cache : Members → Result TailSamplingData FaultData
read_cache t = tail_sampling_of (with_cache t small_sampling)

-- what a table `batch` is read as
abbrev pub read_batch : Members → Result BatchData FaultData
read_batch t = batch_of (holding (codes "batch") t)

-- what a table `sending_queue` is read as
abbrev pub read_queue : Members → Result SendingQueueData FaultData
read_queue t = sending_queue_of (holding (codes "sending_queue") t)

-- what a table `retry_on_failure` is read as
abbrev pub read_retry : Members → Result RetryData FaultData
read_retry t = retry_of (holding (codes "retry_on_failure") t)

-- each number's range and default are told as they are read; a greatest size of batches is also 0, and from the size of
-- batches on, and a threshold has no default
pub record RangesAreRead : Type 0 where
  pub shards : IsTold read_global no_members keys.Shards a_number 1 64 1
  pub parts : IsTold read_global no_members keys.Parts a_number 1 16 2
  pub receivers : IsTold read_global no_members keys.Receivers a_number 1 64 4
  pub senders : IsTold read_global no_members keys.Senders a_number 1 64 4
  pub lane_size : IsTold read_global no_members keys.LaneSize a_number 1 4096 64
  pub max_spans : IsTold (tenant_of []) small_tenant keys.MaxSpans a_number 1 2147483648 100000
  pub seed : IsTold (tenant_of []) small_tenant keys.Seed a_number 0 4611686018427387904 0
  pub decision_wait : IsTold read_sampling small_sampling keys.DecisionWaitMs milliseconds 1 86400000 30000
  pub num_traces : IsTold read_sampling small_sampling keys.NumTraces a_number 1 1000000 50000
  pub sampled : IsTold read_cache no_members keys.SampledCacheSize a_number 0 1000000 0
  pub non_sampled : IsTold read_cache no_members keys.NonSampledCacheSize a_number 0 1000000 0
  pub batch_size : IsTold read_batch no_members keys.SendBatchSize a_number 1 1000000 8192
  pub timeout : IsTold read_batch no_members keys.TimeoutMs milliseconds 0 86400000 200
  pub queue_size : IsTold read_queue no_members keys.QueueSize a_number 1 100000 1000
  pub num_consumers : IsTold read_queue no_members keys.NumConsumers a_number 1 1000 10
  pub initial_interval : IsTold read_retry no_members keys.InitialIntervalMs milliseconds 1 86400000 5000
  pub max_interval : IsTold read_retry no_members keys.MaxIntervalMs milliseconds 1 86400000 30000
  pub max_elapsed_time : IsTold read_retry no_members keys.MaxElapsedTimeMs milliseconds 0 1099511627776 300000
  pub multiplier : IsTold read_retry no_members keys.Multiplier thousandths 1000 100000 1500
  pub randomization : IsTold read_retry no_members keys.RandomizationFactor thousandths 0 1000 500
  pub max_size_words : allowed_of keys.SendBatchMaxSize
      ≡ codes "0, or a whole number from send_batch_size to " ++ decimal 1000000 ++ default_words 0
  pub max_size_none : Takes read_batch no_members keys.SendBatchMaxSize (pos 0)
  pub max_size : IsRange read_batch no_members keys.SendBatchMaxSize 8192 1000000
  pub max_size_default : IsDefault read_batch no_members keys.SendBatchMaxSize 0
  pub threshold_words : allowed_of keys.ThresholdMs ≡ range_words milliseconds 0 1099511627776
  pub threshold : IsRange policy_of (typed (codes "latency")) keys.ThresholdMs 0 1099511627776
