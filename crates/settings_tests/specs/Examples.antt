-- Settings that are sound, and near misses that aren't, worked out by hand. Defaults are those of the OpenTelemetry
-- Collector's tailsamplingprocessor, batchprocessor and exporterhelper (docs/SETTINGS.md).
use Rattle.std.specs.Prelude.{codes, ℕ, List, [], ◌∷◌}
use Rattle.tail_settings.specs.Policy.{always_sample, latency, string_attribute, leaf}
use Rattle.tail_settings.specs.Section.{SectionData}
use Rattle.tail_settings.specs.SendingQueue.{most_queue_bytes}
use Rattle.tail_settings.specs.Settings.{TenantData, SettingsData}
use Rattle.tail_settings.specs.Examples.{default_global, default_batch, default_queue, default_retry}
use Rattle.tail_settings.specs.Valid.{IsValidLeaf, IsValidBatch, AreSoundTenants, AreValidSettings}

-- every default: a trace waits 30 s, 50,000 traces are held, and no id is remembered
abbrev pub default_section : SectionData
default_section = record {
  endpoint = codes "127.0.0.1:4319";
  max_spans = 100000;
  seed = 0;
  tail_sampling = record {
    decision_wait = 30000;
    num_traces = 50000;
    sampled_cache_size = 0;
    non_sampled_cache_size = 0;
    policies = leaf always_sample ∷ [];
  };
  batch = default_batch;
  sending_queue = default_queue;
  retry_on_failure = default_retry;
}

abbrev pub named : ℕ → List ℕ → TenantData
named number name = record { number = number; name = name; section = default_section }

-- one tenant with one policy, and every default
abbrev pub smallest : SettingsData
smallest = record {
  global = default_global;
  tenants = named 0 (codes "a") ∷ [];
  next = 1;
  queue_bytes = most_queue_bytes;
}

-- by derivation
pub record Sound : Type 0 where
  pub smallest_is : AreValidSettings smallest
  -- 2^40 ms, and one more
  pub slow_is : IsValidLeaf (latency 1099511627776)
  pub slow_is_not : IsValidLeaf (latency 1099511627777) → ⊥
  pub no_values : IsValidLeaf (string_attribute (codes "k") []) → ⊥
  -- a greatest size that is the size at which a batch is cut, and one below it
  pub batch_is : IsValidBatch (record default_batch { send_batch_max_size = 8192 })
  pub batch_is_not : IsValidBatch (record default_batch { send_batch_max_size = 8191 }) → ⊥
  pub tenants_are : AreSoundTenants (named 0 (codes "a") ∷ named 1 (codes "b") ∷ [])
  pub tenants_are_not : AreSoundTenants (named 0 (codes "a") ∷ named 1 (codes "a") ∷ []) → ⊥
