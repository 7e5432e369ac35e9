-- The table `tail_sampling`, and `decision_cache` in it: how a tenant chooses the traces that it keeps. Keys and
-- defaults are those of the Collector's tailsamplingprocessor (its README).
use Rattle.std.specs.Prelude.{codes, ℕ, List, map, Result, Ok}
use Rattle.std.specs.Arc.{arc_slice_items}
use Rattle.toml.specs.Data.{Members}
use Rattle.tail_settings.specs.declared.tail_sampling.TailSampling.{TailSampling}
use Rattle.tail_settings.specs.Fault.{FaultData, ◌>>=◌}
use Rattle.tail_settings.specs.Keys.{number_at, table_at}
use Rattle.tail_settings.specs.Policy.{PolicyData, policy_view, policies_of}

-- how long a trace waits for its decision, in milliseconds, how many traces are held, how many ids of sampled traces
-- and of others are remembered, and the policies of which one has to be met
pub record TailSamplingData : Type 0 where
  pub decision_wait : ℕ
  pub num_traces : ℕ
  pub sampled_cache_size : ℕ
  pub non_sampled_cache_size : ℕ
  pub policies : List PolicyData

-- what a Rust value says
abbrev pub tail_sampling_view : TailSampling → TailSamplingData
tail_sampling_view s = record {
  decision_wait = s.decision_wait;
  num_traces = s.num_traces;
  sampled_cache_size = s.sampled_cache_size;
  non_sampled_cache_size = s.non_sampled_cache_size;
  policies = map policy_view (arc_slice_items s.policies);
}

-- the table of a tenant, or its first fault
unfoldable pub tail_sampling_of : Members → Result TailSamplingData FaultData
tail_sampling_of tenant = do
  sampling ← table_at (codes "tail_sampling") tenant
  decision_wait ← number_at (codes "decision_wait_ms") 1 86400000 30000 sampling
  num_traces ← number_at (codes "num_traces") 1 1000000 50000 sampling
  cache ← table_at (codes "decision_cache") sampling
  sampled ← number_at (codes "sampled_cache_size") 0 1000000 0 cache
  non_sampled ← number_at (codes "non_sampled_cache_size") 0 1000000 0 cache
  policies ← policies_of sampling
  Ok (record {
    decision_wait = decision_wait;
    num_traces = num_traces;
    sampled_cache_size = sampled;
    non_sampled_cache_size = non_sampled;
    policies = policies;
  })
