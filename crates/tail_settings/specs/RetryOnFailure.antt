-- The table `retry_on_failure`: when a batch is sent again. Keys and defaults are those of the Collector's
-- exporterhelper (its README, "Retry on Failure"); durations are whole milliseconds, factors thousandths.
use Rattle.std.specs.Prelude.{codes, ℕ, ◌^◌, Result, Ok}
use Rattle.toml.specs.Data.{Members}
use Rattle.tail_settings.specs.declared.retry_on_failure.RetryOnFailure.{RetryOnFailure}
use Rattle.tail_settings.specs.Fault.{FaultData, ◌>>=◌}
use Rattle.tail_settings.specs.Keys.{number_at, table_at}

-- intervals in milliseconds, a longest time of 0 being none; factors in thousandths
pub record RetryData : Type 0 where
  pub initial_interval : ℕ
  pub max_interval : ℕ
  pub max_elapsed_time : ℕ
  pub multiplier : ℕ
  pub randomization_factor : ℕ

-- what a Rust value says
abbrev pub retry_view : RetryOnFailure → RetryData
retry_view r = record {
  initial_interval = r.initial_interval;
  max_interval = r.max_interval;
  max_elapsed_time = r.max_elapsed_time;
  multiplier = r.multiplier;
  randomization_factor = r.randomization_factor;
}

-- the table of a tenant, or its first fault
unfoldable pub retry_of : Members → Result RetryData FaultData
retry_of tenant = do
  retry ← table_at (codes "retry_on_failure") tenant
  initial_interval ← number_at (codes "initial_interval_ms") 1 86400000 5000 retry
  max_interval ← number_at (codes "max_interval_ms") 1 86400000 30000 retry
  max_elapsed_time ← number_at (codes "max_elapsed_time_ms") 0 (2 ^ 40) 300000 retry
  multiplier ← number_at (codes "multiplier") 1000 100000 1500 retry
  randomization_factor ← number_at (codes "randomization_factor") 0 1000 500 retry
  Ok (record {
    initial_interval = initial_interval;
    max_interval = max_interval;
    max_elapsed_time = max_elapsed_time;
    multiplier = multiplier;
    randomization_factor = randomization_factor;
  })
