-- The table `batch`: how many spans are sent together, and how long they wait for more. Keys and defaults are those
-- of the Collector's batchprocessor (its README, "Configuration").
use Rattle.std.specs.Prelude.{codes, ℕ, Bool, ◌||◌, ◌==◌, nat_le, Result, Ok}
use Rattle.toml.specs.Data.{Members}
use Rattle.tail_settings.specs.declared.batch.Batch.{Batch}
use Rattle.tail_settings.specs.Fault.{FaultData, ◌>>=◌}
use Rattle.tail_settings.specs.Keys.{allowed, number_at, table_at}

-- counts of spans, and a wait in milliseconds; a greatest size of 0 is none
pub record BatchData : Type 0 where
  pub send_batch_size : ℕ
  pub timeout : ℕ
  pub send_batch_max_size : ℕ

-- what a Rust value says
abbrev pub batch_view : Batch → BatchData
batch_view b = record {
  send_batch_size = b.send_batch_size;
  timeout = b.timeout;
  send_batch_max_size = b.send_batch_max_size;
}

-- no greatest size, or one that isn't below the size at which a batch is cut
abbrev pub is_max_size : ℕ → ℕ → Bool
is_max_size size max_size = (max_size == 0) || nat_le size max_size

-- the table of a tenant, or its first fault
unfoldable pub batch_of : Members → Result BatchData FaultData
batch_of tenant = do
  batch ← table_at (codes "batch") tenant
  size ← number_at (codes "send_batch_size") 1 1000000 8192 batch
  timeout ← number_at (codes "timeout_ms") 0 86400000 200 batch
  found ← number_at (codes "send_batch_max_size") 0 1000000 0 batch
  max_size ← allowed (codes "send_batch_max_size") (is_max_size size) found
  Ok (record { send_batch_size = size; timeout = timeout; send_batch_max_size = max_size })
