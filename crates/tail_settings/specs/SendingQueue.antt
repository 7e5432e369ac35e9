-- The table `sending_queue`: how many batches wait to be sent, and how many are being sent. Keys and defaults are
-- those of the Collector's exporterhelper (its README, "Sending Queue").
use Rattle.std.specs.Prelude.{codes, ℕ, ◌^◌, Result, Ok}
use Rattle.toml.specs.Data.{Members}
use Rattle.tail_settings.specs.declared.sending_queue.SendingQueue.{SendingQueue}
use Rattle.tail_settings.specs.Fault.{FaultData, ◌>>=◌}
use Rattle.tail_settings.specs.Keys.{number_at, table_at}

-- counts of batches, and how many bytes those that wait have together
pub record SendingQueueData : Type 0 where
  pub queue_size : ℕ
  pub queue_bytes : ℕ
  pub num_consumers : ℕ

-- what a Rust value says
abbrev pub sending_queue_view : SendingQueue → SendingQueueData
sending_queue_view q = record {
  queue_size = q.queue_size;
  queue_bytes = q.queue_bytes;
  num_consumers = q.num_consumers;
}

-- more bytes than the batches of any queue have: who may have so many isn't bounded
abbrev pub most_queue_bytes : ℕ
most_queue_bytes = 2 ^ 42

-- the table of a tenant, or its first fault; no key bounds the bytes
unfoldable pub sending_queue_of : Members → Result SendingQueueData FaultData
sending_queue_of tenant = do
  queue ← table_at (codes "sending_queue") tenant
  queue_size ← number_at (codes "queue_size") 1 100000 1000 queue
  num_consumers ← number_at (codes "num_consumers") 1 1000 10 queue
  Ok (record { queue_size = queue_size; queue_bytes = most_queue_bytes; num_consumers = num_consumers })
