-- What the last tickets are, worked out by hand: a sender hands out 2^62 of them. This project's own rule.
use Rattle.std.specs.Prelude.{◌≡◌, ◌-◌, ◌^◌, ℕ, [], ◌∷◌, Some, None}
use Rattle.tail_settings.specs.RetryOnFailure.{RetryData}
use Rattle.tail_settings.specs.SendingQueue.{SendingQueueData}
use Rattle.send_queue.specs.Sender.{BatchData, SenderData, no_batches, offered, job, ready}

-- the exporterhelper's defaults, without an end
abbrev pub retries : RetryData
retries = record {
  initial_interval = 5000;
  max_interval = 30000;
  max_elapsed_time = 0;
  multiplier = 1500;
  randomization_factor = 500;
}

-- a batch of three spans that formed at 1000
abbrev pub batch : BatchData
batch = record { moment = 1000; spans = 3; payload = 7 ∷ [] }

-- one batch of one byte waits, and one is on its way
abbrev pub one : SendingQueueData
one = record { queue_size = 1; queue_bytes = 1; num_consumers = 1 }

-- a sender in which a batch waits, after so many tickets
abbrev pub after_tickets : ℕ → SenderData
after_tickets n = record (offered batch (no_batches one retries)) { handed_out = n }

pub record Tickets : Type 0 where
  pub last : job 1000 (after_tickets (2 ^ 62 - 1)) ≡ Some (2 ^ 62, 7 ∷ [])
  pub no_more : job 1000 (after_tickets (2 ^ 62)) ≡ None
  pub never_ready : ready (after_tickets (2 ^ 62)) ≡ None
