-- What tables mean that leave all keys out, for examples here and in the crates above, by hand. Defaults are those of
-- the Collector's batchprocessor and exporterhelper, and 4318 is the port of OTLP over HTTP.
use Rattle.std.specs.Prelude.{codes}
use Rattle.tail_settings.specs.Global.{GlobalData}
use Rattle.tail_settings.specs.Batch.{BatchData}
use Rattle.tail_settings.specs.SendingQueue.{SendingQueueData, most_queue_bytes}
use Rattle.tail_settings.specs.RetryOnFailure.{RetryData}

-- what holds for all tenants where a document says nothing of it
abbrev pub default_global : GlobalData
default_global = record {
  shards = 1;
  parts = 2;
  receivers = 4;
  senders = 4;
  lane_size = 64;
  listen = codes "127.0.0.1:4318";
  tenant_header = codes "x-scope-orgid";
}

-- the defaults of batchprocessor: 8192 spans, 200 ms and no greatest size
abbrev pub default_batch : BatchData
default_batch = record { send_batch_size = 8192; timeout = 200; send_batch_max_size = 0 }

-- those of exporterhelper's queue: 1000 batches and 10 consumers, and no bound of bytes
abbrev pub default_queue : SendingQueueData
default_queue = record { queue_size = 1000; queue_bytes = most_queue_bytes; num_consumers = 10 }

-- those of its retries: 5 s, 30 s, 300 s, 1.5 and 0.5
abbrev pub default_retry : RetryData
default_retry = record {
  initial_interval = 5000;
  max_interval = 30000;
  max_elapsed_time = 300000;
  multiplier = 1500;
  randomization_factor = 500;
}
