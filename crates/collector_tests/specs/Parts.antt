-- What the examples are made of: settings, spans and bodies. Bodies are OTLP 1.x's, in the proto3 encoding; all else is
-- this project's own rule.
use Rattle.std.specs.Prelude.{ℕ, pos, List, [], ◌∷◌, ◌++◌, replicate, None}
use Rattle.tail_settings.specs.Policy.{PolicyData, always_sample, leaf}
use Rattle.tail_settings.specs.Section.{SectionData}
use Rattle.tail_settings.specs.SendingQueue.{most_queue_bytes}
use Rattle.tenant_rules.specs.Arrivals.{Arrival}

abbrev pub keep_all : List PolicyData
keep_all = leaf always_sample ∷ []

-- a wait of a second, no batch timer, one consumer, and else the defaults
abbrev pub plain : SectionData
plain = record {
  endpoint = [];
  max_spans = 100000;
  seed = 0;
  tail_sampling = record {
    decision_wait = 1000;
    num_traces = 50000;
    sampled_cache_size = 0;
    non_sampled_cache_size = 0;
    policies = keep_all;
  };
  batch = record { send_batch_size = 8192; timeout = 0; send_batch_max_size = 0 };
  sending_queue = record { queue_size = 1000; queue_bytes = most_queue_bytes; num_consumers = 1 };
  retry_on_failure = record {
    initial_interval = 5000;
    max_interval = 30000;
    max_elapsed_time = 300000;
    multiplier = 1500;
    randomization_factor = 500;
  };
}

-- the same with a wait of two seconds
abbrev pub two_seconds : SectionData
two_seconds = record plain { tail_sampling = record (plain.tail_sampling) { decision_wait = 2000 } }

-- the 28 bytes of a span whose trace id and span id are one byte again and again
abbrev pub text : ℕ → ℕ → List ℕ
text trace id = 10 ∷ 16 ∷ (replicate 16 trace ++ (18 ∷ 8 ∷ replicate 8 id))

-- that span, without resource and scope
abbrev pub span : ℕ → ℕ → Arrival
span trace id = record {
  facts = record {
    trace_id = replicate 16 trace;
    span_id = replicate 8 id;
    start_time_unix_nano = 0;
    end_time_unix_nano = 0;
    status = pos 0;
    attributes = [];
  };
  text = text trace id;
  origin = record { resource = None; resource_schema_url = []; scope = None; scope_schema_url = [] };
}

-- a request with that span alone
abbrev pub body : ℕ → ℕ → List ℕ
body trace id = 10 ∷ 32 ∷ 18 ∷ 30 ∷ 18 ∷ 28 ∷ text trace id
