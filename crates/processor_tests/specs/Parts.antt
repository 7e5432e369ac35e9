-- What the examples are made of: settings, spans, posts and counters. This project's own rule.
use Rattle.std.specs.Prelude.{ℕ, pos, List, [], ◌∷◌, ◌++◌, replicate, None}
use Rattle.tail_settings.specs.Policy.{always_sample, status_code, error, leaf}
use Rattle.tail_settings.specs.Section.{SectionData}
use Rattle.tail_settings.specs.SendingQueue.{most_queue_bytes}
use Rattle.drop_ledger.specs.declared.places.Places.{Places}
use Rattle.drop_ledger.specs.Ledger.{LedgerData}
use Rattle.send_retry.specs.Class.{Http}
use Rattle.tenant_rules.specs.Arrivals.{Arrival}
use Rattle.tenant_rules.specs.Own.{Own, Post, Answer}

-- ---- settings

-- a wait of a second, no batch timer, one consumer, and else the defaults
abbrev pub plain : SectionData
plain = record {
  endpoint = [];
  max_spans = 100000;
  seed = 0;
  tail_sampling = record {
    decision_wait = 1000;
    num_traces = 50000;
    sampled_cache_size = 0;
    non_sampled_cache_size = 0;
    policies = leaf always_sample ∷ [];
  };
  batch = record { send_batch_size = 8192; timeout = 0; send_batch_max_size = 0 };
  sending_queue = record { queue_size = 1000; queue_bytes = most_queue_bytes; num_consumers = 1 };
  retry_on_failure = record {
    initial_interval = 5000;
    max_interval = 30000;
    max_elapsed_time = 300000;
    multiplier = 1500;
    randomization_factor = 500;
  };
}

-- so many rows at most
abbrev pub with_rows : ℕ → SectionData
with_rows most = record plain { tail_sampling = record (plain.tail_sampling) { num_traces = most } }

-- one row at most, and the ids of so many sampled traces, and of so many others
abbrev pub with_ids : ℕ → ℕ → SectionData
with_ids sampled others = record plain {
  tail_sampling = record (plain.tail_sampling) {
    num_traces = 1;
    sampled_cache_size = sampled;
    non_sampled_cache_size = others;
  };
}

-- the same, where a trace is sampled only with a span whose status is an error
abbrev pub with_errors : ℕ → ℕ → SectionData
with_errors sampled others = record (with_ids sampled others) {
  tail_sampling = record ((with_ids sampled others).tail_sampling) { policies = leaf (status_code (error ∷ [])) ∷ [] };
}

-- so many spans at most
abbrev pub with_budget : ℕ → SectionData
with_budget most = record plain { max_spans = most }

-- ---- spans

-- the 28 bytes of a span whose trace id and span id are one byte again and again
abbrev pub text : ℕ → ℕ → List ℕ
text trace id = 10 ∷ 16 ∷ (replicate 16 trace ++ (18 ∷ 8 ∷ replicate 8 id))

-- that span, without resource and scope
abbrev pub span : ℕ → ℕ → Arrival
span trace id = record {
  facts = record {
    trace_id = replicate 16 trace;
    span_id = replicate 8 id;
    start_time_unix_nano = 0;
    end_time_unix_nano = 0;
    status = pos 0;
    attributes = [];
  };
  text = text trace id;
  origin = record { resource = None; resource_schema_url = []; scope = None; scope_schema_url = [] };
}

-- a request with that span alone
abbrev pub body : ℕ → ℕ → List ℕ
body trace id = 10 ∷ 32 ∷ 18 ∷ 30 ∷ 18 ∷ 28 ∷ text trace id

-- a request with two spans of one scope
abbrev pub body_of_two : List ℕ → List ℕ → List ℕ
body_of_two one other = 10 ∷ 62 ∷ 18 ∷ 60 ∷ 18 ∷ 28 ∷ (one ++ (18 ∷ 28 ∷ other))

-- a post of one span
abbrev pub one : ℕ → ℕ → ℕ → Own
one now trace id = Post now (span trace id ∷ [])

-- an answer with this status and no body to the job of a ticket
abbrev pub status : ℕ → ℕ → ℕ → ℕ → Own
status now ticket word code = Answer now ticket word (Http code None [])

-- ---- counters

-- so many spans were taken, and stand in these places
abbrev pub counts : ℕ → Places → LedgerData
counts accepted places = record { accepted = accepted; places = places; invalid = 0; over_budget = 0 }
