-- What a tenant's rules see of it: what its pipeline keeps by itself, and what the stores have of it. This project's
-- own rule.
use Rattle.std.specs.Prelude.{ℕ, List, [], ◌++◌, map}
use Rattle.span_pool.specs.Stored.{SpanTexts, bytes_of}
use Rattle.span_view.specs.Reading.{facts_of}
use Rattle.tail_policy.specs.declared.note.TraceNote.{TraceNote}
use Rattle.tail_settings.specs.Policy.{PolicyData}
use Rattle.tail_settings.specs.Section.{section_view}
use Rattle.span_batcher.specs.Batches.{Batch}
use Rattle.span_batcher.specs.State as batcher
use Rattle.tenant_stores.specs.declared.stores.Stores.{Stores}
use Rattle.tenant_stores.specs.Part.{Part, part}
use Rattle.tenant_stores.specs.Counts.{Counts}
use Rattle.tenant_stores.specs.View.{SettledRow, WaitingRow, View, spans_at, view}
use Rattle.tenant_rules.specs.Arrivals.{Arrival}
use Rattle.tenant_rules.specs.Batching.{all_sent}
use Rattle.decision_cache.specs.Caches.{shown}
use Rattle.tenant_rules.specs.Fate.{SettledData, WaitingData}
use Rattle.tenant_rules.specs.Sender.{BatchData, SenderData}
use Rattle.tenant_rules.specs.State.{State}
use Rattle.tenant_pipeline.specs.declared.pipeline.Pipeline.{Pipeline}

-- a span by its texts, as it arrived
abbrev pub arrival_of : SpanTexts → Arrival
arrival_of span = record {
  facts = facts_of span.text (bytes_of span.origin.resource);
  text = span.text;
  origin = span.origin;
}

-- several of them
abbrev pub arrivals_of : List SpanTexts → List Arrival
arrivals_of spans = map arrival_of spans

-- a row that was decided
abbrev pub settled_of : SettledRow → SettledData
settled_of row = record { trace = row.trace; sampled = row.sampled }

-- a row that waits, of which the rules know no note
abbrev pub waiting_of : WaitingRow TraceNote → WaitingData
waiting_of row = record { trace = row.trace; due = row.due; spans = arrivals_of row.spans }

-- how many rows there are
abbrev pub counts_in : Pipeline → Counts
counts_in own = record {
  swept = own.rows.swept;
  first = own.rows.first;
  decided = own.rows.decided;
  opened = own.rows.opened;
}

-- the tenant's policies
abbrev pub policies_of : Pipeline → List PolicyData
policies_of own = (section_view own.section).tail_sampling.policies

-- pending spans, with the keys' spans in the place of keys
abbrev pub pending_with : batcher.State ℕ → List SpanTexts → batcher.State Arrival
pending_with b spans = record { rules = b.rules; start = b.start; spans = arrivals_of spans }

-- what the rules see of a tenant whose batches are all written, by what a part shows
abbrev pub state_by : Pipeline → View TraceNote → State
state_by own v = record {
  section = section_view own.section;
  clock = own.clock;
  drained = own.drained;
  opened = own.rows.opened;
  settled = map settled_of v.settled;
  waiting = map waiting_of v.waiting;
  caches = shown own.caches;
  pending = pending_with own.batcher v.pending;
  sender = own.sender;
  ledger = own.ledger;
}

-- what the tenant's part shows
abbrev pub view_in : Pipeline → Part TraceNote → View TraceNote
view_in own p = view (counts_in own) own.batcher.spans p

-- the tenant's part of the stores
abbrev pub part_in : Pipeline → Stores TraceNote → Part TraceNote
part_in own stores = part own.tenant stores

-- what the rules see of such a tenant by its part
abbrev pub written_state_of : Pipeline → Part TraceNote → State
written_state_of own p = state_by own (view_in own p)

-- and by the stores
abbrev pub written_state_in : Pipeline → Stores TraceNote → State
written_state_in own stores = written_state_of own (part_in own stores)

-- ---- batches that aren't written yet

-- the spans at these keys, as they arrived
abbrev pub arrivals_at : Part TraceNote → List ℕ → List Arrival
arrivals_at p keys = arrivals_of (spans_at p.spans p.texts keys)

-- a batch of keys, with their spans
abbrev pub batch_at : Part TraceNote → Batch ℕ → Batch Arrival
batch_at p batch = record { moment = batch.moment; spans = arrivals_at p batch.spans }

-- such batches as they are sent once they are written
abbrev pub unsent_at : Part TraceNote → List (Batch ℕ) → List BatchData
unsent_at p batches = all_sent (map (batch_at p) batches)

-- a sender with these batches behind those that wait
abbrev pub with_behind : List BatchData → SenderData → SenderData
with_behind batches s = record s { queue = s.queue ++ batches }

-- the tenant as if these batches were written too, behind the others
abbrev pub written_with : List (Batch ℕ) → Part TraceNote → Pipeline → Pipeline
written_with batches p own = record own { sender = with_behind (unsent_at p batches) own.sender; unsent = [] }

-- as if all were
abbrev pub all_written : Pipeline → Part TraceNote → Pipeline
all_written own p = written_with own.unsent p own

-- what the rules see of any tenant by its part: its batches that aren't written wait with the others
abbrev pub state_of : Pipeline → Part TraceNote → State
state_of own p = written_state_of (all_written own p) p

-- what the rules see of the tenant
abbrev pub state_in : Pipeline → Stores TraceNote → State
state_in own stores = state_of own (part_in own stores)
