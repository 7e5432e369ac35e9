-- The spans of a body as they arrive, each with what stands round it as canonical text, and which of them are valid
-- (the trace data model of OpenTelemetry).
use Rattle.std.specs.Prelude.{ℕ, Bool, List, filter, ◌&&◌}
use Rattle.span_view.specs.Facts.{SpanFacts}
use Rattle.span_pool.specs.Ids.{is_id}
use Rattle.span_pool.specs.Stored.{Origin}

-- one span of a body: its ids and what policies ask, its text, and the texts of its resource and its scope
pub record Arrival : Type 0 where
  pub facts : SpanFacts
  pub text : List ℕ
  pub origin : Origin

-- a trace id has 16 bytes, a span id 8
abbrev pub is_valid : Arrival → Bool
is_valid arrival = is_id 16 arrival.facts.trace_id && is_id 8 arrival.facts.span_id

-- what is left where the invalid ones are left out
abbrev pub valid : List Arrival → List Arrival
valid arrivals = filter is_valid arrivals

-- the trace of a span, by its id
abbrev pub trace_of : Arrival → List ℕ
trace_of arrival = arrival.facts.trace_id
