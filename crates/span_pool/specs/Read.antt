-- Spans and resources as a reader makes them, with texts of a length that can be spelled (the proto3 encoding).
use Rattle.std.specs.Prelude.{ℕ}
use Rattle.otlp_trace.specs.Data.{ResourceData, SpanData}
use Rattle.otlp_trace.specs.Text.{resource_text, span_text}
use Rattle.otlp_read.specs.Nested.{NestedResource, NestedSpan}
use Rattle.otlp_read.specs.RoundTrip.{IsShort}
use Rattle.otlp_read.specs.Typed.{TypedResource, TypedSpan}

-- a span has what the code's types give, and is nested within some room
pub record IsReadSpan (s : SpanData) : Type 0 where
  pub typed : TypedSpan s
  pub room : ℕ
  pub nested : NestedSpan room s
  pub short : IsShort (span_text s)

-- the same of a resource, within a room of its own
pub record IsReadResource (r : ResourceData) : Type 0 where
  pub typed : TypedResource r
  pub room : ℕ
  pub nested : NestedResource room r
  pub short : IsShort (resource_text r)
