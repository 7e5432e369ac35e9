-- What it means that a message reads back: the text that is written of it is read as the message, where the message is
-- nested no deeper than a reader takes. The text is shorter than 2^64 bytes, as any text in memory is (the proto3
-- encoding, as Value and `otlp_trace`'s Text have it).
use Rattle.std.specs.Prelude.{◌≡◌, ◌<◌, ◌^◌, ℕ, List, length, Ok}
use Rattle.otlp_trace.specs.Data.{ResourceData, ScopeData, SpanData, RequestData, ResponseData}
use Rattle.otlp_trace.specs.Text.{resource_text, scope_text, span_text, request_text, response_text}
use Rattle.otlp_read.specs.Nested.{NestedResource, NestedScope, NestedSpan, NestedRequest}
use Rattle.otlp_read.specs.Response.{IsResponse}
use Rattle.otlp_trace.specs.Defaults.{no_resource, no_scope, no_span}
use Rattle.otlp_read.specs.Value.{resource_step, scope_step, span_step, IsValue}
use Rattle.otlp_read.specs.Walk.{read_with}

-- a text that a memory of 64-bit addresses holds
abbrev pub IsShort : List ℕ → Type 0
IsShort text = length text < 2 ^ 64

-- a request's body
abbrev pub RequestReadsBack : RequestData → Type 0
RequestReadsBack v = NestedRequest v → IsShort (request_text v) → IsValue (request_text v) v

-- a reply's body
abbrev pub ResponseReadsBack : ResponseData → Type 0
ResponseReadsBack v = IsShort (response_text v) → IsResponse (response_text v) v

-- a span, where there is room for so many levels, its own among them
abbrev pub SpanReadsBack : ℕ → SpanData → Type 0
SpanReadsBack room v = NestedSpan room v → IsShort (span_text v) → read_with span_step room no_span (span_text v) ≡ Ok v

-- a resource, likewise
abbrev pub ResourceReadsBack : ℕ → ResourceData → Type 0
ResourceReadsBack room v =
    NestedResource room v → IsShort (resource_text v)
    → read_with resource_step room no_resource (resource_text v) ≡ Ok v

-- a scope, likewise
abbrev pub ScopeReadsBack : ℕ → ScopeData → Type 0
ScopeReadsBack room v =
    NestedScope room v → IsShort (scope_text v) → read_with scope_step room no_scope (scope_text v) ≡ Ok v
