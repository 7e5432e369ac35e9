-- What a body's reader makes of a text that stands in the body: a span's message is at depth 3, a scope spans' at depth
-- 2, a resource spans' at depth 1. Which message holds which is of OTLP 1.x's trace.proto; the depths are this
-- project's own rule.
use Rattle.std.specs.Prelude.{◌≡◌, ◌≤◌, ◌-◌, ℕ, List, length, slice_range, Result, Ok, Err}
use Rattle.otlp_trace.specs.Data.{SpanData, ScopeSpansData, ResourceSpansData}
use Rattle.otlp_read.specs.declared.fault.ReadFault.{ReadFault}
use Rattle.otlp_trace.specs.Defaults.{no_span, no_scope_spans, no_resource_spans}
use Rattle.otlp_read.specs.Value.{span_step, scope_spans_step, resource_spans_step}
use Rattle.otlp_read.specs.Walk.{read_with}

-- a span's text
abbrev pub span_in : List ℕ → Result SpanData ReadFault
span_in bytes = read_with span_step 98 no_span bytes

-- a scope spans'
abbrev pub scope_spans_in : List ℕ → Result ScopeSpansData ReadFault
scope_spans_in bytes = read_with scope_spans_step 99 no_scope_spans bytes

-- a resource spans'
abbrev pub resource_spans_in : List ℕ → Result ResourceSpansData ReadFault
resource_spans_in bytes = read_with resource_spans_step 100 no_resource_spans bytes

-- what was read, or another value after a fault
abbrev pub value_or : {A : Type 0} → A → Result A ReadFault → A
value_or other (Ok a) = a
value_or other (Err fault) = other

-- the span that such a text is
abbrev pub span_of : List ℕ → SpanData
span_of bytes = value_or no_span (span_in bytes)

-- this content stands in the text, up to this place
abbrev pub Stands : List ℕ → ℕ → List ℕ → Type 0
Stands text end content = (length content ≤ end) × (slice_range text (end - length content) end ≡ content)
