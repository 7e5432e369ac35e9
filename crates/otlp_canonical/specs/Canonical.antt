-- What it means that a text is a message's canonical text: it is written of a value, and it is read as that very value.
-- Canonical text is that of `otlp_trace`'s Text, in the proto3 encoding.
use Rattle.std.specs.Prelude.{◌≡◌, Ok, ℕ, List}
use Rattle.otlp_trace.specs.Data.{ResourceData, ScopeData, SpanData, RequestData}
use Rattle.otlp_trace.specs.Text.{span_text, resource_text, scope_text, request_text}
use Rattle.otlp_read.specs.Nested.{NestedResource, NestedScope, NestedSpan, NestedRequest}
use Rattle.otlp_read.specs.Typed.{TypedResource, TypedScope, TypedSpan, TypedRequest}
use Rattle.otlp_trace.specs.Defaults.{no_resource, no_scope, no_span}
use Rattle.otlp_read.specs.Value.{resource_step, scope_step, span_step, IsValue}
use Rattle.otlp_read.specs.Walk.{read_with}

-- With room for so many levels, its own among them, this is a span's canonical text: a reader makes a span of it, whose
-- canonical text is these bytes. The span is one that the types of the code hold, and nested no deeper than that.
pub record CanonicalSpan (room : ℕ) (text : List ℕ) : Type 0 where
  pub value : SpanData
  pub read : read_with span_step room no_span text ≡ Ok value
  pub written : span_text value ≡ text
  pub typed : TypedSpan value
  pub nested : NestedSpan room value

-- A reader makes of the text the span that it makes of the copy, which is that span's canonical text.
pub record CanonicalCopy (room : ℕ) (text copy : List ℕ) : Type 0 where
  pub canonical : CanonicalSpan room copy
  pub same : read_with span_step room no_span text ≡ read_with span_step room no_span copy

-- a resource's canonical text, likewise
pub record CanonicalResource (room : ℕ) (text : List ℕ) : Type 0 where
  pub value : ResourceData
  pub read : read_with resource_step room no_resource text ≡ Ok value
  pub written : resource_text value ≡ text
  pub typed : TypedResource value
  pub nested : NestedResource room value

-- A reader makes of the text the resource that it makes of the copy, which is that resource's canonical text.
pub record ResourceCopy (room : ℕ) (text copy : List ℕ) : Type 0 where
  pub canonical : CanonicalResource room copy
  pub same : read_with resource_step room no_resource text ≡ read_with resource_step room no_resource copy

-- an instrumentation scope's, likewise
pub record CanonicalScope (room : ℕ) (text : List ℕ) : Type 0 where
  pub value : ScopeData
  pub read : read_with scope_step room no_scope text ≡ Ok value
  pub written : scope_text value ≡ text
  pub typed : TypedScope value
  pub nested : NestedScope room value

-- and a copy of one
pub record ScopeCopy (room : ℕ) (text copy : List ℕ) : Type 0 where
  pub canonical : CanonicalScope room copy
  pub same : read_with scope_step room no_scope text ≡ read_with scope_step room no_scope copy

-- that of a request, which is a whole body
pub record CanonicalRequest (text : List ℕ) : Type 0 where
  pub value : RequestData
  pub read : IsValue text value
  pub written : request_text value ≡ text
  pub typed : TypedRequest value
  pub nested : NestedRequest value
