-- The request that a batch is, as a value, and the spans of a request with what stands round each (OTLP 1.x's
-- trace.proto and trace_service.proto).
use Rattle.std.specs.Prelude.{ℕ, List, [], ◌∷◌, Option, option_map, map, flat_map, IfSome}
use Rattle.std.specs.Str.{IsUtf8}
use Rattle.otlp_trace.specs.Data.{ResourceData, ScopeData, SpanData, ScopeSpansData, ResourceSpansData, RequestData}
use Rattle.otlp_trace.specs.Text.{resource_text, scope_text, span_text}
use Rattle.otlp_read.specs.Nested.{NestedResource, NestedScope, NestedSpan}
use Rattle.otlp_read.specs.RoundTrip.{IsShort}
use Rattle.otlp_read.specs.Typed.{TypedResource, TypedScope, TypedSpan}
use Rattle.span_pool.specs.Stored.{SpanTexts}
use Rattle.span_batcher.specs.ExportText.{runs, same_resource, same_scope}

-- a span with its resource and its scope, where it has any, and the URLs of their schemas, empty where there is none
pub record PlacedSpan : Type 0 where
  pub resource : Option ResourceData
  pub resource_schema_url : List ℕ
  pub scope : Option ScopeData
  pub scope_schema_url : List ℕ
  pub span : SpanData

-- the same by canonical texts
abbrev pub written : PlacedSpan → SpanTexts
written p = record {
  origin = record {
    resource = option_map resource_text p.resource;
    resource_schema_url = p.resource_schema_url;
    scope = option_map scope_text p.scope;
    scope_schema_url = p.scope_schema_url;
  };
  text = span_text p.span;
}

-- ---- the spans of a request, in its order

-- a span in a scope spans of a resource spans
abbrev pub placed : ResourceSpansData → ScopeSpansData → SpanData → PlacedSpan
placed resource scope span = record {
  resource = resource.resource;
  resource_schema_url = resource.schema_url;
  scope = scope.scope;
  scope_schema_url = scope.schema_url;
  span = span;
}

-- those of a scope spans
abbrev pub spans_of_scope : ResourceSpansData → ScopeSpansData → List PlacedSpan
spans_of_scope resource scope = map (placed resource scope) scope.spans

-- those of a resource spans
abbrev pub spans_of_resource : ResourceSpansData → List PlacedSpan
spans_of_resource resource = flat_map (spans_of_scope resource) resource.scope_spans

-- all of them
abbrev pub spans_of : RequestData → List PlacedSpan
spans_of request = flat_map spans_of_resource request.resource_spans

-- ---- the request of a batch

-- the scope spans of spans that have one scope
abbrev pub one_scope_spans : List PlacedSpan → List ScopeSpansData
one_scope_spans [] = []
one_scope_spans (x ∷ xs) =
    record { scope = x.scope; spans = map (λ p. p.span) (x ∷ xs); schema_url = x.scope_schema_url } ∷ []

-- the resource spans of spans that have one resource
abbrev pub one_resource_spans : List PlacedSpan → List ResourceSpansData
one_resource_spans [] = []
one_resource_spans (x ∷ xs) = record {
  resource = x.resource;
  scope_spans = flat_map one_scope_spans (runs (λ a b. same_scope (written a) (written b)) (x ∷ xs));
  schema_url = x.resource_schema_url;
} ∷ []

-- the request in which neighbours of one resource, and in it of one scope, stand together
abbrev pub request_of : List PlacedSpan → RequestData
request_of spans = record {
  resource_spans = flat_map one_resource_spans (runs (λ a b. same_resource (written a) (written b)) spans);
}

-- ---- spans that a reader takes where a request has them

-- A request is at depth 0, so a resource is at depth 2, a scope and a span are at depth 3, and none is deeper than 100.
pub record IsReadableResource (r : ResourceData) : Type 0 where
  pub typed : TypedResource r
  pub nested : NestedResource 99 r
  pub short : IsShort (resource_text r)

-- the same of a scope
pub record IsReadableScope (s : ScopeData) : Type 0 where
  pub typed : TypedScope s
  pub nested : NestedScope 98 s
  pub short : IsShort (scope_text s)

-- and of a span with what stands round it
pub record IsReadable (p : PlacedSpan) : Type 0 where
  pub resource : IfSome p.resource IsReadableResource
  pub resource_schema_url : IsUtf8 p.resource_schema_url
  pub scope : IfSome p.scope IsReadableScope
  pub scope_schema_url : IsUtf8 p.scope_schema_url
  pub typed : TypedSpan p.span
  pub nested : NestedSpan 98 p.span
