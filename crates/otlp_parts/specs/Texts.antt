-- The parts of a body: the canonical texts of its valid spans, and of the resources and scopes that they stand in (OTLP
-- 1.x's trace.proto). A span whose ids aren't as the trace data model of OpenTelemetry has them is left out and
-- counted, and so is what has no other spans.
use Rattle.std.specs.Prelude.{◌≡◌, ℕ, Bool, List, Option, map, option_map, filter, flat_map, not, ◌&&◌, [], ◌∷◌}
use Rattle.std.specs.List.{count_by, sum_by}
use Rattle.otlp_trace.specs.Data.{SpanData, ScopeSpansData, ResourceSpansData, RequestData}
use Rattle.otlp_trace.specs.Text.{span_text, scope_text, resource_text}
use Rattle.otlp_read.specs.Value.{IsValue}
use Rattle.span_pool.specs.Ids.{is_id}

-- a trace id has 16 bytes, a span id 8
abbrev pub is_valid_span : SpanData → Bool
is_valid_span s = is_id 16 s.trace_id && is_id 8 s.span_id

-- the texts of those spans that are valid
abbrev pub valid_texts : List SpanData → List (List ℕ)
valid_texts spans = map span_text (filter is_valid_span spans)

-- a scope spans: its scope where it has one, the URL of its schema, and its valid spans in their order
pub record ScopeTexts : Type 0 where
  pub scope : Option (List ℕ)
  pub schema_url : List ℕ
  pub spans : List (List ℕ)

-- a resource spans: its resource where it has one, the URL of its schema, and in their order those of its scope spans
-- that have a valid span
pub record ResourceTexts : Type 0 where
  pub resource : Option (List ℕ)
  pub schema_url : List ℕ
  pub scopes : List ScopeTexts

-- a body: in their order those of its resource spans that have a valid span, and how many of its spans aren't valid
pub record BodyTexts : Type 0 where
  pub resources : List ResourceTexts
  pub invalid : ℕ

-- the texts of a scope spans
abbrev pub scope_texts : ScopeSpansData → ScopeTexts
scope_texts s = record {
  scope = option_map scope_text s.scope;
  schema_url = s.schema_url;
  spans = valid_texts s.spans;
}

-- this, where the list has an entry
abbrev pub where_any : {A B : Type 0} → List B → A → List A
where_any [] a = []
where_any (b ∷ bs) a = a ∷ []

-- the same of a scope spans, where it has a valid span
abbrev pub scope_with_spans : ScopeSpansData → List ScopeTexts
scope_with_spans s = where_any (valid_texts s.spans) (scope_texts s)

-- of a resource spans
abbrev pub resource_texts : ResourceSpansData → ResourceTexts
resource_texts r = record {
  resource = option_map resource_text r.resource;
  schema_url = r.schema_url;
  scopes = flat_map scope_with_spans r.scope_spans;
}

-- the same, where it has a valid span
abbrev pub resource_with_spans : ResourceSpansData → List ResourceTexts
resource_with_spans r = where_any (flat_map scope_with_spans r.scope_spans) (resource_texts r)

-- how many of these spans aren't valid
abbrev pub invalid_among : List SpanData → ℕ
invalid_among spans = count_by (λ s. not (is_valid_span s)) spans

-- the same in a resource spans
abbrev pub invalid_in_resource : ResourceSpansData → ℕ
invalid_in_resource r = sum_by (λ s. invalid_among s.spans) r.scope_spans

-- and in a body
abbrev pub invalid_in : RequestData → ℕ
invalid_in v = sum_by invalid_in_resource v.resource_spans

-- the parts of a body of this value
abbrev pub texts_of : RequestData → BodyTexts
texts_of v = record { resources = flat_map resource_with_spans v.resource_spans; invalid = invalid_in v }

-- the body has a value, and these are its parts
pub record ArePartsOf (body : List ℕ) (parts : BodyTexts) : Type 0 where
  pub value : RequestData
  pub is : IsValue body value
  pub same : parts ≡ texts_of value
