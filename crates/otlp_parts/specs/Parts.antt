-- What the types of the code stand for, without where their bytes lie in memory. This project's own rule.
use Rattle.std.specs.Prelude.{ℕ, Bool, true, false, List, [], ◌∷◌, map}
use Rattle.span_pool.specs.Stored.{bytes_of}
use Rattle.otlp_parts.specs.Texts.{ScopeTexts, ResourceTexts, BodyTexts}
use Rattle.otlp_parts.specs.Embedded.{scope_embedding, resource_embedding}
use Rattle.otlp_parts.specs.Found.{found_view}
use Rattle.otlp_parts.specs.Kept.{KeptScope, KeptResource}
use Rattle.otlp_parts.specs.declared.parts.SpanTexts.{SpanTexts}
use Rattle.otlp_parts.specs.declared.parts.SpanTexts.TheVariants as span_texts
use Rattle.otlp_parts.specs.declared.parts.ScopeParts.{ScopeParts}
use Rattle.otlp_parts.specs.declared.parts.ScopeList.{ScopeList}
use Rattle.otlp_parts.specs.declared.parts.ScopeList.TheVariants as scope_list
use Rattle.otlp_parts.specs.declared.parts.ResourceParts.{ResourceParts}
use Rattle.otlp_parts.specs.declared.parts.BodyParts.{BodyParts}
use Rattle.otlp_parts.specs.declared.held.ScopeReading.{ScopeReading}
use Rattle.otlp_parts.specs.declared.held.ResourceReading.{ResourceReading}

-- the spans of a scope
abbrev pub spans_in : SpanTexts → List (List ℕ)
spans_in (span_texts.One span) = span ∷ []
spans_in (span_texts.More spans) = spans.items

-- whether they take a list
abbrev pub have_list : SpanTexts → Bool
have_list (span_texts.One span) = false
have_list (span_texts.More spans) = true

-- a scope spans
abbrev pub scope_parts_view : ScopeParts → ScopeTexts
scope_parts_view p = record { scope = p.scope; schema_url = bytes_of p.schema_url; spans = spans_in p.spans }

-- the scope spans of a resource
abbrev pub scopes_in : ScopeList → List ScopeTexts
scopes_in (scope_list.One scope) = scope_parts_view scope ∷ []
scopes_in (scope_list.More scopes) = map scope_parts_view scopes.items

-- whether they take a list
abbrev pub scopes_have_list : ScopeList → Bool
scopes_have_list (scope_list.One scope) = false
scopes_have_list (scope_list.More scopes) = true

-- a resource spans
abbrev pub resource_parts_view : ResourceParts → ResourceTexts
resource_parts_view p = record {
  resource = p.resource;
  schema_url = bytes_of p.schema_url;
  scopes = scopes_in p.scopes;
}

-- a body
abbrev pub body_parts_view : BodyParts → BodyTexts
body_parts_view p = record { resources = map resource_parts_view p.resources.items; invalid = p.invalid }

-- a scope spans, as far as it was read
abbrev pub scope_reading_view : ScopeReading → KeptScope
scope_reading_view f = record {
  scope = found_view scope_embedding f.scope;
  schema_url = bytes_of f.schema_url;
  spans = f.spans.items;
  invalid = f.invalid;
}

-- a resource spans, likewise
abbrev pub resource_reading_view : ResourceReading → KeptResource
resource_reading_view f = record {
  resource = found_view resource_embedding f.resource;
  schema_url = bytes_of f.schema_url;
  scopes = map scope_parts_view f.scopes.items;
  invalid = f.invalid;
}
