-- The spans of a body that are ready, as they arrive, each with what stands round it as canonical text (OTLP 1.x's
-- trace.proto).
use Rattle.std.specs.Prelude.{◌≡◌, ◌<◌, ◌≤◌, ℕ, List, None, map, length, slice_index_or}
use Rattle.span_view.specs.Reading.{facts_of}
use Rattle.span_pool.specs.Stored.{Origin as OriginData, bytes_of}
use Rattle.tenant_rules.specs.Arrivals.{Arrival}
use Rattle.prepared_body.specs.Origin.{OriginTexts}
use Rattle.prepared_body.specs.declared.noted.NotedSpan.{NotedSpan}

-- what stands round a span; a URL that is missing is empty
abbrev pub origin_view : OriginTexts → OriginData
origin_view o = record {
  resource = o.resource;
  resource_schema_url = bytes_of o.resource_schema_url;
  scope = o.scope;
  scope_schema_url = bytes_of o.scope_schema_url;
}

-- nothing stands round a span
abbrev pub no_origin : OriginTexts
no_origin = record { first = 0; resource = None; resource_schema_url = None; scope = None; scope_schema_url = None }

-- the origin at an index, and one of no texts where there is none
abbrev pub origin_at : List OriginTexts → ℕ → OriginData
origin_at origins index = origin_view (slice_index_or origins index no_origin)

-- the index of the first origin of the same resource spans
abbrev pub first_at : List OriginTexts → ℕ → ℕ
first_at origins index = (slice_index_or origins index no_origin).first

-- both have the same resource with the same schema
pub record HasSameResource (one other : OriginData) : Type 0 where
  pub resource : one.resource ≡ other.resource
  pub schema_url : one.resource_schema_url ≡ other.resource_schema_url

-- each origin has the resource of the first one of its resource spans, which doesn't come after it
abbrev pub AreGrouped : List OriginTexts → Type 0
AreGrouped origins = (index : ℕ) → index < length origins → (first_at origins index ≤ index)
    × HasSameResource (origin_at origins index) (origin_at origins (first_at origins index))

-- those of one resource spans have the same resource as this one
abbrev pub IsGrouped : List OriginTexts → ℕ → Type 0
IsGrouped origins index = (other : ℕ) → other < length origins → first_at origins other ≡ first_at origins index
    → HasSameResource (origin_at origins other) (origin_at origins index)

-- a span of this origin and text, by its texts
abbrev pub arrival_with : OriginData → List ℕ → Arrival
arrival_with origin text = record { facts = facts_of text (bytes_of origin.resource); text = text; origin = origin }

-- what arrived of a span that is ready
abbrev pub arrival_in : List OriginTexts → NotedSpan → Arrival
arrival_in origins span = arrival_with (origin_at origins span.origin) span.text

-- what arrived of several
abbrev pub arrivals_in : List OriginTexts → List NotedSpan → List Arrival
arrivals_in origins spans = map (arrival_in origins) spans
