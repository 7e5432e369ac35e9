-- The valid spans of a body as they arrive, each with what stands round it as canonical text (OTLP 1.x's trace.proto).
use Rattle.std.specs.Prelude.{List, Option, map, option_map, filter, flat_map}
use Rattle.otlp_trace.specs.Data.{SpanData, ResourceData, ScopeSpansData, ResourceSpansData, RequestData}
use Rattle.otlp_trace.specs.Text.{span_text, scope_text, resource_text}
use Rattle.otlp_parts.specs.Texts.{is_valid_span}
use Rattle.span_view.specs.Facts.{facts}
use Rattle.span_pool.specs.Stored.{Origin as OriginData}
use Rattle.tenant_rules.specs.Arrivals.{Arrival}

-- of a scope's spans, in this resource spans (OTLP's ResourceSpans and ScopeSpans)
abbrev pub origin_of : ResourceSpansData → ScopeSpansData → OriginData
origin_of resource scope = record {
  resource = option_map resource_text resource.resource;
  resource_schema_url = resource.schema_url;
  scope = option_map scope_text scope.scope;
  scope_schema_url = scope.schema_url;
}

-- a span of this origin, with its resource, from which policies read too
abbrev pub arrival_of : OriginData → Option ResourceData → SpanData → Arrival
arrival_of origin resource span = record { facts = facts span resource; text = span_text span; origin = origin }

-- the valid spans of one scope spans, in its order
abbrev pub arrivals_of_scope : ResourceSpansData → ScopeSpansData → List Arrival
arrivals_of_scope resource scope =
    map (arrival_of (origin_of resource scope) resource.resource) (filter is_valid_span scope.spans)

-- those of one resource spans, in its order
abbrev pub arrivals_of_resource : ResourceSpansData → List Arrival
arrivals_of_resource resource = flat_map (arrivals_of_scope resource) resource.scope_spans

-- all valid spans of a body, in its order
abbrev pub arrivals_of : RequestData → List Arrival
arrivals_of request = flat_map arrivals_of_resource request.resource_spans
