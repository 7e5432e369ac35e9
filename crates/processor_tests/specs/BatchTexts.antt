-- What small batches are sent as, worked out by hand: field numbers are those of opentelemetry-proto's trace.proto and
-- trace_service.proto, spelled by the encoding guide of Protocol Buffers
-- (https://protobuf.dev/programming-guides/encoding/). A field of bytes has the tag 8 n + 2 and then a length.
use Rattle.std.specs.Prelude.{◌≡◌, codes, ℕ, List, [], ◌∷◌, Option, Some, None}
use Rattle.otlp_trace.specs.Data.{ResourceData, ScopeData, RequestData}
use Rattle.otlp_trace.specs.Defaults.{no_resource, no_scope, no_span}
use Rattle.otlp_trace.specs.Examples.{example_resource, example_scope, example_span, example_request, example_bytes}
use Rattle.span_batcher.specs.ExportText.{export_text}
use Rattle.span_batcher.specs.Request.{PlacedSpan, written, spans_of, request_of, IsReadable}

-- ---- requests

-- of the example trace
abbrev pub example_placed : PlacedSpan
example_placed = record {
  resource = Some example_resource;
  resource_schema_url = [];
  scope = Some example_scope;
  scope_schema_url = [];
  span = example_span;
}

abbrev pub dropped : ℕ → ResourceData
dropped n = record no_resource { dropped_attributes_count = n }

-- a span whose trace id has this one byte
abbrev pub placed : Option ResourceData → Option ScopeData → ℕ → PlacedSpan
placed of_resource of_scope id = record {
  resource = of_resource;
  resource_schema_url = codes "u";
  scope = of_scope;
  scope_schema_url = codes "v";
  span = record no_span { trace_id = id ∷ [] };
}

abbrev pub three : List PlacedSpan
three = placed (Some (dropped 1)) None 1 ∷ placed (Some (dropped 1)) (Some no_scope) 2 ∷ placed None None 3 ∷ []

abbrev pub three_asked : RequestData
three_asked = record {
  resource_spans = record {
    resource = Some (dropped 1);
    scope_spans = record { scope = None; spans = record no_span { trace_id = 1 ∷ [] } ∷ []; schema_url = codes "v" }
        ∷ record {
          scope = Some no_scope;
          spans = record no_span { trace_id = 2 ∷ [] } ∷ [];
          schema_url = codes "v";
        }
        ∷ [];
    schema_url = codes "u";
  }
      ∷ record {
        resource = None;
        scope_spans = record { scope = None; spans = record no_span { trace_id = 3 ∷ [] } ∷ []; schema_url = codes "v" }
            ∷ [];
        schema_url = codes "u";
      }
      ∷ [];
}

pub record Requests : Type 0 where
  pub example : request_of (example_placed ∷ []) ≡ example_request
  pub example_spans : spans_of example_request ≡ example_placed ∷ []
  pub example_text : export_text (written example_placed ∷ []) ≡ example_bytes
  pub three_grouped : request_of three ≡ three_asked
  pub three_spans : spans_of three_asked ≡ three

-- a count has 32 bits
pub record ReadablePlaces : Type 0 where
  pub most : IsReadable (placed (Some (dropped 4294967295)) (Some no_scope) 1)
  pub one_more : IsReadable (placed (Some (dropped 4294967296)) None 1) → ⊥
