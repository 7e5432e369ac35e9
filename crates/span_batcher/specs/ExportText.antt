-- What a batch of spans is sent as: neighbours of one resource and one schema of it share a resource spans, and in it
-- neighbours of one scope and one schema of it share a scope spans (OTLP 1.x's trace.proto). Each span is told by its
-- canonical text and those of its resource and scope.
use Rattle.std.specs.Prelude.{ℕ, Bool, List, [], ◌∷◌, flat_map, if◌then◌else◌}
use Rattle.otlp_trace.specs.Text.{bytes_field, repeated, scope_spans_of, resource_spans_of}
use Rattle.span_pool.specs.Stored.{SpanTexts}
use Rattle.span_pool.specs.Stored as pool

-- one more before the runs of the others
abbrev pub joined_to : {A : Type 0} → (A → A → Bool) → A → List (List A) → List (List A)
joined_to same x [] = (x ∷ []) ∷ []
joined_to same x ([] ∷ rest) = (x ∷ []) ∷ rest
joined_to same x ((y ∷ ys) ∷ rest) = if same x y then (x ∷ y ∷ ys) ∷ rest else (x ∷ []) ∷ (y ∷ ys) ∷ rest

-- a list cut where neighbours differ
abbrev pub runs : {A : Type 0} → (A → A → Bool) → List A → List (List A)
runs same [] = []
runs same (x ∷ xs) = joined_to same x (runs same xs)

-- neighbours share a resource spans where resource and schema URL are the same, or missing in both
abbrev pub same_resource : SpanTexts → SpanTexts → Bool
same_resource a b = pool.same_resource a.origin b.origin

-- and a scope spans where scope and schema URL are
abbrev pub same_scope : SpanTexts → SpanTexts → Bool
same_scope a b = pool.same_scope a.origin b.origin

-- a scope spans with these spans, which have one scope
abbrev pub scope_spans_field : List SpanTexts → List ℕ
scope_spans_field [] = []
scope_spans_field (x ∷ xs) =
    bytes_field 2 (scope_spans_of x.origin.scope (repeated 2 (λ a. a.text) (x ∷ xs)) x.origin.scope_schema_url)

-- a resource spans with these spans, which have one resource
abbrev pub resource_spans_field : List SpanTexts → List ℕ
resource_spans_field [] = []
resource_spans_field (x ∷ xs) =
    bytes_field 1 (resource_spans_of x.origin.resource (flat_map scope_spans_field (runs same_scope (x ∷ xs)))
    x.origin.resource_schema_url)

-- the canonical text of that request
abbrev pub export_text : List SpanTexts → List ℕ
export_text spans = flat_map resource_spans_field (runs same_resource spans)
