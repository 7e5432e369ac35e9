-- What the definitions give for small spans that are kept, worked out by hand. Texts are spelled by the encoding guide
-- of Protocol Buffers (https://protobuf.dev/programming-guides/encoding/), with the field numbers of
-- opentelemetry-proto (trace, resource and common v1).
use Rattle.std.specs.Prelude.{◌≡◌, codes, ℕ, ◌^◌, Bool, true, false, List, [], ◌∷◌, Option, Some, None}
use Rattle.otlp_trace.specs.Data.{ResourceData}
use Rattle.otlp_trace.specs.Defaults.{no_span}
use Rattle.span_pool.specs.Stored.{Origin, same_resource, same_scope}
use Rattle.span_pool.specs.Equal.{origin_eq}
use Rattle.span_pool.specs.Read.{IsReadResource, IsReadSpan}

-- a resource with an attribute `k`, the text `w`: field 1, in which field 1 is the key and field 2 the value, whose
-- field 1 is a text
abbrev pub resource : List ℕ
resource = 10 ∷ 8 ∷ 10 ∷ 1 ∷ 107 ∷ 18 ∷ 3 ∷ 10 ∷ 1 ∷ 119 ∷ []

-- of a resource and a scope, each with the URL of its schema
abbrev pub from : Option (List ℕ) → List ℕ → Option (List ℕ) → List ℕ → Origin
from of_resource resource_url of_scope scope_url = record {
  resource = of_resource;
  resource_schema_url = resource_url;
  scope = of_scope;
  scope_schema_url = scope_url;
}

-- ---- resources and scopes that are the same

-- whether two resources, each with its schema's URL, are the same round spans of different scopes
abbrev pub resources : Option (List ℕ) → List ℕ → Option (List ℕ) → List ℕ → Bool
resources one one_url other other_url =
    same_resource (from one one_url None (codes "v")) (from other other_url (Some []) [])

-- and scopes, of spans with different resources
abbrev pub scopes : Option (List ℕ) → List ℕ → Option (List ℕ) → List ℕ → Bool
scopes one one_url other other_url =
    same_scope (from None (codes "v") one one_url) (from (Some []) [] other other_url)

pub record SameResources : Type 0 where
  pub both_missing : resources None [] None [] ≡ true
  pub equal : resources (Some resource) (codes "u") (Some resource) (codes "u") ≡ true
  pub one_missing : resources None [] (Some []) [] ≡ false
  pub other_missing : resources (Some []) [] None [] ≡ false
  pub other_text : resources (Some (1 ∷ 2 ∷ [])) [] (Some (1 ∷ 3 ∷ [])) [] ≡ false
  pub longer_text : resources (Some (1 ∷ [])) [] (Some (1 ∷ 2 ∷ [])) [] ≡ false
  pub other_url : resources (Some resource) (codes "u") (Some resource) (codes "v") ≡ false
  pub both_missing_with_urls : resources None (codes "u") None [] ≡ false

pub record SameScopes : Type 0 where
  pub both_missing : scopes None [] None [] ≡ true
  pub equal : scopes (Some (1 ∷ [])) (codes "u") (Some (1 ∷ [])) (codes "u") ≡ true
  pub one_missing : scopes None [] (Some []) [] ≡ false
  pub other_text : scopes (Some (1 ∷ 2 ∷ [])) [] (Some (1 ∷ 3 ∷ [])) [] ≡ false
  pub other_url : scopes (Some (1 ∷ [])) (codes "u") (Some (1 ∷ [])) (codes "v") ≡ false

-- of a resource of the byte 1 whose schema is at this URL, and a scope of the byte 2 whose schema is at that one
abbrev pub from_two : List ℕ → List ℕ → Origin
from_two url other_url = from (Some (1 ∷ [])) url (Some (2 ∷ [])) other_url

abbrev pub one : Origin
one = from_two (codes "u") (codes "v")

pub record EqualOrigins : Type 0 where
  pub same : origin_eq one one ≡ true
  pub no_resource : origin_eq one (from None (codes "u") (Some (2 ∷ [])) (codes "v")) ≡ false
  pub other_resource_url : origin_eq one (from_two (codes "v") (codes "v")) ≡ false
  pub other_scope : origin_eq one (from (Some (1 ∷ [])) (codes "u") (Some (1 ∷ [])) (codes "v")) ≡ false
  pub other_scope_url : origin_eq one (from_two (codes "u") []) ≡ false

-- ---- messages as a reader makes them

-- the times have 64 bits; an empty span is nested in any room
pub record ReadSpans : Type 0 where
  pub empty : IsReadSpan no_span
  pub too_late : IsReadSpan (record no_span { end_time_unix_nano = 2 ^ 64 }) → ⊥

-- a resource without attributes, and with so many dropped
abbrev pub dropped : ℕ → ResourceData
dropped n = record { attributes = []; dropped_attributes_count = n; unknown = [] }

-- the count has 32 bits
pub record ReadResources : Type 0 where
  pub most : IsReadResource (dropped 4294967295)
  pub one_more : IsReadResource (dropped 4294967296) → ⊥
