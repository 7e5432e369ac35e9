-- What stands round the spans of a scope of a resource, as it is kept once for them.
use Rattle.std.specs.Prelude.{ℕ, List, Bool, true, Option, Some, None, if◌then◌else◌, ◌&&◌, nat_le, length}

-- the canonical texts of OTLP's Resource and InstrumentationScope with the URLs of their schemas, where they are there,
-- and the index of the first origin of the same ResourceSpans
pub record OriginTexts : Type 0 where
  pub first : ℕ
  pub resource : Option (List ℕ)
  pub resource_schema_url : Option (List ℕ)
  pub scope : Option (List ℕ)
  pub scope_schema_url : Option (List ℕ)

-- a text, where it is there
abbrev pub text_if : Bool → List ℕ → Option (List ℕ)
text_if there text = if there then Some text else None

-- whether a text, where it is there, has no more than so many bytes
abbrev pub is_within : ℕ → Option (List ℕ) → Bool
is_within bytes None = true
is_within bytes (Some text) = nat_le (length text) bytes

-- whether none of the texts that are there has more
abbrev pub are_texts_within : ℕ → OriginTexts → Bool
are_texts_within bytes o =
    is_within bytes o.resource && is_within bytes o.resource_schema_url
    && is_within bytes o.scope && is_within bytes o.scope_schema_url
