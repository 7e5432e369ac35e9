-- A span as it is kept, with its own text: those that it shares with others are kept apart, each under a key. That is
-- this project's own rule. A span stands in a ScopeSpans of a ResourceSpans, each with the URL of its schema (OTLP
-- 1.x's trace.proto). What a span stands for is told by a function from keys to texts.
use Rattle.std.specs.Prelude.{ℕ, Bool, true, false, List, [], Option, Some, None, nat_eq, ◌&&◌}
use Rattle.std.specs.Option.{option_eq}
use Rattle.std.specs.Cmp.Lexicographic.{pointwise}
use Rattle.span_pool.specs.declared.keys.TextKeys.{TextKeys}

-- the canonical texts of a span's resource and scope, where it has any, and the URLs of their schemas, empty where
-- there is none
pub record Origin : Type 0 where
  pub resource : Option (List ℕ)
  pub resource_schema_url : List ℕ
  pub scope : Option (List ℕ)
  pub scope_schema_url : List ℕ

-- keys of texts, with the number of the tenant whose texts they name
pub record OwnedKeys : Type 0 where
  pub owner : ℕ
  pub keys : TextKeys

-- a span as it is kept: its tenant's number, the keys of what it shares, and its canonical text
pub record StoredData : Type 0 where
  pub owner : ℕ
  pub keys : TextKeys
  pub text : List ℕ

-- a span by its texts: where it came from, and its canonical text
pub record SpanTexts : Type 0 where
  pub origin : Origin
  pub text : List ℕ

-- the bytes of a text that may be missing, which then has none
abbrev pub bytes_of : Option (List ℕ) → List ℕ
bytes_of None = []
bytes_of (Some bytes) = bytes

-- the key, where there is one
abbrev pub key_where : Bool → ℕ → Option ℕ
key_where true key = Some key
key_where false key = None

-- the text at a key, where there is a key and a text
abbrev pub text_at : (ℕ → Option (List ℕ)) → Option ℕ → Option (List ℕ)
text_at texts None = None
text_at texts (Some key) = texts key

-- the origin that keys name; a URL that is missing is empty
abbrev pub origin_at : (ℕ → Option (List ℕ)) → TextKeys → Origin
origin_at texts keys = record {
  resource = text_at texts keys.resource;
  resource_schema_url = bytes_of (text_at texts keys.resource_schema_url);
  scope = text_at texts keys.scope;
  scope_schema_url = bytes_of (text_at texts keys.scope_schema_url);
}

-- the span that it is where these texts are kept
abbrev pub texts_of : (ℕ → Option (List ℕ)) → StoredData → SpanTexts
texts_of texts span = record { origin = origin_at texts span.keys; text = span.text }

-- the same key, or none in both
abbrev pub same_key : Option ℕ → Option ℕ → Bool
same_key one other = option_eq nat_eq one other

-- the same key in each place
abbrev pub same_keys : TextKeys → TextKeys → Bool
same_keys one other =
    same_key one.resource other.resource && (same_key one.resource_schema_url other.resource_schema_url
    && (same_key one.scope other.scope && same_key one.scope_schema_url other.scope_schema_url))

-- keys of one tenant, the same in each place, so that both name the same texts
abbrev pub is_like : StoredData → StoredData → Bool
is_like one other = nat_eq one.owner other.owner && same_keys one.keys other.keys

-- the same bytes in the same order
abbrev pub same_bytes : List ℕ → List ℕ → Bool
same_bytes one other = pointwise nat_eq one other

-- both are missing, or both are there with the same bytes
abbrev pub same_text : Option (List ℕ) → Option (List ℕ) → Bool
same_text one other = option_eq same_bytes one other

-- the same resource with the same schema, or none in both
abbrev pub same_resource : Origin → Origin → Bool
same_resource one other =
    same_text one.resource other.resource && same_bytes one.resource_schema_url other.resource_schema_url

-- the same scope with the same schema, or none in both
abbrev pub same_scope : Origin → Origin → Bool
same_scope one other = same_text one.scope other.scope && same_bytes one.scope_schema_url other.scope_schema_url
