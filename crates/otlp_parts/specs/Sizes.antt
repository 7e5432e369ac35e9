-- How many bytes the texts of parts have. This project's own rule.
use Rattle.std.specs.Prelude.{ℕ, ◌+◌, List, length, Option, Some, None}
use Rattle.std.specs.List.{sum_by}
use Rattle.otlp_parts.specs.Texts.{ScopeTexts, ResourceTexts, BodyTexts}

-- a text, where there is one
abbrev pub text_size : Option (List ℕ) → ℕ
text_size None = 0
text_size (Some text) = length text

-- several texts
abbrev pub texts_size : List (List ℕ) → ℕ
texts_size texts = sum_by (λ text. length text) texts

-- those of a scope spans
abbrev pub scope_size : ScopeTexts → ℕ
scope_size s = text_size s.scope + length s.schema_url + texts_size s.spans

-- those of several
abbrev pub scopes_size : List ScopeTexts → ℕ
scopes_size scopes = sum_by scope_size scopes

-- those of a resource spans
abbrev pub resource_size : ResourceTexts → ℕ
resource_size r = text_size r.resource + length r.schema_url + scopes_size r.scopes

-- and of a body
abbrev pub body_size : BodyTexts → ℕ
body_size b = sum_by resource_size b.resources
