-- A body read so that of its messages only texts are kept: what the code follows, field by field. The rules are those
-- of `otlp_read`'s Value. So they are those of the proto3 encoding.
use Rattle.std.specs.Prelude.{ℕ, ◌+◌, ◌-◌, ◌^◌, ◌==◌, min, if◌then◌else◌, List, [], ◌∷◌, ◌++◌, Option, Some, None, option_map, Result, Ok}
use Rattle.pb_wire.specs.Grammar.{Bytes}
use Rattle.otlp_trace.specs.Data.{SpanData, ScopeData, ResourceData}
use Rattle.otlp_trace.specs.Text.{span_text, scope_text, resource_text}
use Rattle.otlp_read.specs.declared.fault.ReadFault.{ReadFault}
use Rattle.otlp_read.specs.Numbers.{utf8}
use Rattle.otlp_read.specs.Walk.{◌>>=◌, Step, Known, known_or_dropped, read_with}
use Rattle.otlp_parts.specs.ReadAs.{span_in}
use Rattle.otlp_parts.specs.Embedded.{scope_embedding, resource_embedding, another}
use Rattle.otlp_parts.specs.Texts.{is_valid_span, ScopeTexts, ResourceTexts, BodyTexts, where_any}

-- a count as the code has it, in 64 bits
abbrev pub counted : ℕ → ℕ
counted n = min n (2 ^ 64 - 1)

-- ---- a span

-- a span's text, where it is valid
abbrev pub valid_text : SpanData → Option (List ℕ)
valid_text s = if is_valid_span s then Some (span_text s) else None

-- the same of the span that a text is
abbrev pub kept_span : List ℕ → Result (Option (List ℕ)) ReadFault
kept_span bytes = span_in bytes >>= λ s. Ok (valid_text s)

-- ---- a scope spans

-- what is kept of it
pub record KeptScope : Type 0 where
  pub scope : Option ScopeData
  pub schema_url : List ℕ
  pub spans : List (List ℕ)
  pub invalid : ℕ

-- of one of no fields
abbrev pub no_kept_scope : KeptScope
no_kept_scope = record { scope = None; schema_url = []; spans = []; invalid = 0 }

-- with one more span, or with one more that isn't valid
abbrev pub with_kept_span : KeptScope → Option (List ℕ) → KeptScope
with_kept_span k None = record k { invalid = counted (k.invalid + 1) }
with_kept_span k (Some text) = record k { spans = k.spans ++ text ∷ [] }

-- with one more, of this text
abbrev pub span_onto : KeptScope → List ℕ → Result KeptScope ReadFault
span_onto k bytes = kept_span bytes >>= λ o. Ok (with_kept_span k o)

-- the fields of `ScopeSpans`
abbrev pub kept_scope_known : Known KeptScope
kept_scope_known k n (Bytes bs) =
    if n == 1 then Some (another scope_embedding k.scope bs >>= λ o. Ok (record k { scope = o }))
    else if n == 2 then Some (span_onto k bs)
    else if n == 3 then Some (utf8 bs >>= λ text. Ok (record k { schema_url = text }))
    else None
kept_scope_known k n _ = None

-- after one more field
abbrev pub kept_scope_step : ℕ → Step KeptScope
kept_scope_step room = known_or_dropped kept_scope_known

-- the texts of what is kept
abbrev pub kept_scope_texts : KeptScope → ScopeTexts
kept_scope_texts k = record { scope = option_map scope_text k.scope; schema_url = k.schema_url; spans = k.spans }

-- ---- a resource spans

-- what is kept of it
pub record KeptResource : Type 0 where
  pub resource : Option ResourceData
  pub schema_url : List ℕ
  pub scopes : List ScopeTexts
  pub invalid : ℕ

-- of one of no fields
abbrev pub no_kept_resource : KeptResource
no_kept_resource = record { resource = None; schema_url = []; scopes = []; invalid = 0 }

-- with one more scope spans, which is kept for its spans alone
abbrev pub with_kept_scope : KeptResource → KeptScope → KeptResource
with_kept_scope k s = record k {
  scopes = k.scopes ++ where_any s.spans (kept_scope_texts s);
  invalid = counted (k.invalid + s.invalid);
}

-- the scope spans that a text is
abbrev pub kept_scope_in : List ℕ → Result KeptScope ReadFault
kept_scope_in bytes = read_with kept_scope_step 99 no_kept_scope bytes

-- with one more, of this text
abbrev pub scope_spans_onto : KeptResource → List ℕ → Result KeptResource ReadFault
scope_spans_onto k bytes = kept_scope_in bytes >>= λ s. Ok (with_kept_scope k s)

-- the fields of `ResourceSpans`
abbrev pub kept_resource_known : Known KeptResource
kept_resource_known k n (Bytes bs) =
    if n == 1 then Some (another resource_embedding k.resource bs >>= λ o. Ok (record k { resource = o }))
    else if n == 2 then Some (scope_spans_onto k bs)
    else if n == 3 then Some (utf8 bs >>= λ text. Ok (record k { schema_url = text }))
    else None
kept_resource_known k n _ = None

-- after one more field
abbrev pub kept_resource_step : ℕ → Step KeptResource
kept_resource_step room = known_or_dropped kept_resource_known

-- the texts of what is kept
abbrev pub kept_resource_texts : KeptResource → ResourceTexts
kept_resource_texts k = record {
  resource = option_map resource_text k.resource;
  schema_url = k.schema_url;
  scopes = k.scopes;
}

-- ---- a body, of which the parts are kept

-- of one of no fields
abbrev pub no_texts : BodyTexts
no_texts = record { resources = []; invalid = 0 }

-- with one more resource spans, likewise
abbrev pub with_kept_resource : BodyTexts → KeptResource → BodyTexts
with_kept_resource k r = record {
  resources = k.resources ++ where_any r.scopes (kept_resource_texts r);
  invalid = counted (k.invalid + r.invalid);
}

-- the resource spans that a text is
abbrev pub kept_resource_in : List ℕ → Result KeptResource ReadFault
kept_resource_in bytes = read_with kept_resource_step 100 no_kept_resource bytes

-- with one more, of this text
abbrev pub resource_spans_onto : BodyTexts → List ℕ → Result BodyTexts ReadFault
resource_spans_onto k bytes = kept_resource_in bytes >>= λ r. Ok (with_kept_resource k r)

-- the fields of `ExportTraceServiceRequest`
abbrev pub kept_body_known : Known BodyTexts
kept_body_known k n (Bytes bs) =
    if n == 1 then Some (resource_spans_onto k bs) else None
kept_body_known k n _ = None

-- after one more field
abbrev pub kept_body_step : ℕ → Step BodyTexts
kept_body_step room = known_or_dropped kept_body_known

-- the parts of a body, or the first fault that is met
abbrev pub kept_of : List ℕ → Result BodyTexts ReadFault
kept_of bytes = read_with kept_body_step 101 no_texts bytes
