-- What a tenant's part shows: its rows with spans in the place of keys, and spans with texts in the place of keys. A
-- key that names nothing shows nothing; of a sound part each names one thing. This project's own rule.
use Rattle.std.specs.Prelude.{ℕ, Bool, List, [], ◌∷◌, ◌++◌, Option, Some, None, option_to_list}
use Rattle.span_pool.specs.declared.keys.TextKeys.{TextKeys}
use Rattle.span_pool.specs.Stored.{StoredData, SpanTexts, texts_of}
use Rattle.text_pool.specs.Part.{text_of}
use Rattle.text_pool.specs.declared.pool.CountedText.{CountedText}
use Rattle.trace_rows.specs.declared.table.Row.{Row}
use Rattle.trace_rows.specs.Part.{keys_of}
use Rattle.tenant_stores.specs.Part.{Part}
use Rattle.tenant_stores.specs.Counts.{Counts, settled_numbers, waiting_numbers}

-- a row that is present and decided
pub record SettledRow : Type 0 where
  pub trace : List ℕ
  pub sampled : Bool

-- a row that waits for its decision, with its spans in order of arrival, and what is noted of them
pub record WaitingRow (N : Type 0) : Type 0 where
  pub trace : List ℕ
  pub due : ℕ
  pub spans : List SpanTexts
  pub note : N

-- what a tenant has: rows by number, and the spans that wait for a batch
pub record View (N : Type 0) : Type 0 where
  pub settled : List SettledRow
  pub waiting : List (WaitingRow N)
  pub pending : List SpanTexts

-- a text's bytes, by its key
abbrev pub text_at : (ℕ → Option CountedText) → ℕ → Option (List ℕ)
text_at texts key = text_of (texts key)

-- the span, where there is one, by its texts
abbrev pub shown : (ℕ → Option CountedText) → Option StoredData → List SpanTexts
shown texts None = []
shown texts (Some span) = texts_of (text_at texts) span ∷ []

-- the spans at these keys
abbrev pub spans_at : (ℕ → Option StoredData) → (ℕ → Option CountedText) → List ℕ → List SpanTexts
spans_at spans texts [] = []
spans_at spans texts (key ∷ keys) = shown texts (spans key) ++ spans_at spans texts keys

-- the row as one that waits
abbrev pub as_waiting : {N : Type 0} → (ℕ → Option StoredData) → (ℕ → Option CountedText) → Option (Row N)
    → List (WaitingRow N)
as_waiting spans texts None = []
as_waiting spans texts (Some row) = record {
  trace = row.trace;
  due = row.due;
  spans = spans_at spans texts row.keys;
  note = row.note;
} ∷ []

-- the row as one that is decided
abbrev pub as_settled : {N : Type 0} → Option (Row N) → List SettledRow
as_settled None = []
as_settled (Some row) = record { trace = row.trace; sampled = row.sampled } ∷ []

-- the rows of these numbers, as such that wait
abbrev pub waiting_rows : {N : Type 0} → (ℕ → Option StoredData) → (ℕ → Option CountedText) → (ℕ → Option (Row N))
    → List ℕ
    → List (WaitingRow N)
waiting_rows spans texts rows [] = []
waiting_rows spans texts rows (number ∷ numbers) =
    as_waiting spans texts (rows number) ++ waiting_rows spans texts rows numbers

-- the rows of these numbers, as such that are decided
abbrev pub settled_rows : {N : Type 0} → (ℕ → Option (Row N)) → List ℕ → List SettledRow
settled_rows rows [] = []
settled_rows rows (number ∷ numbers) = as_settled (rows number) ++ settled_rows rows numbers

-- what a part shows, by the numbers of its rows and the keys of the spans that wait for a batch
abbrev pub view : {N : Type 0} → Counts → List ℕ → Part N → View N
view n pending p = record {
  settled = settled_rows p.rows (settled_numbers n);
  waiting = waiting_rows p.spans p.texts p.rows (waiting_numbers n);
  pending = spans_at p.spans p.texts pending;
}

-- the keys of spans that these rows have
abbrev pub keys_in : {N : Type 0} → (ℕ → Option (Row N)) → List ℕ → List ℕ
keys_in rows [] = []
keys_in rows (number ∷ numbers) = keys_of (rows number) ++ keys_in rows numbers

-- the keys of texts that a span has: of its resource, its scope, and the URLs of their schemas
abbrev pub text_keys : TextKeys → List ℕ
text_keys keys =
    option_to_list keys.resource ++ (option_to_list keys.resource_schema_url
    ++ (option_to_list keys.scope ++ option_to_list keys.scope_schema_url))

-- the same of a span that may be missing
abbrev pub text_keys_of : Option StoredData → List ℕ
text_keys_of None = []
text_keys_of (Some span) = text_keys span.keys

-- the keys of texts that the spans at these keys have
abbrev pub text_keys_at : (ℕ → Option StoredData) → List ℕ → List ℕ
text_keys_at spans [] = []
text_keys_at spans (key ∷ keys) = text_keys_of (spans key) ++ text_keys_at spans keys
