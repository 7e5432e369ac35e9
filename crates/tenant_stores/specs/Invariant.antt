-- What always holds of a tenant's part. This project's own rule.
use Rattle.std.specs.Prelude.{◌≡◌, ◌≢◌, ◌<◌, ◌≤◌, ◌+◌, ℕ, List, [], ◌∷◌, ◌++◌}
use Rattle.std.specs.Prelude.{Option, Some, None, IfSome, if◌then◌else◌, bytes_eq}
use Rattle.span_pool.specs.Stored.{StoredData}
use Rattle.text_pool.specs.declared.pool.CountedText.{CountedText}
use Rattle.trace_rows.specs.declared.table.Row.{Row}
use Rattle.trace_rows.specs.Part.{keys_of}
use Rattle.tenant_stores.specs.Part.{Part}
use Rattle.tenant_stores.specs.Counts.{Counts, AreInOrder, in_table, count}
use Rattle.tenant_stores.specs.View.{keys_in, text_keys_at}

-- how many spans there are
abbrev pub one : Option StoredData → ℕ
one None = 0
one (Some span) = 1

-- for how many the text is kept
abbrev pub uses_of : Option CountedText → ℕ
uses_of None = 0
uses_of (Some kept) = kept.uses

-- the number, where the row is of this trace
abbrev pub if_of : {N : Type 0} → List ℕ → Option (Row N) → ℕ → Option ℕ
if_of trace None number = None
if_of trace (Some row) number = if bytes_eq row.trace trace then Some number else None

-- the latter of two that may be missing
abbrev pub last_of : {X : Type 0} → Option X → Option X → Option X
last_of first None = first
last_of first (Some last) = Some last

-- the last row of this trace among those of the numbers
abbrev pub latest_row_in : {N : Type 0} → (ℕ → Option (Row N)) → List ℕ → List ℕ → Option ℕ
latest_row_in rows [] trace = None
latest_row_in rows (number ∷ numbers) trace = last_of (if_of trace (rows number) number)
    (latest_row_in rows numbers trace)

-- the keys of spans that rows and the list of spans that wait for a batch name
abbrev pub named_keys : {N : Type 0} → Counts → List ℕ → Part N → List ℕ
named_keys n pending p = keys_in p.rows (in_table n) ++ pending

-- with the keys of spans that wait for a batch, and those of texts that are kept for spans to come: each span of the
-- pool is named exactly once, and by no row that is present and decided; a text is kept for as many as name it; each
-- trace's latest row is the last one that it opened, and the table has just the rows that were opened and not swept
pub record StoreInvariant {N : Type 0} (n : Counts) (pending held : List ℕ) (p : Part N) : Type 0 where
  pub order : AreInOrder n
  pub named : (key : ℕ) → count key (named_keys n pending p) ≡ one (p.spans key)
  pub bare : (number : ℕ) → n.first < number → number ≤ n.decided → keys_of (p.rows number) ≡ []
  pub used : (key : ℕ)
      → count key (text_keys_at p.spans (named_keys n pending p)) + count key held ≡ uses_of (p.texts key)
  pub kept : (key : ℕ) → IfSome (p.texts key) (λ text. 0 < text.uses)
  pub latest_rows : (trace : List ℕ) → p.latest_rows trace ≡ latest_row_in p.rows (in_table n) trace
  pub there : (number : ℕ) → n.swept < number → number ≤ n.opened → p.rows number ≢ None
  pub vacant : (number : ℕ) → n.opened < number → p.rows number ≡ None
  pub left : (number : ℕ) → number ≤ n.swept → p.rows number ≡ None
