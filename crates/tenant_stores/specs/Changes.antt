-- What the calls change in their tenant's part. This project's own rule.
use Rattle.std.specs.Prelude.{◌≡◌, ℕ, List, [], ◌∷◌, Bool, false, Option, Some, None}
use Rattle.span_pool.specs.Stored.{StoredData}
use Rattle.span_pool.specs.Pool.{with_span, without}
use Rattle.text_pool.specs.Part.{with_text, released}
use Rattle.text_pool.specs.declared.pool.CountedText.{CountedText}
use Rattle.trace_rows.specs.declared.table.Row.{Row}
use Rattle.trace_rows.specs.Part.{with_at, with_latest_row, joined, settled, without_latest_row, trace_in, keys_of}
use Rattle.tenant_stores.specs.Part.{Part}
use Rattle.tenant_stores.specs.View.{text_keys_of}

-- the texts with one use less of each of these keys
abbrev pub all_released : List ℕ → (ℕ → Option CountedText) → ℕ → Option CountedText
all_released [] at = at
all_released (key ∷ keys) at = all_released keys (with_text key (released (at key)) at)

-- the texts once the spans at these keys have left, each with its uses
abbrev pub texts_without : List ℕ → (ℕ → Option StoredData) → (ℕ → Option CountedText) → ℕ → Option CountedText
texts_without [] spans at = at
texts_without (key ∷ keys) spans at =
    texts_without keys (with_span key None spans) (all_released (text_keys_of (spans key)) at)

-- one use of each of the texts at these keys is given back
pub record ReleasesAll {N : Type 0} (keys : List ℕ) (old new : Part N) : Type 0 where
  pub spans : new.spans ≡ old.spans
  pub texts : new.texts ≡ all_released keys old.texts
  pub rows : new.rows ≡ old.rows
  pub latest_rows : new.latest_rows ≡ old.latest_rows

-- the same but for texts
pub record SameButTexts {N : Type 0} (old new : Part N) : Type 0 where
  pub spans : new.spans ≡ old.spans
  pub rows : new.rows ≡ old.rows
  pub latest_rows : new.latest_rows ≡ old.latest_rows

-- the span lies at a key that was vacant, which joined the row; the row has this note
pub record Joins {N : Type 0} (number key : ℕ) (span : StoredData) (note : N) (old new : Part N) : Type 0 where
  pub vacant : old.spans key ≡ None
  pub spans : new.spans ≡ with_span key (Some span) old.spans
  pub texts : new.texts ≡ old.texts
  pub rows : new.rows ≡ with_at number (joined key note (old.rows number)) old.rows
  pub latest_rows : new.latest_rows ≡ old.latest_rows

-- a row of one span
abbrev pub new_row : {N : Type 0} → List ℕ → ℕ → ℕ → N → Row N
new_row trace due key note = record { trace = trace; due = due; keys = key ∷ []; note = note; sampled = false }

-- the span lies at a key that was vacant, and a row of the trace with that key opened
pub record Opens {N : Type 0} (number key due : ℕ) (trace : List ℕ) (span : StoredData) (note : N) (old new : Part N)
    : Type 0 where
  pub vacant : old.spans key ≡ None
  pub spans : new.spans ≡ with_span key (Some span) old.spans
  pub texts : new.texts ≡ old.texts
  pub rows : new.rows ≡ with_at number (Some (new_row trace due key note)) old.rows
  pub latest_rows : new.latest_rows ≡ with_latest_row trace (Some number) old.latest_rows

-- the span lies at a key that was vacant
pub record Waits {N : Type 0} (key : ℕ) (span : StoredData) (old new : Part N) : Type 0 where
  pub vacant : old.spans key ≡ None
  pub spans : new.spans ≡ with_span key (Some span) old.spans
  pub texts : new.texts ≡ old.texts
  pub rows : new.rows ≡ old.rows
  pub latest_rows : new.latest_rows ≡ old.latest_rows

-- the row has its verdict, and no keys any more
pub record Settles {N : Type 0} (number : ℕ) (sampled : Bool) (old new : Part N) : Type 0 where
  pub spans : new.spans ≡ old.spans
  pub texts : new.texts ≡ old.texts
  pub rows : new.rows ≡ with_at number (settled sampled (old.rows number)) old.rows
  pub latest_rows : new.latest_rows ≡ old.latest_rows

-- the spans at these keys left, each with its uses of texts
pub record Leaves {N : Type 0} (gone : List ℕ) (old new : Part N) : Type 0 where
  pub spans : new.spans ≡ without gone old.spans
  pub texts : new.texts ≡ texts_without gone old.spans old.texts
  pub rows : new.rows ≡ old.rows
  pub latest_rows : new.latest_rows ≡ old.latest_rows

-- the row isn't sampled, and its spans left
pub record Drops {N : Type 0} (number : ℕ) (old new : Part N) : Type 0 where
  pub spans : new.spans ≡ without (keys_of (old.rows number)) old.spans
  pub texts : new.texts ≡ texts_without (keys_of (old.rows number)) old.spans old.texts
  pub rows : new.rows ≡ with_at number (settled false (old.rows number)) old.rows
  pub latest_rows : new.latest_rows ≡ old.latest_rows

-- the row left the table, and its spans with it; a later row of the trace stays its latest
pub record Sweeps {N : Type 0} (number : ℕ) (old new : Part N) : Type 0 where
  pub spans : new.spans ≡ without (keys_of (old.rows number)) old.spans
  pub texts : new.texts ≡ texts_without (keys_of (old.rows number)) old.spans old.texts
  pub rows : new.rows ≡ with_at number None old.rows
  pub latest_rows : new.latest_rows ≡ without_latest_row number (trace_in (old.rows number)) old.latest_rows
