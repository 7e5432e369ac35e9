-- One tenant's part of all stores, as functions of its own keys, row numbers and traces: this project's own rule.
use Rattle.std.specs.Prelude.{ℕ, List, Option}
use Rattle.span_pool.specs.Stored.{StoredData}
use Rattle.span_pool.specs.Pool as pool
use Rattle.text_pool.specs.Part as texts
use Rattle.text_pool.specs.declared.pool.CountedText.{CountedText}
use Rattle.trace_rows.specs.Part.{rows_part, latest_rows_part}
use Rattle.trace_rows.specs.declared.table.Row.{Row}
use Rattle.tenant_stores.specs.declared.stores.Stores.{Stores}

-- what a tenant has in the stores: spans and texts by key, rows by number, the latest row of each trace
pub record Part (N : Type 0) : Type 0 where
  pub spans : ℕ → Option StoredData
  pub texts : ℕ → Option CountedText
  pub rows : ℕ → Option (Row N)
  pub latest_rows : List ℕ → Option ℕ

-- whose a span is
abbrev pub owner_of : StoredData → ℕ
owner_of span = span.owner

-- the part that a tenant has of these stores
abbrev pub part : {N : Type 0} → ℕ → Stores N → Part N
part tenant stores = record {
  spans = pool.part owner_of tenant stores.spans;
  texts = texts.part tenant stores.texts;
  rows = rows_part tenant stores.rows;
  latest_rows = latest_rows_part tenant stores.rows;
}
