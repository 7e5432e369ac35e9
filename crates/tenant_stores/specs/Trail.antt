-- What several spans changed in their tenant's part, one after the other, so that it can be taken back. This project's
-- own rule.
use Rattle.std.specs.Prelude.{◌≡◌, ℕ, List, [], ◌∷◌, Some, None}
use Rattle.span_pool.specs.Stored.{StoredData}
use Rattle.trace_rows.specs.declared.table.Row.{Row}
use Rattle.tenant_stores.specs.declared.undo.UndoEntry.{UndoEntry}
use Rattle.tenant_stores.specs.declared.undo.UndoEntry.TheVariants.{Left, Joined, Opened, Late}
use Rattle.tenant_stores.specs.Part.{Part}
use Rattle.tenant_stores.specs.View.{text_keys}
use Rattle.tenant_stores.specs.Changes.{all_released, Joins, Opens, Waits}

-- the same but for texts: so many of them are held as, once these uses are given back, were before
pub record HoldsAll {N : Type 0} (keys : List ℕ) (old new : Part N) : Type 0 where
  pub spans : new.spans ≡ old.spans
  pub texts : all_released keys new.texts ≡ old.texts
  pub rows : new.rows ≡ old.rows
  pub latest_rows : new.latest_rows ≡ old.latest_rows

-- the texts of a span were held, and then it joined a row of the former note, opened one, or waits for a batch; or it
-- left nothing
abbrev pub IsUndone : {N : Type 0} → UndoEntry N → Part N → Part N → Type 0
IsUndone Left old new = new ≡ old
IsUndone {N} (Joined number former) old new =
    (key : ℕ) × (span : StoredData) × (row : Row N) × (note : N) × (middle : Part N) × (old.rows number ≡ Some row)
    × (row.note ≡ former) × HoldsAll (text_keys span.keys) old middle × Joins number key span note middle new
IsUndone {N} (Opened number key earlier) old new =
    (trace : List ℕ) × (span : StoredData) × (due : ℕ) × (note : N) × (middle : Part N) × (old.rows number ≡ None)
    × (old.latest_rows trace ≡ earlier) × HoldsAll (text_keys span.keys) old middle
    × Opens number key due trace span note middle new
IsUndone {N} (Late key) old new =
    (span : StoredData) × (middle : Part N) × HoldsAll (text_keys span.keys) old middle × Waits key span middle new

-- the oldest first
abbrev pub Trail : {N : Type 0} → Part N → List (UndoEntry N) → Part N → Type 0
Trail start [] end = end ≡ start
Trail {N} start (placed ∷ rest) end = (middle : Part N) × IsUndone placed start middle × Trail middle rest end
