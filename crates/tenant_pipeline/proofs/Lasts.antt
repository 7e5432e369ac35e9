-- The row of a post's last span.
use Rattle.std.proofs.Common.{◌≡◌, ◌<◌, ◌∙◌, ℕ, List, sym, ap, subst, Option, Some, None, true}
use Rattle.span_pool.specs.Stored.{StoredData}
use Rattle.tail_policy.specs.declared.note.TraceNote.{TraceNote}
use Rattle.trace_rows.specs.declared.table.Row.{Row}
use Rattle.trace_rows.specs.Maps.{is_id, halves}
use Rattle.trace_rows.specs.Part.{joined}
use Rattle.trace_rows.proofs.Ids.{same_of_halves}
use Rattle.tenant_stores.specs.Changes.{Joins, Opens, new_row}
use Rattle.tenant_stores.specs.Part.{Part}
use Rattle.tenant_stores.specs.Trail.{HoldsAll}
use Rattle.tenant_stores.proofs.Backs.{seat_here}
use Rattle.tenant_stores.proofs.Rows.{row_here}
use Rattle.tenant_pipeline.specs.declared.pipeline.Pipeline.{Pipeline}
use Rattle.tenant_pipeline.specs.declared.place.KeptState.{KeptState}
use Rattle.tenant_pipeline.specs.declared.place.KeptState.TheVariants as states
use Rattle.tenant_pipeline.specs.declared.place.LastRow.{LastRow}
use Rattle.tenant_pipeline.specs.Posts.{note_in, IsKeptStateAt, IsLast}

-- one that is known
module _ (last : Option LastRow) (row : LastRow) (own : Pipeline) (p : Part TraceNote) (there : last ≡ Some row) (is : IsLast last own p) where
  pub known_last : IsLast (Some row) own p
  known_last = subst (λ (l : Option LastRow). IsLast l own p) there is

  pub known_latest : (trace : List ℕ) → is_id trace ≡ true → halves trace ≡ row.trace → p.latest_rows trace ≡ Some row.number
  known_latest trace is_trace same = known_last.0 trace is_trace same

  pub known_note : (number : ℕ) → row.number ≡ number → Some row.note ≡ note_in (p.rows number)
  known_note number same = sym (subst (λ (k : ℕ). note_in (p.rows k) ≡ Some row.note) same known_last.2)

-- what a trace has, each id with its halves has
only_one : (rows : List ℕ → Option ℕ) (trace : List ℕ) (number : ℕ) (ids : ℕ × ℕ) → is_id trace ≡ true → ids ≡ halves trace → rows trace ≡ Some number →
    (other : List ℕ) → is_id other ≡ true → halves other ≡ ids → rows other ≡ Some number
only_one rows trace number ids is_trace these there other is_other same =
    let both = same ∙ these in
    let one : other ≡ trace = same_of_halves other trace is_other is_trace (ap (λ (h : ℕ × ℕ). h.0) both) (ap (λ (h : ℕ × ℕ). h.1) both) in
    ap rows one ∙ there

-- it is as it was where more texts are held
pub last_held : (last : Option LastRow) (own : Pipeline) (keys : List ℕ) (p q : Part TraceNote) → HoldsAll keys p q → IsLast last own p → IsLast last own q
last_held None own keys p q holds is = tt
last_held (Some last) own keys p q holds is = (
  λ trace is_trace same. ap (λ (f : List ℕ → Option ℕ). f trace) holds.latest_rows ∙ is.0 trace is_trace same,
  is.1,
  ap (λ (f : ℕ → Option (Row TraceNote)). note_in (f last.number)) holds.rows ∙ is.2,
)

-- the row of a trace that waits stays its latest there
pub number_held : (trace : List ℕ) (its_state : KeptState) (own : Pipeline) (keys : List ℕ) (p q : Part TraceNote) → HoldsAll keys p q → IsKeptStateAt trace its_state own p → IsKeptStateAt trace its_state own q
number_held trace states.Nowhere own keys p q holds is = tt
number_held trace states.Cached own keys p q holds is = tt
number_held trace states.Decided own keys p q holds is = tt
number_held trace (states.Waits number) own keys p q holds is = (ap (λ (f : List ℕ → Option ℕ). f trace) holds.latest_rows ∙ is.0, is.1)

-- one that a span joined
pub joined_last : (own : Pipeline) (keys : List ℕ) (p mid q : Part TraceNote) (trace : List ℕ) (ids : ℕ × ℕ) (number key : ℕ) (span : StoredData) (note : TraceNote) (row : Row TraceNote) → is_id trace ≡ true → ids ≡ halves trace →
    p.latest_rows trace ≡ Some number → own.rows.decided < number → p.rows number ≡ Some row → HoldsAll keys p mid → Joins number key span note mid q → IsLast (Some (record { trace = ids; number = number; note = note })) own q
joined_last own keys p mid q trace ids number key span note row is_trace these latest above there holds change = (
  only_one q.latest_rows trace number ids is_trace these (ap (λ (f : List ℕ → Option ℕ). f trace) (change.latest_rows ∙ holds.latest_rows) ∙ latest),
  above,
  ap (λ (f : ℕ → Option (Row TraceNote)). note_in (f number)) change.rows
      ∙ (ap note_in (row_here number (joined key note (mid.rows number)) mid.rows)
      ∙ ap (λ (r : Option (Row TraceNote)). note_in (joined key note r)) (ap (λ (f : ℕ → Option (Row TraceNote)). f number) holds.rows ∙ there)),
)

-- one that a span opened
pub opened_last : (own : Pipeline) (mid q : Part TraceNote) (trace : List ℕ) (ids : ℕ × ℕ) (number key due : ℕ) (span : StoredData) (note : TraceNote) → is_id trace ≡ true → ids ≡ halves trace →
    own.rows.decided < number → Opens number key due trace span note mid q → IsLast (Some (record { trace = ids; number = number; note = note })) own q
opened_last own mid q trace ids number key due span note is_trace these above change = (
  only_one q.latest_rows trace number ids is_trace these (ap (λ (f : List ℕ → Option ℕ). f trace) change.latest_rows ∙ seat_here trace (Some number) mid.latest_rows),
  above,
  ap (λ (f : ℕ → Option (Row TraceNote)). note_in (f number)) change.rows ∙ ap note_in (row_here number (Some (new_row trace due key note)) mid.rows),
)
