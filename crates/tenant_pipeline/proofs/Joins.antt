-- A span of a post joins a row that waits.
use Rattle.std.proofs.Common.{◌≡◌, ◌<◌, ◌≤◌, ◌+◌, ◌++◌, ◌∙◌, ℕ, List, map, sym, ap, subst, arith, true, Option, Some}
use Rattle.std.specs.List.{AllByRecursion}
use Rattle.drop_ledger.specs.Ledger.{counted, most_counted, taken}
use Rattle.span_pool.specs.Stored.{StoredData, SpanTexts, origin_at, texts_of}
use Rattle.text_pool.specs.declared.pool.CountedText.{CountedText}
use Rattle.span_pool.specs.declared.keys.TextKeys.{TextKeys}
use Rattle.tail_policy.specs.declared.note.TraceNote.{TraceNote}
use Rattle.tail_policy.specs.Note.{note_of}
use Rattle.tail_policy.specs.Note as notes
use Rattle.trace_rows.specs.declared.table.Row.{Row}
use Rattle.tenant_stores.specs.Changes.{Joins}
use Rattle.tenant_stores.specs.Counts.{Counts}
use Rattle.tenant_stores.specs.Part.{Part}
use Rattle.tenant_stores.specs.Shows.{AreAmong, ShowsWaiting, row_in, row_shown, joined_rows, with_joined}
use Rattle.tenant_stores.specs.Invariant.{StoreInvariant}
use Rattle.tenant_stores.specs.View.{View, text_at, text_keys, view}
use Rattle.tenant_stores.proofs.Seats.{seat_shows}
use Rattle.tenant_rules.specs.Arrivals.{Arrival, trace_of}
use Rattle.tenant_rules.specs.Fate.{WaitingData}
use Rattle.tenant_rules.specs.Fronts.{AreInOrder, AllDueBy}
use Rattle.tenant_rules.specs.Machine.{has_row, joined, joins, counted_in}
use Rattle.tenant_rules.specs.State.{State}
use Rattle.tenant_pipeline.specs.declared.pipeline.Pipeline.{Pipeline}
use Rattle.tenant_pipeline.specs.declared.journal.Journal.{Journal}
use Rattle.prepared_body.specs.declared.noted.NotedSpan.{NotedSpan}
use Rattle.tenant_pipeline.specs.declared.undo.Undo.{Undo}
use Rattle.tenant_pipeline.specs.StateIn.{arrival_of, waiting_of, counts_in, policies_of, state_by, written_state_of, view_in}
use Rattle.tenant_pipeline.specs.Invariant.{IsNoted, PipelineInvariantAt}
use Rattle.tenant_pipeline.specs.Posts.{arrival_at, Came, IsComing, IsPosting}
use Rattle.tenant_pipeline.proofs.Counting.{HasOne, fits_same, joined_order, joined_due_by, joins_fit}
use Rattle.tenant_pipeline.proofs.Placing.{IsReady, among_pending}
use Rattle.tenant_pipeline.proofs.TraceStates.{has_row_is, joined_is, joined_noted}

module _ (own : Pipeline) (p mid q : Part TraceNote) (moment : ℕ) (journal : Journal) (keys : TextKeys) (span : NotedSpan) (held : List ℕ) (coming : IsComing moment journal keys span held own p)
    (kept_span : StoredData) (ready : IsReady own p mid journal keys span.text kept_span) (number key : ℕ) (note : TraceNote) (row : Row TraceNote)
    (its_state : p.latest_rows span.trace ≡ Some number) (above : own.rows.decided < number) (there : p.rows number ≡ Some row) (note_is : note ≡ notes.joined row.note span.note)
    (change : Joins number key kept_span note mid q)
    (sound_q : (n : Counts) (pending others : List ℕ) → n.decided < number → number ≤ n.opened → StoreInvariant n pending (text_keys kept_span.keys ++ others) mid → StoreInvariant n pending others q)
    (shows_q : (n : Counts) (pending others shown trace : List ℕ) → StoreInvariant n pending others mid → AreAmong shown pending → mid.latest_rows trace ≡ Some number → n.decided < number →
    view n shown q ≡ with_joined trace (texts_of (text_at mid.texts) kept_span) note (view n shown mid))
    (fits : counted own.ledger + 1 ≤ most_counted) (budget : own.ledger.places.undecided + own.ledger.places.pending < own.section.max_spans) where
  abbrev new : Pipeline
  new = record own { ledger = taken 1 own.ledger }

  abbrev s : State
  s = written_state_of own p

  abbrev x : Arrival
  x = arrival_at p keys span.text

  abbrev st : SpanTexts
  st = texts_of (text_at mid.texts) kept_span

  abbrev v : View TraceNote
  v = view_in own p

  abbrev pend : List ℕ
  pend = journal.undo.gone.items ++ own.batcher.spans

  seated : ShowsWaiting (counts_in own) span.trace number p
  seated = (seat_shows (counts_in own) pend held p span.trace coming.posting.holds.sound).waits number its_state above

  shown_q : view (counts_in own) own.batcher.spans q ≡ with_joined span.trace st note v
  shown_q =
      let holds = ready.holds in
      let sound = ready.sound held coming.posting.holds.sound in
      let seat' : mid.latest_rows span.trace ≡ Some number = ap (λ (f : List ℕ → Option ℕ). f span.trace) holds.latest_rows ∙ its_state in
      shows_q (counts_in own) pend (text_keys kept_span.keys ++ held) own.batcher.spans span.trace sound (among_pending own journal) seat' above
      ∙ ap (with_joined span.trace st note) ready.shown

  x_is : arrival_of st ≡ x
  x_is = ready.arrived

  rows_are : map waiting_of (joined_rows span.trace st note v.waiting) ≡ joined x s.waiting
  rows_are =
      ap (λ (t : List ℕ). map waiting_of (joined_rows t st note v.waiting)) (coming.trace ∙ ap (λ (a : Arrival). trace_of a) (sym x_is))
      ∙ (joined_is st note v.waiting ∙ ap (λ (a : Arrival). joined a s.waiting) x_is)

  state_is : written_state_of new q ≡ joins x (counted_in s)
  state_is = ap (state_by new) shown_q ∙ ap (λ (ws : List WaitingData). let y : State = record (counted_in s) { waiting = ws } in y) rows_are

  has : has_row (trace_of x) s.waiting ≡ true
  has = ap (λ (t : List ℕ). has_row t s.waiting) (sym coming.trace) ∙ (has_row_is span.trace v.waiting ∙ seated.waiting)

  noted_by : note ≡ notes.joined (row_shown p row).note (note_of (policies_of own) (arrival_of st).facts)
  noted_by = note_is ∙ ap (notes.joined row.note) (coming.note ∙ ap (λ (a : Arrival). note_of (policies_of own) a.facts) (sym x_is))

  found : row_in span.trace v.waiting ≡ Some (row_shown p row)
  found =
      let both : Path (Option (Row TraceNote)) (Some row) (Some seated.row) = sym there ∙ seated.there in
      let same : row ≡ seated.row = cc in
      seated.shown ∙ ap (λ (r : Row TraceNote). Some (row_shown p r)) (sym same)

  held_then : (journal' : Journal) → journal'.undo ≡ journal.undo → (other : List ℕ) → IsPosting moment journal other own p → IsPosting moment journal' other new q
  held_then journal' undo_is other posting =
      let h = posting.holds in
      let wait = own.section.tail_sampling.decision_wait in
      let sound = ready.sound other h.sound in
      let one : HasOne s = record { budget = budget; few = fits } in
      let all = fits_same (joins x (counted_in s)) (written_state_of new q) state_is (joins_fit x s has one (record { counted = h.counted; within = h.within })) in
      let holds : PipelineInvariantAt moment journal.undo.gone.items other new q = record {
        sound = sound_q (counts_in own) pend other above seated.opened sound;
        first_is = h.first_is;
        noted = subst (λ (w : View TraceNote). AllByRecursion (IsNoted (policies_of own)) w.waiting) (sym shown_q) (joined_noted (policies_of own) span.trace st note (row_shown p row) noted_by v.waiting found h.noted);
        rules_are = h.rules_are;
        order = subst (λ (t : State). AreInOrder moment t.waiting) (sym state_is) (joined_order x moment s.waiting h.order);
        due_by = subst (λ (t : State). AllDueBy (moment + wait) t.waiting) (sym state_is) (joined_due_by x (moment + wait) s.waiting h.due_by);
        timer = h.timer;
        counted = all.counted;
        within = all.within;
        few = let few = h.few in omega (arith, few);
        clock_by = h.clock_by;
        reached_fits = h.reached_fits;
        unsent_is = h.unsent_is;
      } in
      record {
        holds = subst (λ (u : Undo). PipelineInvariantAt moment u.gone.items other new q) (sym undo_is) holds;
        quiet = posting.quiet;
        offers = let same = ap (λ (u : Undo). u.offers) undo_is in let few = posting.offers in omega (arith, same, few);
      }

  pub join_came : (journal' : Journal) → journal'.undo ≡ journal.undo → Came (λ (t : State). joins x (counted_in t)) moment journal journal' own new p q
  join_came journal' undo_is = record {
    rules = state_is;
    posting = held_then journal' undo_is;
    texts = λ other posting ks among. ap (λ (f : ℕ → Option CountedText). origin_at (text_at f) ks) change.texts ∙ ready.origin other posting.holds.sound ks among;
    counted_by = omega arith;
  }
