-- Rows that are shown, as the rules see them: which of them is a trace's, and what a span that joins it makes of them.
use Rattle.std.proofs.Common.{◌≡◌, ℕ, ◌∙◌, List, [], ◌∷◌, ◌++◌, map, refl, sym, ap, subst, Bool, true, false, cond, ◌||◌, bytes_eq, Option, Some, None}
use Rattle.std.specs.List.{fold, AllByRecursion}
use Rattle.std.specs.Prelude.{nat_lt}
use Rattle.std.proofs.lemmas.List.{map-append}
use Rattle.std.proofs.lemmas.List.Sums.{fold-append}
use Rattle.drop_ledger.specs.declared.places.Place.TheVariants.{Undecided, NotSampled}
use Rattle.span_pool.specs.Stored.{SpanTexts}
use Rattle.span_view.specs.Facts.{SpanFacts}
use Rattle.tail_policy.specs.declared.note.TraceNote.{TraceNote}
use Rattle.tail_policy.specs.Note.{note_of}
use Rattle.tail_policy.specs.Note as notes
use Rattle.tail_settings.specs.Policy.{PolicyData}
use Rattle.tenant_stores.specs.View.{SettledRow, WaitingRow}
use Rattle.tenant_stores.specs.Part.{Part}
use Rattle.tenant_stores.specs.Shows.{ShowsNone, ShowsDecided, ShowsWaiting, row_in, joined_rows, settled_in, waiting_in}
use Rattle.tenant_stores.specs.Shows as shown
use Rattle.tenant_stores.specs.Invariant as stores
use Rattle.tenant_rules.specs.Arrivals.{Arrival, trace_of}
use Rattle.tenant_rules.specs.Fate.{WaitingData}
use Rattle.decision_cache.specs.Caches.{found, shown as shown_caches}
use Rattle.tenant_rules.specs.Machine.{come, counted_in, evicted, goes, has_row, held, joined, joins, last_of, cached_or_opens, late_or_opens, opens, sampled_in}
use Rattle.tenant_rules.specs.State.{State}
use Rattle.tenant_rules.specs.Timers.{grouped, recount}
use Rattle.tenant_pipeline.specs.declared.pipeline.Pipeline.{Pipeline}
use Rattle.tenant_pipeline.specs.declared.place.KeptState.TheVariants as kept
use Rattle.tenant_pipeline.specs.declared.place.TraceState.TheVariants as states
use Rattle.tenant_pipeline.specs.StateIn.{arrival_of, arrivals_of, counts_in, settled_of, written_state_of, waiting_of}
use Rattle.tenant_pipeline.specs.Posts.{IsTraceState, IsTraceStateAt, state_by_cache, state_by_verdict}
use Rattle.tenant_pipeline.specs.Invariant.{IsNoteOf, IsNoted}

-- ---- which row is a trace's

pub has_row_is : (trace : List ℕ) (rows : List (WaitingRow TraceNote)) → has_row trace (map waiting_of rows) ≡ shown.has_row trace rows
has_row_is trace [] = refl
has_row_is trace (r ∷ rs) = ap (λ (b : Bool). b || bytes_eq trace r.trace) (has_row_is trace rs)

last_is : (a b : Option Bool) → last_of a b ≡ stores.last_of a b
last_is a None = refl
last_is a (Some b) = refl

pub sampled_is : (trace : List ℕ) (rows : List SettledRow) → sampled_in trace (map settled_of rows) ≡ shown.sampled_in trace rows
sampled_is trace [] = refl
sampled_is trace (r ∷ rs) =
    let first : Option Bool = cond (bytes_eq trace r.trace) (Some r.sampled) None in
    last_is first (sampled_in trace (map settled_of rs)) ∙ ap (stores.last_of first) (sampled_is trace rs)

-- the trace has a row where there is one
row_some : (trace : List ℕ) (rows : List (WaitingRow TraceNote)) → shown.has_row trace rows ≡ true → (r : WaitingRow TraceNote) × (row_in trace rows ≡ Some r)
row_some trace [] is = absurd (cc)
row_some trace (r ∷ rs) is = by_tests (shown.has_row trace rs) (bytes_eq trace r.trace) refl is (λ here. row_some trace rs here)
  where
    by_tests : (a b : Bool) → shown.has_row trace rs ≡ a → (a || b) ≡ true → (shown.has_row trace rs ≡ true → (s : WaitingRow TraceNote) × (row_in trace rs ≡ Some s)) →
        (s : WaitingRow TraceNote) × (stores.last_of (cond b (Some r) None) (row_in trace rs) ≡ Some s)
    by_tests true b here either ih = let rest = ih here in (rest.0, ap (stores.last_of (cond b (Some r) None)) rest.1)
    by_tests false true here either ih = by_rest (row_in trace rs)
      where
        by_rest : (o : Option (WaitingRow TraceNote)) → (s : WaitingRow TraceNote) × (stores.last_of (Some r) o ≡ Some s)
        by_rest None = (r, refl)
        by_rest (Some s) = (s, refl)
    by_tests false false here either ih = absurd (cc)

row_none : (trace : List ℕ) (rows : List (WaitingRow TraceNote)) → shown.has_row trace rows ≡ false → row_in trace rows ≡ None
row_none trace [] is = refl
row_none trace (r ∷ rs) is = by_tests (shown.has_row trace rs) (bytes_eq trace r.trace) refl is (λ here. row_none trace rs here)
  where
    by_tests : (a b : Bool) → shown.has_row trace rs ≡ a → (a || b) ≡ false → (shown.has_row trace rs ≡ false → row_in trace rs ≡ None) → stores.last_of (cond b (Some r) None) (row_in trace rs) ≡ None
    by_tests true b here either ih = absurd (cc)
    by_tests false true here either ih = absurd (cc)
    by_tests false false here either ih = ap (stores.last_of None) (ih here)

-- ---- a span joins its trace's row

module _ (span : SpanTexts) (note : TraceNote) where
  abbrev x : Arrival
  x = arrival_of span

  abbrev t : List ℕ
  t = trace_of x

  pub joined_is : (rows : List (WaitingRow TraceNote)) → map waiting_of (joined_rows t span note rows) ≡ joined x (map waiting_of rows)
  joined_is [] = refl
  joined_is (r ∷ rs) =
      by_tests (shown.has_row t rs) (bytes_eq t r.trace) (joined_is rs)
      ∙ ap (λ (b : Bool). cond b (waiting_of r ∷ joined x (map waiting_of rs)) (cond (bytes_eq t r.trace) (record (waiting_of r) { spans = arrivals_of r.spans ++ x ∷ [] } ∷ map waiting_of rs) (waiting_of r ∷ map waiting_of rs))) (sym (has_row_is t rs))
    where
      by_tests : (a b : Bool) → map waiting_of (joined_rows t span note rs) ≡ joined x (map waiting_of rs) →
          map waiting_of (cond a (r ∷ joined_rows t span note rs) (cond b (record r { spans = r.spans ++ span ∷ []; note = note } ∷ rs) (r ∷ rs)))
          ≡ cond a (waiting_of r ∷ joined x (map waiting_of rs)) (cond b (record (waiting_of r) { spans = arrivals_of r.spans ++ x ∷ [] } ∷ map waiting_of rs) (waiting_of r ∷ map waiting_of rs))
      by_tests true b ih = ap (λ (ws : List WaitingData). waiting_of r ∷ ws) ih
      by_tests false true ih = ap (λ (xs : List Arrival). record { trace = r.trace; due = r.due; spans = xs } ∷ map waiting_of rs) (map-append arrival_of r.spans (span ∷ []))
      by_tests false false ih = refl

-- the note of one span more
more_noted : (policies : List PolicyData) (note : TraceNote) (xs : List Arrival) (x : Arrival) → IsNoteOf policies note xs → IsNoteOf policies (notes.joined note (note_of policies x.facts)) (xs ++ x ∷ [])
more_noted policies note [] x is = absurd is
more_noted policies note (y ∷ ys) x is =
    let facts : List SpanFacts = map (λ (a : Arrival). a.facts) ys in
    let both : map (note_of policies) (map (λ (a : Arrival). a.facts) (ys ++ x ∷ [])) ≡ map (note_of policies) facts ++ note_of policies x.facts ∷ [] =
    ap (map (note_of policies)) (map-append (λ (a : Arrival). a.facts) ys (x ∷ [])) ∙ map-append (note_of policies) facts (x.facts ∷ []) in
    ap (λ (n : TraceNote). notes.joined n (note_of policies x.facts)) is
    ∙ (sym (fold-append notes.joined (note_of policies y.facts) (map (note_of policies) facts) (note_of policies x.facts ∷ []))
    ∙ ap (fold notes.joined (note_of policies y.facts)) (sym both))

module _ (policies : List PolicyData) (trace : List ℕ) (span : SpanTexts) (note : TraceNote) (row : WaitingRow TraceNote) (note_is : note ≡ notes.joined row.note (note_of policies (arrival_of span).facts)) where
  -- the row that it joins has the note of its spans
  row_noted : IsNoted policies row → IsNoted policies (record row { spans = row.spans ++ span ∷ []; note = note })
  row_noted noted =
      let more = more_noted policies row.note (arrivals_of row.spans) (arrival_of span) noted in
      subst (λ (n : TraceNote). IsNoteOf policies n (arrivals_of (row.spans ++ span ∷ []))) (sym note_is)
      (subst (λ (xs : List Arrival). IsNoteOf policies (notes.joined row.note (note_of policies (arrival_of span).facts)) xs) (sym (map-append arrival_of row.spans (span ∷ []))) more)

  -- and so have all
  pub joined_noted : (rows : List (WaitingRow TraceNote)) → row_in trace rows ≡ Some row → AllByRecursion (IsNoted policies) rows → AllByRecursion (IsNoted policies) (joined_rows trace span note rows)
  joined_noted [] is noted = absurd (cc)
  joined_noted (r ∷ rs) is noted = by_test (shown.has_row trace rs) refl (λ here. joined_noted rs here noted.1)
    where
      found : (b : Bool) → stores.last_of (cond b (Some r) None) None ≡ Some row → b ≡ true × (r ≡ row)
      found true e = (refl, cc)
      found false e = absurd (cc)

      in_rest : (o : Option (WaitingRow TraceNote)) (s : WaitingRow TraceNote) (b : Bool) → o ≡ Some s → stores.last_of (cond b (Some r) None) o ≡ Some row → o ≡ Some row
      in_rest None s b some e = absurd (cc)
      in_rest (Some t) s b some e = e

      by_same : (b : Bool) → (b ≡ true) × (r ≡ row) → AllByRecursion (IsNoted policies) (cond b (record r { spans = r.spans ++ span ∷ []; note = note } ∷ rs) (r ∷ rs))
      by_same true same = (subst (λ (w : WaitingRow TraceNote). IsNoted policies (record w { spans = w.spans ++ span ∷ []; note = note })) (sym same.1) (row_noted (subst (IsNoted policies) same.1 noted.0)), noted.1)
      by_same false same = absurd (let e = same.0 in cc)

      by_test : (a : Bool) → shown.has_row trace rs ≡ a → (row_in trace rs ≡ Some row → AllByRecursion (IsNoted policies) (joined_rows trace span note rs)) →
          AllByRecursion (IsNoted policies) (cond a (r ∷ joined_rows trace span note rs) (cond (bytes_eq trace r.trace) (record r { spans = r.spans ++ span ∷ []; note = note } ∷ rs) (r ∷ rs)))
      by_test true here ih =
          let some = row_some trace rs here in
          (noted.0, ih (in_rest (row_in trace rs) some.0 (bytes_eq trace r.trace) some.1 is))
      by_test false here ih =
          let none = row_none trace rs here in
          let own : stores.last_of (cond (bytes_eq trace r.trace) (Some r) None) None ≡ Some row = sym (ap (stores.last_of (cond (bytes_eq trace r.trace) (Some r) None)) none) ∙ is in
          by_same (bytes_eq trace r.trace) (found (bytes_eq trace r.trace) own)

-- ---- a trace's latest row, as the rules see it

module _ (own : Pipeline) (p : Part TraceNote) (trace : List ℕ) where
  -- by what the caches know, where no row is present
  pub is_absent : (known : Option Bool) → found trace (shown_caches own.caches) ≡ known → ShowsNone (counts_in own) trace p → IsTraceState trace (state_by_cache known) (written_state_of own p)
  is_absent None is none = (has_row_is trace (waiting_in (counts_in own) p) ∙ none.waiting, sampled_is trace (settled_in (counts_in own) p) ∙ none.settled, is)
  is_absent (Some true) is none = (has_row_is trace (waiting_in (counts_in own) p) ∙ none.waiting, sampled_is trace (settled_in (counts_in own) p) ∙ none.settled, is)
  is_absent (Some false) is none = (has_row_is trace (waiting_in (counts_in own) p) ∙ none.waiting, sampled_is trace (settled_in (counts_in own) p) ∙ none.settled, is)

  pub absent_at : (known : Option Bool) → IsTraceStateAt trace (state_by_cache known) own p
  absent_at None = tt
  absent_at (Some true) = tt
  absent_at (Some false) = tt

  -- by its row's verdict, where that was decided
  by_verdict : (sampled : Bool) → has_row trace (written_state_of own p).waiting ≡ false → sampled_in trace (written_state_of own p).settled ≡ Some sampled → IsTraceState trace (state_by_verdict sampled) (written_state_of own p)
  by_verdict true none is = (none, is)
  by_verdict false none is = (none, is)

  pub is_decided : (number : ℕ) (shows : ShowsDecided (counts_in own) trace number p) → IsTraceState trace (state_by_verdict shows.row.sampled) (written_state_of own p)
  is_decided number shows = by_verdict shows.row.sampled (has_row_is trace (waiting_in (counts_in own) p) ∙ shows.waiting) (sampled_is trace (settled_in (counts_in own) p) ∙ shows.settled)

  pub decided_at : (sampled : Bool) → IsTraceStateAt trace (state_by_verdict sampled) own p
  decided_at true = tt
  decided_at false = tt

  pub it_waits : (number : ℕ) → ShowsWaiting (counts_in own) trace number p → IsTraceState trace (states.Kept (kept.Waits number)) (written_state_of own p)
  it_waits number shows = has_row_is trace (waiting_in (counts_in own) p) ∙ shows.waiting

-- ---- where a span goes

module _ (moment : ℕ) (x : Arrival) (s : State) (room : nat_lt (held s) s.section.max_spans ≡ true) where
  came_in : come moment x s ≡ goes moment x (counted_in s)
  came_in = ap (λ (b : Bool). cond b (goes moment x (counted_in s)) s) room

  pub it_joins : has_row (trace_of x) s.waiting ≡ true → joins x (counted_in s) ≡ come moment x s
  it_joins has =
      let t : State = counted_in s in
      sym (came_in ∙ ap (λ (b : Bool). cond b (joins x t) (late_or_opens moment x (sampled_in (trace_of x) t.settled) t)) has)

  -- a trace without a row that waits
  late_in : (o : Option Bool) → has_row (trace_of x) s.waiting ≡ false → sampled_in (trace_of x) s.settled ≡ o → late_or_opens moment x o (counted_in s) ≡ come moment x s
  late_in o none is =
      let t : State = counted_in s in
      sym (came_in ∙ (ap (λ (b : Bool). cond b (joins x t) (late_or_opens moment x (sampled_in (trace_of x) t.settled) t)) none ∙ ap (λ (p : Option Bool). late_or_opens moment x p t) is))

  pub it_comes_late : has_row (trace_of x) s.waiting ≡ false → sampled_in (trace_of x) s.settled ≡ Some true → grouped Undecided moment (x ∷ []) (counted_in s) ≡ come moment x s
  it_comes_late none is = late_in (Some true) none is

  pub it_is_lost : has_row (trace_of x) s.waiting ≡ false → sampled_in (trace_of x) s.settled ≡ Some false → recount Undecided NotSampled 1 (counted_in s) ≡ come moment x s
  it_is_lost none is = late_in (Some false) none is

  -- or a row: as a cache has its verdict
  cached_in : (o : Option Bool) → has_row (trace_of x) s.waiting ≡ false → sampled_in (trace_of x) s.settled ≡ None → found (trace_of x) s.caches ≡ o → cached_or_opens moment x o (counted_in s) ≡ come moment x s
  cached_in o none is there = sym (ap (λ (q : Option Bool). cached_or_opens moment x q (counted_in s)) there) ∙ late_in None none is

  pub it_hits : (sampled : Bool) → has_row (trace_of x) s.waiting ≡ false → sampled_in (trace_of x) s.settled ≡ None → found (trace_of x) s.caches ≡ Some sampled → cached_or_opens moment x (Some sampled) (counted_in s) ≡ come moment x s
  it_hits sampled none is there = cached_in (Some sampled) none is there

  pub it_opens : has_row (trace_of x) s.waiting ≡ false → sampled_in (trace_of x) s.settled ≡ None → found (trace_of x) s.caches ≡ None → opens moment x (evicted (counted_in s)) ≡ come moment x s
  it_opens none is new = cached_in None none is new
