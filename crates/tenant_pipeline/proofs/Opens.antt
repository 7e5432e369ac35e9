-- A span of a post opens a row, for which room is made.
use Rattle.std.proofs.Common.{◌≡◌, ◌<◌, ◌≤◌, ◌+◌, ◌-◌, ◌++◌, ◌∙◌, ℕ, max, List, [], ◌∷◌, length, map, refl, sym, ap, subst, arith, Bool, true, false, cond, Option}
use Rattle.std.specs.Prelude.{nat_lt}
use Rattle.std.specs.List.{AllByRecursion}
use Rattle.std.proofs.lemmas.Bool.Decides.{nat_tests}
use Rattle.std.proofs.lemmas.List.{length-map, map-append}
use Rattle.drop_ledger.specs.Ledger.{LedgerData, counted, most_counted, moved, taken}
use Rattle.drop_ledger.specs.declared.places.Place.TheVariants.{Undecided, TooEarly}
use Rattle.span_pool.specs.Stored.{StoredData, SpanTexts, origin_at, texts_of}
use Rattle.span_pool.specs.declared.keys.TextKeys.{TextKeys}
use Rattle.text_pool.specs.declared.pool.CountedText.{CountedText}
use Rattle.tail_policy.specs.declared.note.TraceNote.{TraceNote}
use Rattle.tail_policy.specs.Note.{note_of}
use Rattle.tail_settings.specs.Policy.{PolicyData}
use Rattle.trace_rows.specs.declared.table.Row.{Row}
use Rattle.trace_rows.specs.Part.{keys_of}
use Rattle.tenant_stores.specs.Changes.{Opens}
use Rattle.tenant_stores.specs.Counts.{Counts, one_opened, room_made}
use Rattle.tenant_stores.specs.Part.{Part}
use Rattle.tenant_stores.specs.Shows.{AreAmong, RoomShows, but_first, evicted_by, row_shown, settled_in, span_at, waiting_in, with_opened, with_room}
use Rattle.tenant_stores.specs.Invariant.{StoreInvariant, named_keys}
use Rattle.tenant_stores.specs.View.{SettledRow, WaitingRow, View, text_at, text_keys, view}
use Rattle.tenant_stores.proofs.Keys.{keys_are_shown}
use Rattle.tenant_stores.proofs.Rooms.{first_is_shown, lengths_are, room_is_made}
use Rattle.tenant_rules.specs.Arrivals.{Arrival, trace_of}
use Rattle.tenant_rules.specs.Batching.{spans_in}
use Rattle.tenant_rules.specs.Fate.{WaitingData}
use Rattle.tenant_rules.specs.Fronts.{AreInOrder, AllDueBy}
use Rattle.tenant_rules.specs.Machine.{counted_in, evict_first, evicted, opens}
use Rattle.tenant_rules.specs.State.{State}
use Rattle.tenant_pipeline.specs.declared.pipeline.Pipeline.{Pipeline}
use Rattle.tenant_pipeline.specs.declared.pipeline.RowCounts.{RowCounts}
use Rattle.tenant_pipeline.specs.declared.journal.Journal.{Journal}
use Rattle.prepared_body.specs.declared.noted.NotedSpan.{NotedSpan}
use Rattle.tenant_pipeline.specs.declared.undo.Undo.{Undo}
use Rattle.tenant_pipeline.specs.StateIn.{arrival_of, arrivals_of, settled_of, waiting_of, counts_in, policies_of, state_by, written_state_of}
use Rattle.tenant_pipeline.specs.Invariant.{IsNoted, PipelineInvariantAt}
use Rattle.tenant_pipeline.specs.Posts.{arrival_at, Came, IsComing, IsPosting, first_left, ledger_left}
use Rattle.tenant_pipeline.proofs.Counting.{HasOne, fits_same, opens_fit, opens_in_time}
use Rattle.tenant_pipeline.proofs.Placing.{IsReady, among_pending}

-- ---- the row that leaves

-- the counters with one span more, and a row's spans no longer undecided where the first row waits and has to leave
abbrev pub IsLeftBy : Pipeline → Bool → List SettledRow → List (WaitingRow TraceNote) → LedgerData → Type 0
IsLeftBy own true settled waiting ledger = ledger ≡ taken 1 own.ledger
IsLeftBy own false [] [] ledger = ledger ≡ taken 1 own.ledger
IsLeftBy own false [] (row ∷ rows) ledger = ledger ≡ moved Undecided TooEarly (length (arrivals_of row.spans)) (taken 1 own.ledger)
IsLeftBy own false (row ∷ rows) waiting ledger = ledger ≡ taken 1 own.ledger

-- what is shown then, as the rules see it
left_is : (own : Pipeline) (settled : List SettledRow) (waiting : List (WaitingRow TraceNote)) (pending : List SpanTexts) (b : Bool) (ledger : LedgerData) → IsLeftBy own b settled waiting ledger →
    let v : View TraceNote = record { settled = settled; waiting = waiting; pending = pending } in
    cond b (counted_in (state_by own v)) (evict_first (map settled_of settled) (counted_in (state_by own v))) ≡ state_by (record own { ledger = ledger }) (cond b v (evicted_by settled v))
left_is own settled waiting pending true ledger is =
    let v : View TraceNote = record { settled = settled; waiting = waiting; pending = pending } in
    ap (λ (l : LedgerData). let o : Pipeline = record own { ledger = l } in state_by o v) (sym is)
left_is own [] [] pending false ledger is =
    let v : View TraceNote = record { settled = []; waiting = []; pending = pending } in
    ap (λ (l : LedgerData). let o : Pipeline = record own { ledger = l } in state_by o v) (sym is)
left_is own [] (row ∷ rows) pending false ledger is =
    let v : View TraceNote = record { settled = []; waiting = rows; pending = pending } in
    ap (λ (l : LedgerData). let o : Pipeline = record own { ledger = l } in state_by o v) (sym is)
left_is own (row ∷ rows) waiting pending false ledger is =
    let v : View TraceNote = record { settled = rows; waiting = waiting; pending = pending } in
    ap (λ (l : LedgerData). let o : Pipeline = record own { ledger = l } in state_by o v) (sym is)

-- spans of a row leave before or after one more is counted
moved_taken : (k : ℕ) (l : LedgerData) → k ≤ l.places.undecided → taken 1 (moved Undecided TooEarly k l) ≡ moved Undecided TooEarly k (taken 1 l)
moved_taken k l few =
    let same : (l.places.undecided - k) + 1 ≡ (l.places.undecided + 1) - k = omega (arith, few) in
    ap (λ (n : ℕ). let m : LedgerData = record l { accepted = l.accepted + 1; places = record l.places { undecided = n; too_early = l.places.too_early + k } } in m) same

-- what the code makes of the tenant's own
module _ (own : Pipeline) (mid : Part TraceNote) where
  -- what is kept once there is room, and with one row more
  abbrev pub opened_own : Pipeline
  opened_own = record own {
    rows = record own.rows { first = first_left own; decided = max own.rows.decided (first_left own); opened = own.rows.opened + 1 };
    ledger = taken 1 (ledger_left own mid);
  }

  pub opened_is : (made : Pipeline) (left : LedgerData) → counts_in made ≡ room_made own.section.tail_sampling.num_traces (counts_in own) → made.ledger ≡ ledger_left own mid → made ≡ record own { rows = made.rows; ledger = made.ledger } → left ≡ taken 1 made.ledger →
      record made { rows = record made.rows { opened = made.rows.opened + 1 }; ledger = left } ≡ opened_own
  opened_is made left counts ledger_is same left_is =
      let rows : RowCounts = record made.rows { opened = made.rows.opened + 1 } in
      let rows_are : rows ≡ record own.rows { first = first_left own; decided = max own.rows.decided (first_left own); opened = own.rows.opened + 1 } =
      λ i. record { swept = (counts i).swept; first = (counts i).first; decided = (counts i).decided; opened = (counts i).opened + 1 } in
      ap (λ (o : Pipeline). let y : Pipeline = record o { rows = rows; ledger = left } in y) same
      ∙ (ap (λ (r : RowCounts). let y : Pipeline = record own { rows = r; ledger = left } in y) rows_are
      ∙ ap (λ (l : LedgerData). let y : Pipeline = record own { rows = record own.rows { first = first_left own; decided = max own.rows.decided (first_left own); opened = own.rows.opened + 1 }; ledger = l } in y) (left_is ∙ ap (taken 1) ledger_is))

module _ (own : Pipeline) (mid : Part TraceNote) (pending others : List ℕ) (sound : StoreInvariant (counts_in own) pending others mid) (some : 0 < own.section.tail_sampling.num_traces)
    (first_is : own.rows.first ≡ own.rows.opened - own.section.tail_sampling.num_traces) (undecided : own.ledger.places.undecided ≡ spans_in (map waiting_of (waiting_in (counts_in own) mid))) where
  abbrev most : ℕ
  most = own.section.tail_sampling.num_traces

  abbrev first : ℕ
  first = first_left own

  -- where the first row waits, and leaves
  pub record Leaves (row : WaitingRow TraceNote) : Type 0 where
    pub size : length (keys_of (mid.rows first)) ≡ length (arrivals_of row.spans)
    pub few : length (keys_of (mid.rows first)) ≤ own.ledger.places.undecided

  leaves : (row : WaitingRow TraceNote) (rows : List (WaitingRow TraceNote)) → waiting_in (counts_in own) mid ≡ row ∷ rows → own.rows.decided + 1 ≡ first → own.rows.decided < own.rows.opened → Leaves row
  leaves row rows is here lt =
      let f = first_is_shown TraceNote (counts_in own) pending others mid sound lt in
      let both : Path (List (WaitingRow TraceNote)) (row ∷ rows) (row_shown mid f.row ∷ f.rest) = sym is ∙ f.waiting in
      let same : row ≡ row_shown mid f.row = cc in
      let keys : keys_of (mid.rows first) ≡ f.row.keys = ap (λ (k : ℕ). keys_of (mid.rows k)) (sym here) ∙ ap (λ (o : Option (Row TraceNote)). keys_of o) f.there in
      let shown = keys_are_shown TraceNote (counts_in own) pending others mid sound in
      let order = sound.order in
      let of_row = shown.rows (own.rows.decided + 1) (let a = order.swept in let b = order.first in omega (arith, a, b)) (omega (arith, lt)) in
      let among : AreAmong f.row.keys (named_keys (counts_in own) pending mid) = subst (λ (ks : List ℕ). AreAmong ks (named_keys (counts_in own) pending mid)) (ap (λ (o : Option (Row TraceNote)). keys_of o) f.there) of_row in
      let each = ap length (shown.each f.row.keys among) ∙ length-map f.row.keys (span_at mid) in
      let spans : length (arrivals_of row.spans) ≡ length f.row.keys = ap (λ (r : WaitingRow TraceNote). length (arrivals_of r.spans)) same ∙ (length-map (row_shown mid f.row).spans arrival_of ∙ each) in
      let size : length (keys_of (mid.rows first)) ≡ length (arrivals_of row.spans) = ap length keys ∙ sym spans in
      let all : spans_in (map waiting_of (waiting_in (counts_in own) mid)) ≡ length (arrivals_of row.spans) + spans_in (map waiting_of rows) = ap (λ (ws : List (WaitingRow TraceNote)). spans_in (map waiting_of ws)) is in
      record { size = size; few = omega (arith, undecided, all, size) }

  abbrev left_ledger : LedgerData
  left_ledger = ledger_left own mid

  stays : own.rows.opened < most → nat_lt own.rows.decided first ≡ false
  stays lt = let none : first ≡ 0 = omega (arith, lt) in rw none (grind (arith, nat_tests))

  stays_settled : first ≤ own.rows.decided → nat_lt own.rows.decided first ≡ false
  stays_settled le = grind (arith, nat_tests, le)

  goes : own.rows.decided + 1 ≡ first → nat_lt own.rows.decided first ≡ true
  goes is = grind (arith, nat_tests, is)

  kept_ledger : nat_lt own.rows.decided first ≡ false → taken 1 left_ledger ≡ taken 1 own.ledger
  kept_ledger is = ap (λ (b : Bool). taken 1 (cond b (moved Undecided TooEarly (length (keys_of (mid.rows first))) own.ledger) own.ledger)) is

  room_of : nat_lt own.rows.opened most ≡ true → own.rows.opened < most
  room_of is = grind (arith, nat_tests, is)

  full_of : nat_lt own.rows.opened most ≡ false → most ≤ own.rows.opened
  full_of is = grind (arith, nat_tests, is)

  left_by : (b : Bool) (settled : List SettledRow) (waiting : List (WaitingRow TraceNote)) → nat_lt own.rows.opened most ≡ b → settled_in (counts_in own) mid ≡ settled → waiting_in (counts_in own) mid ≡ waiting →
      IsLeftBy own b settled waiting (taken 1 left_ledger)
  left_by true settled waiting full s_is w_is = kept_ledger (stays (room_of full))
  left_by false [] [] full s_is w_is =
      let sizes = lengths_are TraceNote (counts_in own) pending others mid sound in
      let a = ap length w_is in let b = ap length s_is in let c = sizes.0 in let d = sizes.1 in
      let over = full_of full in let order = sound.order in let o1 = order.first in let o2 = order.decided in
      absurd (omega (arith, a, b, c, d, over, o1, o2, some, first_is))
  left_by false [] (row ∷ rows) full s_is w_is =
      let sizes = lengths_are TraceNote (counts_in own) pending others mid sound in
      let a : length (waiting_in (counts_in own) mid) ≡ length rows + 1 = omega (arith, ap length w_is) in
      let b = ap length s_is in let c = sizes.0 in let d = sizes.1 in
      let over = full_of full in let order = sound.order in let o1 = order.first in let o2 = order.decided in
      let here : own.rows.decided + 1 ≡ first = omega (arith, b, d, over, o1, some, first_is) in
      let gone = leaves row rows w_is here (omega (arith, a, c)) in
      ap (λ (b : Bool). taken 1 (cond b (moved Undecided TooEarly (length (keys_of (mid.rows first))) own.ledger) own.ledger)) (goes here)
      ∙ (moved_taken (length (keys_of (mid.rows first))) own.ledger gone.few
      ∙ ap (λ (n : ℕ). moved Undecided TooEarly n (taken 1 own.ledger)) gone.size)
  left_by false (row ∷ rows) waiting full s_is w_is =
      let sizes = lengths_are TraceNote (counts_in own) pending others mid sound in
      let b : length (settled_in (counts_in own) mid) ≡ length rows + 1 = omega (arith, ap length s_is) in
      let d = sizes.1 in let over = full_of full in
      kept_ledger (stays_settled (omega (arith, b, d, over, some, first_is)))

  -- what is left, as the rules see it
  pub room_is : (keys : List ℕ) →
      evicted (counted_in (state_by own (view (counts_in own) keys mid))) ≡ state_by (record own { ledger = taken 1 left_ledger }) (with_room most own.rows.opened (view (counts_in own) keys mid))
  room_is keys =
      let v = view (counts_in own) keys mid in
      left_is own v.settled v.waiting v.pending (nat_lt own.rows.opened most) (taken 1 left_ledger) (left_by (nat_lt own.rows.opened most) v.settled v.waiting refl refl refl)

  -- no more spans leave than are undecided
  pub leave_few : own.rows.decided < first → length (keys_of (mid.rows first)) ≤ own.ledger.places.undecided
  leave_few lt = by_rows (waiting_in (counts_in own) mid) refl
    where
      by_rows : (rows : List (WaitingRow TraceNote)) → waiting_in (counts_in own) mid ≡ rows → length (keys_of (mid.rows first)) ≤ own.ledger.places.undecided
      by_rows [] is =
          let sizes = lengths_are TraceNote (counts_in own) pending others mid sound in
          let a = ap length is in let c = sizes.0 in let order = sound.order in let o1 = order.first in let o2 = order.decided in
          absurd (omega (arith, a, c, o1, o2, lt, some, first_is))
      by_rows (row ∷ rows) is =
          let sizes = lengths_are TraceNote (counts_in own) pending others mid sound in
          let a : length (waiting_in (counts_in own) mid) ≡ length rows + 1 = omega (arith, ap length is) in let c = sizes.0 in
          let order = sound.order in let o1 = order.first in
          (leaves row rows is (omega (arith, lt, o1, some, first_is)) (omega (arith, a, c))).few

-- ---- rows keep their notes

all_more : (policies : List PolicyData) (rows : List (WaitingRow TraceNote)) (row : WaitingRow TraceNote) → AllByRecursion (IsNoted policies) rows → IsNoted policies row → AllByRecursion (IsNoted policies) (rows ++ row ∷ [])
all_more policies [] row all noted = (noted, tt)
all_more policies (r ∷ rs) row all noted = (all.0, all_more policies rs row all.1 noted)

room_noted : (policies : List PolicyData) (settled : List SettledRow) (v : View TraceNote) → AllByRecursion (IsNoted policies) v.waiting → AllByRecursion (IsNoted policies) (evicted_by settled v).waiting
room_noted policies [] v all = by_waiting v.waiting all
  where
    by_waiting : (rows : List (WaitingRow TraceNote)) → AllByRecursion (IsNoted policies) rows → AllByRecursion (IsNoted policies) (but_first rows)
    by_waiting [] all = tt
    by_waiting (r ∷ rs) all = all.1
room_noted policies (r ∷ rs) v all = all

with_room_noted : (policies : List PolicyData) (b : Bool) (v : View TraceNote) → AllByRecursion (IsNoted policies) v.waiting → AllByRecursion (IsNoted policies) (cond b v (evicted_by v.settled v)).waiting
with_room_noted policies true v all = all
with_room_noted policies false v all = room_noted policies v.settled v all

-- ---- a row opens

-- where a row leaves, its spans are undecided
pub leaves_few : (own : Pipeline) (p mid : Part TraceNote) (moment : ℕ) (journal : Journal) (keys : TextKeys) (span : NotedSpan) (held : List ℕ) → IsComing moment journal keys span held own p →
    (kept_span : StoredData) → IsReady own p mid journal keys span.text kept_span → own.rows.decided < first_left own → length (keys_of (mid.rows (first_left own))) ≤ own.ledger.places.undecided
leaves_few own p mid moment journal keys span held coming kept_span ready lt =
    let h = coming.posting.holds in
    let range = own.section.tail_sampling.num_traces_range in
    let undecided : own.ledger.places.undecided ≡ spans_in (map waiting_of (waiting_in (counts_in own) mid)) = h.counted.undecided_is ∙ ap (λ (w : View TraceNote). spans_in (map waiting_of w.waiting)) (sym ready.shown) in
    leave_few own mid (journal.undo.gone.items ++ own.batcher.spans) (text_keys kept_span.keys ++ held) (ready.sound held h.sound) (omega (arith, range.0)) h.first_is undecided lt

module _ (own : Pipeline) (p mid q : Part TraceNote) (moment : ℕ) (journal : Journal) (keys : TextKeys) (span : NotedSpan) (held : List ℕ) (coming : IsComing moment journal keys span held own p)
    (kept_span : StoredData) (ready : IsReady own p mid journal keys span.text kept_span) (number key due : ℕ)
    (number_is : number ≡ own.rows.opened + 1) (due_is : due ≡ moment + own.section.tail_sampling.decision_wait)
    (change : Opens number key due span.trace kept_span span.note mid q)
    (sound_q : (n : Counts) (pending others : List ℕ) → number ≡ n.opened + 1 → StoreInvariant n pending (text_keys kept_span.keys ++ others) mid → StoreInvariant (one_opened n) pending others q)
    (shows_q : (n : Counts) (pending others shown : List ℕ) → number ≡ n.opened + 1 → StoreInvariant n pending others mid → AreAmong shown pending →
    view (one_opened n) shown q ≡ with_opened span.trace due (texts_of (text_at mid.texts) kept_span) span.note (view n shown mid))
    (fits : counted own.ledger + 1 ≤ most_counted) (budget : own.ledger.places.undecided + own.ledger.places.pending < own.section.max_spans) where
  abbrev s : State
  s = written_state_of own p

  abbrev x : Arrival
  x = arrival_at p keys span.text

  abbrev st : SpanTexts
  st = texts_of (text_at mid.texts) kept_span

  abbrev pend : List ℕ
  pend = journal.undo.gone.items ++ own.batcher.spans

  abbrev wait : ℕ
  wait = own.section.tail_sampling.decision_wait

  abbrev num : ℕ
  num = own.section.tail_sampling.num_traces

  abbrev gone : ℕ
  gone = first_left own

  num_some : 0 < num
  num_some = let range = own.section.tail_sampling.num_traces_range in omega (arith, range.0)

  abbrev ledger : LedgerData
  ledger = ledger_left own mid

  abbrev new : Pipeline
  new = opened_own own mid

  abbrev v : View TraceNote
  v = view (counts_in own) own.batcher.spans mid

  sound_mid : StoreInvariant (counts_in own) pend (text_keys kept_span.keys ++ held) mid
  sound_mid = ready.sound held coming.posting.holds.sound

  undecided_is : own.ledger.places.undecided ≡ spans_in (map waiting_of (waiting_in (counts_in own) mid))
  undecided_is = coming.posting.holds.counted.undecided_is ∙ ap (λ (w : View TraceNote). spans_in (map waiting_of w.waiting)) (sym ready.shown)

  room : RoomShows num (counts_in own) mid
  room = room_is_made TraceNote num (counts_in own) pend (text_keys kept_span.keys ++ held) mid num_some coming.posting.holds.first_is sound_mid

  shown_q : view (counts_in new) own.batcher.spans q ≡ with_opened span.trace (moment + wait) st span.note (with_room num own.rows.opened v)
  shown_q =
      shows_q (room_made num (counts_in own)) pend (text_keys kept_span.keys ++ held) own.batcher.spans number_is (room.sound pend (text_keys kept_span.keys ++ held) sound_mid) (among_pending own journal)
      ∙ (ap (with_opened span.trace due st span.note) (room.shows own.batcher.spans)
      ∙ ap (λ (d : ℕ). with_opened span.trace d st span.note (with_room num own.rows.opened v)) due_is)

  x_is : arrival_of st ≡ x
  x_is = ready.arrived

  trace_is : span.trace ≡ trace_of x
  trace_is = coming.trace

  -- one row more, as the rules see it
  opened_by : (w : View TraceNote) → state_by new (with_opened span.trace (moment + wait) st span.note w) ≡ opens moment x (state_by (record own { ledger = taken 1 ledger }) w)
  opened_by w =
      let t : State = state_by (record own { ledger = taken 1 ledger }) w in
      let rows : map waiting_of (w.waiting ++ record { trace = span.trace; due = moment + wait; spans = st ∷ []; note = span.note } ∷ []) ≡ map waiting_of w.waiting ++ record { trace = span.trace; due = moment + wait; spans = arrival_of st ∷ [] } ∷ [] =
      map-append waiting_of w.waiting (record { trace = span.trace; due = moment + wait; spans = st ∷ []; note = span.note } ∷ []) in
      let row : Path WaitingData (record { trace = span.trace; due = moment + wait; spans = arrival_of st ∷ [] }) (record { trace = trace_of x; due = moment + wait; spans = x ∷ [] }) = λ i. record { trace = trace_is i; due = moment + wait; spans = x_is i ∷ [] } in
      ap (λ (ws : List WaitingData). let y : State = record t { opened = own.rows.opened + 1; waiting = ws } in y) (rows ∙ ap (λ (r : WaitingData). map waiting_of w.waiting ++ r ∷ []) row)

  state_is : written_state_of new q ≡ opens moment x (evicted (counted_in s))
  state_is =
      ap (state_by new) shown_q
      ∙ (opened_by (with_room num own.rows.opened v)
      ∙ (ap (opens moment x) (sym (room_is own mid pend (text_keys kept_span.keys ++ held) sound_mid num_some coming.posting.holds.first_is undecided_is own.batcher.spans))
      ∙ ap (λ (w : View TraceNote). opens moment x (evicted (counted_in (state_by own w)))) ready.shown))

  noted_new : IsNoted (policies_of own) (record { trace = span.trace; due = moment + wait; spans = st ∷ []; note = span.note })
  noted_new = coming.note ∙ ap (λ (a : Arrival). note_of (policies_of own) a.facts) (sym x_is)

  held_then : (journal' : Journal) → journal'.undo ≡ journal.undo → (other : List ℕ) → IsPosting moment journal other own p → IsPosting moment journal' other new q
  held_then journal' undo_is other posting =
      let h = posting.holds in
      let sound = ready.sound other h.sound in
      let one : HasOne s = record { budget = budget; few = fits } in
      let all = fits_same (opens moment x (evicted (counted_in s))) (written_state_of new q) state_is (opens_fit moment x s num_some one (record { counted = h.counted; within = h.within })) in
      let time = opens_in_time moment x s num_some one (record { counted = h.counted; within = h.within }) h.order h.due_by in
      let noted_mid : AllByRecursion (IsNoted (policies_of own)) v.waiting = subst (λ (w : View TraceNote). AllByRecursion (IsNoted (policies_of own)) w.waiting) (sym ready.shown) h.noted in
      let rest = with_room_noted (policies_of own) (nat_lt own.rows.opened num) v noted_mid in
      let opened : WaitingRow TraceNote = record { trace = span.trace; due = moment + wait; spans = st ∷ []; note = span.note } in
      let holds : PipelineInvariantAt moment journal.undo.gone.items other new q = record {
        sound = sound_q (room_made num (counts_in own)) pend other number_is (room.sound pend (text_keys kept_span.keys ++ other) sound);
        first_is = refl;
        noted = subst (λ (w : View TraceNote). AllByRecursion (IsNoted (policies_of own)) w.waiting) (sym shown_q) (all_more (policies_of own) (with_room num own.rows.opened v).waiting opened rest noted_new);
        rules_are = h.rules_are;
        order = subst (λ (t : State). AreInOrder moment t.waiting) (sym state_is) time.order;
        due_by = subst (λ (t : State). AllDueBy (moment + wait) t.waiting) (sym state_is) time.by;
        timer = h.timer;
        counted = all.counted;
        within = all.within;
        few = few_then h.few;
        clock_by = h.clock_by;
        reached_fits = h.reached_fits;
        unsent_is = h.unsent_is;
      } in
      record {
        holds = subst (λ (u : Undo). PipelineInvariantAt moment u.gone.items other new q) (sym undo_is) holds;
        quiet = posting.quiet;
        offers = let same = ap (λ (u : Undo). u.offers) undo_is in let few = posting.offers in omega (arith, same, few);
      }
    where
      by_test : (b : Bool) → (cond b (moved Undecided TooEarly (length (keys_of (mid.rows gone))) own.ledger) own.ledger).accepted ≡ own.ledger.accepted
      by_test true = refl
      by_test false = refl

      few_then : own.rows.opened ≤ own.ledger.accepted → own.rows.opened + 1 ≤ (taken 1 ledger).accepted
      few_then few = let same = by_test (nat_lt own.rows.decided gone) in omega (arith, few, same)

  counted_then : counted (taken 1 ledger) ≤ counted own.ledger + 1
  counted_then = by_test (nat_lt own.rows.decided gone)
    where
      by_test : (b : Bool) → counted (taken 1 (cond b (moved Undecided TooEarly (length (keys_of (mid.rows gone))) own.ledger) own.ledger)) ≤ counted own.ledger + 1
      by_test true = omega arith
      by_test false = omega arith

  pub open_came : (journal' : Journal) → journal'.undo ≡ journal.undo → Came (λ (t : State). opens moment x (evicted (counted_in t))) moment journal journal' own new p q
  open_came journal' undo_is = record {
    rules = state_is;
    posting = held_then journal' undo_is;
    texts = λ other posting ks among. ap (λ (f : ℕ → Option CountedText). origin_at (text_at f) ks) change.texts ∙ ready.origin other posting.holds.sound ks among;
    counted_by = counted_then;
  }
