-- The spans of all rows that wait leave, row by row, and what is pending then is one batch.
use Rattle.std.proofs.Common.{◌≡◌, ◌≢◌, ◌<◌, ◌≤◌, ◌+◌, ◌-◌, ◌++◌, ◌∙◌, ℕ, zero, suc, List, [], ◌∷◌, length, map, refl, sym, ap, subst, arith, append-nil, append_assoc, Bool, true, false, eqb, cond, Option, Some, None}
use Rattle.std.specs.Prelude.{option_to_list}
use Rattle.std.specs.List.{AllByRecursion}
use Rattle.std.proofs.lemmas.Bool.Decides.{nat_tests}
use Rattle.std.proofs.lemmas.List.{length-map}
use Rattle.drop_ledger.specs.Ledger.{moved}
use Rattle.drop_ledger.specs.declared.places.Place.TheVariants.{Undecided, NotSampled}
use Rattle.send_queue.specs.Sender.{BatchData}
use Rattle.span_batcher.specs.Batches.{Batch}
use Rattle.span_batcher.specs.State as batcher
use Rattle.span_batcher.specs.State.{next_due, IsAfter}
use Rattle.span_batcher.specs.Machine.{fired, drained}
use Rattle.span_pool.specs.Stored.{StoredData}
use Rattle.tail_policy.specs.declared.note.TraceNote.{TraceNote}
use Rattle.tail_policy.specs.Note.{verdict_of}
use Rattle.tail_settings.specs.Policy.{PolicyData}
use Rattle.tail_settings.specs.SendingQueue.{SendingQueueData}
use Rattle.tail_settings.specs.declared.section.Section.{Section}
use Rattle.trace_rows.specs.declared.table.Row.{Row}
use Rattle.trace_rows.specs.Part.{keys_of}
use Rattle.tenant_stores.specs.Part.{Part}
use Rattle.tenant_stores.specs.Counts.{count, range}
use Rattle.tenant_stores.specs.Invariant.{named_keys}
use Rattle.tenant_stores.specs.View.{WaitingRow, as_waiting, waiting_rows, spans_at, shown}
use Rattle.tenant_stores.specs.Shows.{row_shown}
use Rattle.tenant_stores.proofs.Keys.{keys_are_shown}
use Rattle.tenant_stores.proofs.Lists.{count-append, front_of}
use Rattle.tenant_rules.specs.Arrivals.{Arrival}
use Rattle.tenant_rules.specs.Batching.{as_sent, all_sent, spans_in}
use Rattle.tenant_rules.specs.Fate.{SettledData, WaitingData, are_sampled}
use Rattle.tenant_rules.specs.Fronts.{decided_rows}
use Rattle.tenant_rules.specs.Machine.{all_decided, closed}
use Rattle.tenant_rules.specs.State.{State}
use Rattle.tenant_rules.specs.Timers.{queued, all_queued, settle, sample}
use Rattle.tenant_rules.proofs.Sums.{Fixed, Kept, fixed_of, kept_of, grouped_kept}
use Rattle.tenant_pipeline.specs.declared.pipeline.Pipeline.{Pipeline}
use Rattle.tenant_pipeline.specs.declared.undo.Undo.{Undo}
use Rattle.tenant_pipeline.specs.Acts.{at}
use Rattle.tenant_pipeline.specs.Drains.{SendsRow, SendsRest, SendsAll}
use Rattle.tenant_pipeline.specs.Invariant.{IsNoted, PipelineInvariantAt}
use Rattle.tenant_pipeline.specs.StateIn.{arrivals_of, counts_in, policies_of, waiting_of, written_state_of}
use Rattle.tenant_pipeline.specs.Outbox.{arrivals_at, pending_at, AreThere, Fits, HasRoom, Groups, Sends}
use Rattle.tenant_pipeline.specs.Undo.{TakesBack}
use Rattle.tenant_pipeline.proofs.Ranges.{room_within}
use Rattle.tenant_pipeline.proofs.Spans.{arrival_or, there_is, there-back}
use Rattle.tenant_pipeline.proofs.Timing.{verdict_is}

-- ---- keys that have their spans, by how many there are

shown_few : (p : Part TraceNote) (keys : List ℕ) → length (arrivals_at p keys) ≤ length keys
shown_few p [] = omega arith
shown_few p (key ∷ keys) = by_slot (p.spans key) (shown_few p keys)
  where
    by_slot : (o : Option StoredData) → length (arrivals_at p keys) ≤ length keys → length (arrivals_of (shown p.texts o ++ spans_at p.spans p.texts keys)) ≤ suc (length keys)
    by_slot None few = omega (arith, few)
    by_slot (Some span) few = omega (arith, few)

pub there_by : (p : Part TraceNote) (keys : List ℕ) → length (arrivals_at p keys) ≡ length keys → AreThere p keys
there_by p [] size = λ j some. absurd (omega (arith, some))
there_by p (key ∷ keys) size = by_slot (p.spans key) refl size (λ all. there_by p keys all)
  where
    by_key : (slot : StoredData) → p.spans key ≡ Some slot → AreThere p keys → (j : ℕ) (b : Bool) → eqb key j ≡ b → 0 < cond b 1 0 + count j keys → p.spans j ≢ None
    by_key slot here rest j true is some = λ none.
        let same : key ≡ j = grind (arith, nat_tests, is) in
        let clash : Path (Option StoredData) (Some slot) None = sym here ∙ (ap p.spans same ∙ none) in
        absurd (cc)
    by_key slot here rest j false is some = rest j (omega (arith, some))

    by_slot : (o : Option StoredData) → p.spans key ≡ o → length (arrivals_of (shown p.texts o ++ spans_at p.spans p.texts keys)) ≡ suc (length keys) →
        (length (arrivals_at p keys) ≡ length keys → AreThere p keys) → AreThere p (key ∷ keys)
    by_slot None here all ih = absurd (let few = shown_few p keys in omega (arith, few, all))
    by_slot (Some slot) here all ih = λ j some. by_key slot here (ih (omega (arith, all))) j (eqb key j) refl some

-- ---- one row

module _ (own new : Pipeline) (p : Part TraceNote) (row : Row TraceNote) (moment : ℕ) where
  abbrev w : WaitingData
  w = waiting_of (row_shown p row)

  -- its spans wait for a batch, or left in one
  pub row_kept : are_sampled (policies_of own) w.spans ≡ true → Groups moment row.keys p own new → SendsRow moment w p own new
  row_kept verdict groups = record {
    rules = λ s is. ap (λ (b : Bool). sample moment w b s) verdict ∙ groups.rules s is.pending is.sender is.ledger;
    same = groups.same;
    rules_are = groups.rules_are;
    timer = groups.timer;
    pending_is = groups.pending_is;
    room = groups.room;
  }

-- its spans left
pub row_dropped : (own : Pipeline) (p : Part TraceNote) (row : Row TraceNote) (moment n : ℕ) → are_sampled (policies_of own) (arrivals_at p row.keys) ≡ false → n ≡ length (arrivals_at p row.keys) →
    IsAfter (next_due own.batcher) moment → own.ledger.places.pending ≡ length own.batcher.spans → HasRoom own →
    SendsRow moment (waiting_of (row_shown p row)) p own (record own { ledger = moved Undecided NotSampled n own.ledger })
row_dropped own p row moment n verdict size after pending room =
    let w = waiting_of (row_shown p row) in
    record {
      rules = λ s is. ap (λ (b : Bool). sample moment w b s) verdict
          ∙ (λ i. record s { pending = is.pending i; sender = is.sender i; ledger = moved Undecided NotSampled (sym size i) (is.ledger i) });
      same = refl;
      rules_are = refl;
      timer = after;
      pending_is = pending;
      room = record { size = room.size; fits = room.fits };
    }

-- what is known of a row that waits
pub record RowOf (own : Pipeline) (p : Part TraceNote) (row : Row TraceNote) : Type 0 where
  pub noted : IsNoted (policies_of own) (row_shown p row)
  pub undecided : length row.keys ≤ own.ledger.places.undecided
  pub there : AreThere p (own.batcher.spans ++ row.keys)

pub row_known : (own : Pipeline) (p : Part TraceNote) (slot : Option (Row TraceNote)) → (row : Row TraceNote) × (slot ≡ Some row) × IsNoted (policies_of own) (row_shown p row) × (length row.keys ≤ own.ledger.places.undecided) × AreThere p (own.batcher.spans ++ row.keys) →
    (row : Row TraceNote) → slot ≡ Some row → RowOf own p row
row_known own p slot known row is =
    let both : Path (Option (Row TraceNote)) (Some known.0) (Some row) = sym known.1 ∙ is in
    let same : known.0 ≡ row = cc in
    subst (λ (r : Row TraceNote). RowOf own p r) same (record { noted = known.2; undecided = known.3; there = known.4 })

module _ (own : Pipeline) (p : Part TraceNote) (row : Row TraceNote) (noted : IsNoted (policies_of own) (row_shown p row)) (there : AreThere p (own.batcher.spans ++ row.keys)) where
  pub row_size : length (arrivals_at p row.keys) ≡ length row.keys
  row_size = ap length (there_is p row.keys (there-back p own.batcher.spans row.keys there)) ∙ length-map row.keys (arrival_or p)

  pub row_verdict : (b : Bool) → verdict_of (policies_of own) row.note ≡ b → are_sampled (policies_of own) (arrivals_at p row.keys) ≡ b
  row_verdict b is = sym (verdict_is (policies_of own) row.note (arrivals_at p row.keys) noted) ∙ is

-- ---- the last batch

drained_some : (moment : ℕ) (xs : List Arrival) → 0 < length xs → option_to_list (drained moment xs) ≡ record { moment = moment; spans = xs } ∷ []
drained_some moment [] some = absurd (omega (arith, some))
drained_some moment (x ∷ xs) some = refl

-- where something is pending there is one
pub rest_some : (own mid : Pipeline) (p : Part TraceNote) (moment : ℕ) (b : BatchData) → 0 < length own.batcher.spans → AreThere p own.batcher.spans →
    b ≡ as_sent (record { moment = moment; spans = arrivals_at p own.batcher.spans }) → Sends (queued b) own mid → mid.sender.sending ≡ own.sender.sending →
    (Fits own.sender → Fits mid.sender) → HasRoom own → SendsRest moment p own mid
rest_some own mid p moment b some there is_batch sends settings left room = record {
  rules = λ s is.
      let xs = arrivals_at p own.batcher.spans in
      let t : State = record s { drained = true; pending = fired s.pending } in
      let size : length xs ≡ length own.batcher.spans = ap length (there_is p own.batcher.spans there) ∙ length-map own.batcher.spans (arrival_or p) in
      let one : option_to_list (drained moment s.pending.spans) ≡ record { moment = moment; spans = xs } ∷ [] =
      ap (λ (b : batcher.State Arrival). option_to_list (drained moment b.spans)) is.pending ∙ drained_some moment xs (omega (arith, size, some)) in
      ap (λ (bs : List (Batch Arrival)). all_queued (all_sent bs) t) one
      ∙ (ap (λ (c : BatchData). queued c t) (sym is_batch) ∙ sends.rules t is.sender is.ledger);
  same = sends.same;
  room =
      let section : mid.section ≡ own.section = ap (λ (x : Pipeline). x.section) sends.same in
      record {
        size = ap (λ (x : SendingQueueData). x.queue_size) settings ∙ (room.size ∙ ap (λ (x : Section). x.sending_queue.queue_size) (sym section));
        fits = left room.fits;
      };
}

-- and else there is none
pub rest_none : (own : Pipeline) (p : Part TraceNote) (moment : ℕ) → own.batcher.spans ≡ [] → HasRoom own → SendsRest moment p own own
rest_none own p moment none room = record {
  rules = λ s is.
      let t : State = record s { drained = true; pending = fired s.pending } in
      ap (λ (b : batcher.State Arrival). all_queued (all_sent (option_to_list (drained moment b.spans))) t) is.pending
      ∙ (ap (λ (keys : List ℕ). all_queued (all_sent (option_to_list (drained moment (arrivals_at p keys)))) t) none
      ∙ (λ i. let u : State = record t { sender = is.sender i; ledger = is.ledger i } in u));
  same = refl;
  room = record { size = room.size; fits = room.fits };
}

-- what changes the counters alone can be taken back as before
pub back_same : (u : Undo) (start own new : Pipeline) → new ≡ record own { ledger = new.ledger } → TakesBack u start own → TakesBack u start new
back_same u start own new same back =
    let done : TakesBack u start (record own { ledger = new.ledger }) = record {
      rows = back.rows;
      ledger = back.ledger;
      batcher = back.batcher;
      mark = back.mark;
      sender = back.sender;
      offers = back.offers;
      same = back.same;
    } in
    subst (λ (o : Pipeline). TakesBack u start o) (sym same) done

-- ---- all rows

-- the rows after this number
abbrev pub rows_from : Pipeline → Part TraceNote → ℕ → List WaitingData
rows_from own p d = map waiting_of (waiting_rows p.spans p.texts p.rows (range d (own.rows.opened - d)))

-- the state once the rows up to this number have left, with these decided
abbrev pub sent_to : ℕ → ℕ → List SettledData → Pipeline → Part TraceNote → Pipeline → State
sent_to moment d settled own p now = record (at moment (written_state_of own p)) {
  settled = settled;
  waiting = rows_from own p d;
  pending = pending_at p now.batcher;
  sender = now.sender;
  ledger = now.ledger;
}

-- the rows up to a number have left
pub record SentTo (moment d : ℕ) (p : Part TraceNote) (own now : Pipeline) : Type 0 where
  pub settled : List SettledData
  pub settled_is : settled ++ decided_rows (policies_of own) (rows_from own p d) ≡ (written_state_of own p).settled ++ decided_rows (policies_of own) (written_state_of own p).waiting
  pub rules : all_decided moment (written_state_of own p).waiting (at moment (written_state_of own p)) ≡ all_decided moment (rows_from own p d) (sent_to moment d settled own p now)
  pub kept : Kept (fixed_of (written_state_of own p)) 0 0 (sent_to moment d settled own p now)
  pub same : now ≡ record own { batcher = now.batcher; sender = now.sender; ledger = now.ledger }
  pub rules_are : now.batcher.rules ≡ own.batcher.rules
  pub timer : IsAfter (next_due now.batcher) moment
  pub pending_is : now.ledger.places.pending ≡ length now.batcher.spans
  pub room : HasRoom now
  pub there : AreThere p now.batcher.spans
  pub noted : AllByRecursion (IsNoted (policies_of own)) (waiting_rows p.spans p.texts p.rows (range d (own.rows.opened - d)))

sampled_kept : (f : Fixed) (moment : ℕ) (row : WaitingData) (s : State) (b : Bool) → Kept f (length row.spans) 0 s → Kept f 0 0 (sample moment row b s)
sampled_kept f moment row s true k = let more : Kept f (0 + length row.spans) 0 s = omega arith in grouped_kept f 0 moment row.spans s more
sampled_kept f moment row s false k = omega arith

settled_kept : (f : Fixed) (moment : ℕ) (row : WaitingData) (rows : List WaitingData) (s : State) (b : Bool) → s.waiting ≡ row ∷ rows → Kept f 0 0 s → Kept f (length row.spans) 0 (settle moment row rows b s)
settled_kept f moment row rows s b is k = let size : spans_in s.waiting ≡ length row.spans + spans_in rows = ap spans_in is in omega (arith, size)

module _ (own : Pipeline) (p : Part TraceNote) (moment : ℕ) (held : PipelineInvariantAt moment [] [] own p) where
  abbrev s0 : State
  s0 = written_state_of own p

  -- keys that the rows name have their spans
  named : (key : ℕ) → 0 < count key (named_keys (counts_in own) own.batcher.spans p) → p.spans key ≢ None
  named key some none =
      let found = (keys_are_shown TraceNote (counts_in own) own.batcher.spans [] p held.sound).there key some in
      let clash : Path (Option StoredData) (Some found.0) None = sym found.1 ∙ none in
      absurd (cc)

  pub row_there : (number : ℕ) (row : Row TraceNote) → own.rows.decided < number → number ≤ own.rows.opened → p.rows number ≡ Some row → AreThere p row.keys
  row_there number row above below is = λ key some.
      let order = held.sound.order in
      let swept = order.swept in
      let first = order.first in
      let of_row = (keys_are_shown TraceNote (counts_in own) own.batcher.spans [] p held.sound).rows number (omega (arith, swept, first, above)) below key in
      let keys = ap (λ (o : Option (Row TraceNote)). count key (keys_of o)) is in
      named key (omega (arith, of_row, keys, some))

  -- a row that waits
  pub row_found : (number : ℕ) → own.rows.decided < number → number ≤ own.rows.opened → (row : Row TraceNote) × (p.rows number ≡ Some row)
  row_found number above below =
      let order = held.sound.order in
      let swept = order.swept in
      let first = order.first in
      by_slot (p.rows number) (held.sound.there number (omega (arith, swept, first, above)) below)
    where
      by_slot : (o : Option (Row TraceNote)) → o ≢ None → (row : Row TraceNote) × (o ≡ Some row)
      by_slot None some = absurd (some refl)
      by_slot (Some row) some = (row, refl)

  -- none has
  pub none_sent : IsAfter (next_due own.batcher) moment → SentTo moment own.rows.decided p own own
  none_sent after =
      let k = kept_of s0 held.counted in
      let there : AreThere p own.batcher.spans = λ key some. named key (let of_list = (keys_are_shown TraceNote (counts_in own) own.batcher.spans [] p held.sound).waits key in omega (arith, of_list, some)) in
      let pending = held.counted.pending_is in
      record {
        settled = s0.settled;
        settled_is = refl;
        rules = refl;
        kept = omega arith;
        same = refl;
        rules_are = refl;
        timer = after;
        pending_is = pending ∙ (ap length (there_is p own.batcher.spans there) ∙ length-map own.batcher.spans (arrival_or p));
        room = room_within own p held.within;
        there = there;
        noted = held.noted;
      }

  module _ (d number : ℕ) (mid : Pipeline) (row : Row TraceNote) (sent : SentTo moment d p own mid) (from : own.rows.decided ≤ d) (some : d < own.rows.opened)
      (next : number ≡ d + 1) (is : p.rows number ≡ Some row) where
    abbrev pol : List PolicyData
    pol = policies_of own

    abbrev first : WaitingRow TraceNote
    first = row_shown p row

    -- the first row that is left
    rows_are : waiting_rows p.spans p.texts p.rows (range d (own.rows.opened - d)) ≡ first ∷ waiting_rows p.spans p.texts p.rows (range number (own.rows.opened - number))
    rows_are =
        let o = own.rows.opened in
        let to : suc d ≡ number = omega (arith, next) in
        ap (waiting_rows p.spans p.texts p.rows) (front_of d o some)
        ∙ (ap (λ (k : ℕ). waiting_rows p.spans p.texts p.rows (k ∷ range k (o - k))) to
        ∙ ap (λ (r : Option (Row TraceNote)). as_waiting p.spans p.texts r ++ waiting_rows p.spans p.texts p.rows (range number (o - number))) is)

    list_is : rows_from own p d ≡ waiting_of first ∷ rows_from own p number
    list_is = ap (λ (rs : List (WaitingRow TraceNote)). map waiting_of rs) rows_are

    noted_all : AllByRecursion (IsNoted pol) (first ∷ waiting_rows p.spans p.texts p.rows (range number (own.rows.opened - number)))
    noted_all = subst (λ (rs : List (WaitingRow TraceNote)). AllByRecursion (IsNoted pol) rs) rows_are sent.noted

    policies_are : policies_of mid ≡ pol
    policies_are = ap (λ (x : Pipeline). policies_of x) sent.same

    keys_there : AreThere p row.keys
    keys_there = row_there number row (omega (arith, from, next)) (omega (arith, some, next)) is

    all_there : AreThere p (mid.batcher.spans ++ row.keys)
    all_there = λ key named'.
        let both = count-append key mid.batcher.spans row.keys in
        by_test key (count key mid.batcher.spans) refl (omega (arith, both, named'))
      where
        by_test : (key n : ℕ) → count key mid.batcher.spans ≡ n → 0 < n + count key row.keys → p.spans key ≢ None
        by_test key zero here any = keys_there key (omega (arith, any))
        by_test key (suc n) here any = sent.there key (omega (arith, here))

    pub row_of : RowOf mid p row
    row_of =
        let size = ap length (there_is p row.keys keys_there) ∙ length-map row.keys (arrival_or p) in
        let left = ap spans_in list_is in
        let undecided = sent.kept.undecided_is in
        record {
          noted = subst (λ (ps : List PolicyData). IsNoted ps first) (sym policies_are) noted_all.0;
          undecided = omega (arith, size, left, undecided);
          there = all_there;
        }

    pub one_sent : (new : Pipeline) → SendsRow moment (waiting_of first) p mid new → SentTo moment number p own new
    one_sent new sends =
        let w = waiting_of first in
        let rest = rows_from own p number in
        let b = are_sampled pol w.spans in
        let row' : SettledData = record { trace = w.trace; sampled = b } in
        let settled = sent.settled ++ row' ∷ [] in
        let t : State = record (sent_to moment d sent.settled own p mid) { waiting = w ∷ rest } in
        let t' : State = settle moment w rest b t in
        let step : sample moment w b t' ≡ sent_to moment number settled own p new =
        ap (λ (ps : List PolicyData). sample moment w (are_sampled ps w.spans) t') (sym policies_are) ∙ sends.rules t' (record { pending = refl; sender = refl; ledger = refl }) in
        let kept : Kept (fixed_of s0) 0 0 t = subst (λ (ws : List WaitingData). let u : State = record (sent_to moment d sent.settled own p mid) { waiting = ws } in Kept (fixed_of s0) 0 0 u) list_is sent.kept in
        let kept' : Kept (fixed_of s0) 0 0 (sent_to moment number settled own p new) =
        subst (λ (u : State). Kept (fixed_of s0) 0 0 u) step (sampled_kept (fixed_of s0) moment w t' b (settled_kept (fixed_of s0) moment w rest t b refl kept)) in
        let pending : new.ledger.places.pending ≡ length (arrivals_at p new.batcher.spans) + 0 = kept'.pending_is in
        let pending' = sends.pending_is in
        record {
          settled = settled;
          settled_is = append_assoc sent.settled (row' ∷ []) (decided_rows pol rest)
              ∙ (ap (λ (ws : List WaitingData). sent.settled ++ decided_rows pol ws) (sym list_is) ∙ sent.settled_is);
          rules = sent.rules
              ∙ (ap (λ (ws : List WaitingData). let u : State = record (sent_to moment d sent.settled own p mid) { waiting = ws } in all_decided moment ws u) list_is
              ∙ ap (λ (u : State). all_decided moment rest u) step);
          kept = kept';
          same = sends.same ∙ ap (λ (x : Pipeline). let y : Pipeline = record x { batcher = new.batcher; sender = new.sender; ledger = new.ledger } in y) sent.same;
          rules_are = sends.rules_are ∙ sent.rules_are;
          timer = sends.timer;
          pending_is = sends.pending_is;
          room = sends.room;
          there = there_by p new.batcher.spans (omega (arith, pending, pending'));
          noted = noted_all.1;
        }

  -- all have, and then the last batch
  pub all_left : (d : ℕ) (mid new : Pipeline) → own.rows.opened ≤ d → SentTo moment d p own mid → SendsRest moment p mid new → SendsAll moment p own new
  all_left d mid new all sent rest =
      let none : own.rows.opened - d ≡ 0 = omega (arith, all) in
      let empty : rows_from own p d ≡ [] = ap (λ (k : ℕ). map waiting_of (waiting_rows p.spans p.texts p.rows (range d k))) none in
      let t : State = record (sent_to moment d sent.settled own p mid) { waiting = [] } in
      let settled : sent.settled ≡ s0.settled ++ decided_rows (policies_of own) s0.waiting =
      sym (append-nil sent.settled) ∙ (ap (λ (ws : List WaitingData). sent.settled ++ decided_rows (policies_of own) ws) (sym empty) ∙ sent.settled_is) in
      let kept : new.batcher ≡ mid.batcher = ap (λ (x : Pipeline). x.batcher) rest.same in
      record {
        rules = ap (closed moment) (sent.rules ∙ ap (λ (ws : List WaitingData). let u : State = record (sent_to moment d sent.settled own p mid) { waiting = ws } in all_decided moment ws u) empty)
            ∙ (rest.rules t (record { pending = refl; sender = refl; ledger = refl })
            ∙ (λ i. record (at moment s0) {
              drained = true;
              settled = settled i;
              waiting = [];
              pending = record { rules = sent.rules_are i; start = None; spans = [] };
              sender = new.sender;
              ledger = new.ledger;
            }));
        same = rest.same ∙ (ap (λ (x : Pipeline). let y : Pipeline = record x { sender = new.sender; ledger = new.ledger } in y) sent.same
            ∙ ap (λ (b : batcher.State ℕ). let y : Pipeline = record own { batcher = b; sender = new.sender; ledger = new.ledger } in y) (sym kept));
        rules_are = ap (λ (b : batcher.State ℕ). b.rules) kept ∙ sent.rules_are;
        timer = subst (λ (b : batcher.State ℕ). IsAfter (next_due b) moment) (sym kept) sent.timer;
        room = rest.room;
      }
