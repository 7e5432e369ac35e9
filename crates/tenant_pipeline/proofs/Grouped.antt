-- A group of spans waits for a batch: what that makes of a tenant's own, and how it is taken back.
use Rattle.std.proofs.Common.{◌≡◌, ◌<◌, ◌≤◌, ◌+◌, ◌++◌, ◌∙◌, ℕ, List, [], length, length-append, map, refl, sym, ap, subst, arith, Option, Some}
use Rattle.std.specs.Prelude.{unwrap_or}
use Rattle.drop_ledger.specs.Ledger.{ledger_of, moved}
use Rattle.drop_ledger.specs.declared.places.Place.TheVariants.{Undecided, Pending}
use Rattle.send_queue.specs.Sender.{BatchData}
use Rattle.tail_settings.specs.SendingQueue.{SendingQueueData}
use Rattle.tail_settings.specs.declared.section.Section.{Section}
use Rattle.span_batcher.specs.Batches.{AreValidRules, Batch}
use Rattle.span_batcher.specs.State as batcher
use Rattle.span_batcher.specs.State.{next_due, IsAfter}
use Rattle.span_batcher.specs.Machine.{PlannedData, cuts, uncut, added, threshold}
use Rattle.span_batcher.specs.Marks.{MarkData, cut_back}
use Rattle.tail_policy.specs.declared.note.TraceNote.{TraceNote}
use Rattle.span_batcher.proofs.Added.{cuts_none}
use Rattle.tenant_stores.specs.Part.{Part}
use Rattle.tenant_rules.specs.Arrivals.{Arrival}
use Rattle.tenant_rules.specs.Batching.{all_sent}
use Rattle.tenant_rules.specs.Sender.{sizes}
use Rattle.tenant_rules.specs.State.{State}
use Rattle.tenant_rules.specs.Timers.{recount, all_queued, grouped}
use Rattle.tenant_pipeline.specs.declared.pipeline.Pipeline.{Pipeline}
use Rattle.tenant_pipeline.specs.declared.undo.Undo.{Undo}
use Rattle.tenant_pipeline.specs.StateIn.{written_state_of}
use Rattle.tenant_pipeline.specs.Outbox.{arrivals_at, AreThere, batch_at, pending_at, undone, Sends, Fits, HasRoom, Groups, Took}
use Rattle.tenant_pipeline.specs.Undo.{before, TakesBack}
use Rattle.tenant_pipeline.proofs.Grouping.{cuts_are, group_size, added_are, sent_sizes, added_rules, added_spans, added_after}
use Rattle.tenant_pipeline.proofs.Sending.{undone-add, pending_after}
use Rattle.tenant_pipeline.proofs.Undoing.{before_same, cut_same, mark_stays}

module _ (own mid : Pipeline) (p : Part TraceNote) (moment : ℕ) (keys : List ℕ) (sent : List BatchData)
    (there : AreThere p (own.batcher.spans ++ keys))
    (sent_are : sent ≡ all_sent (map (batch_at p) (cuts own.batcher.rules moment (own.batcher.spans ++ keys))))
    (sends : Sends (λ s. all_queued sent (recount Undecided Pending (length keys) s)) own mid)
    (settings : mid.sender.sending ≡ own.sender.sending) (left : Fits own.sender → Fits mid.sender) where
  abbrev b : batcher.State ℕ
  b = added moment keys own.batcher

  abbrev new : Pipeline
  new = record mid { batcher = b }

  rules_of_group : (s : State) → s.pending ≡ pending_at p own.batcher → s.sender ≡ own.sender → s.ledger ≡ own.ledger →
      grouped Undecided moment (arrivals_at p keys) s ≡ record s { pending = pending_at p b; sender = mid.sender; ledger = mid.ledger }
  rules_of_group s pending_is sender_is ledger_is =
      let xs = arrivals_at p keys in
      let all : all_sent (cuts own.batcher.rules moment ((pending_at p own.batcher).spans ++ xs)) ≡ sent =
      ap all_sent (cuts_are p own.batcher moment keys there) ∙ sym sent_are in
      let size = group_size p own.batcher moment keys there in
      let left = added_are p own.batcher moment keys there in
      ap (λ (q : batcher.State Arrival). all_queued (all_sent (cuts q.rules moment (q.spans ++ xs))) (recount Undecided Pending (length xs) (record s { pending = added moment xs q }))) pending_is
      ∙ (ap (λ (bs : List BatchData). all_queued bs (recount Undecided Pending (length xs) (record s { pending = added moment xs (pending_at p own.batcher) }))) all
      ∙ (ap (λ (n : ℕ). all_queued sent (recount Undecided Pending n (record s { pending = added moment xs (pending_at p own.batcher) }))) size
      ∙ (ap (λ (q : batcher.State Arrival). all_queued sent (recount Undecided Pending (length keys) (record s { pending = q }))) left
      ∙ sends.rules (record s { pending = pending_at p b }) sender_is ledger_is)))

  -- how many spans are pending
  pending_of_group : own.ledger.places.pending ≡ length own.batcher.spans → mid.ledger.places.pending ≡ length b.spans
  pending_of_group counted =
      let s : State = written_state_of own p in
      let t : State = recount Undecided Pending (length keys) s in
      let whole = sent_sizes p own.batcher moment keys there in
      let many : sizes sent ≡ sizes (all_sent (map (batch_at p) (cuts own.batcher.rules moment (own.batcher.spans ++ keys)))) = ap sizes sent_are in
      let spans : length b.spans ≡ length (uncut own.batcher.rules (own.batcher.spans ++ keys)) = ap length (added_spans moment keys own.batcher) in
      let more : t.ledger.places.pending ≡ own.ledger.places.pending + length keys = refl in
      let rest = pending_after sent t (omega (arith, whole, many, more, counted)) in
      let is : (all_queued sent t).ledger.places.pending ≡ mid.ledger.places.pending = ap (λ (u : State). u.ledger.places.pending) (sends.rules s refl refl) in
      omega (arith, rest, is, more, whole, many, counted, spans)

  room_of_group : HasRoom own → HasRoom new
  room_of_group room =
      let section : mid.section ≡ own.section = ap (λ (x : Pipeline). x.section) sends.same in
      record {
        size = ap (λ (x : SendingQueueData). x.queue_size) settings ∙ (room.size ∙ ap (λ (x : Section). x.sending_queue.queue_size) (sym section));
        fits = left room.fits;
      }

  pub groups_by : AreValidRules own.batcher.rules → 0 < length keys → IsAfter (next_due own.batcher) moment → own.ledger.places.pending ≡ length own.batcher.spans → HasRoom own →
      Groups moment keys p own new
  groups_by sound some after counted room = record {
    rules = rules_of_group;
    same = ap (λ (x : Pipeline). let y : Pipeline = record x { batcher = b } in y) sends.same;
    rules_are = added_rules moment keys own.batcher;
    timer = added_after moment keys own.batcher sound some after;
    pending_is = pending_of_group counted;
    room = room_of_group room;
  }

module _ (own mid : Pipeline) (moment : ℕ) (keys : List ℕ) (offers : ℕ) (same : mid ≡ record own { sender = mid.sender; ledger = mid.ledger }) (took : Took offers own.sender mid.sender) where
  -- with the former pending spans noted
  pub undo_by : (planned : PlannedData ℕ) (u v : Undo) → planned.start ≡ own.batcher.start → planned.spans ≡ own.batcher.spans →
      v.rows ≡ u.rows → v.counters ≡ u.counters → v.mark ≡ u.mark → v.former ≡ Some (unwrap_or u.former planned) → v.offers ≡ u.offers + offers →
      (start : Pipeline) → TakesBack u start own → TakesBack v start (record mid { batcher = added moment keys own.batcher })
  undo_by planned u v start_is spans_is rows counters mark former more start back =
      let b : batcher.State ℕ = added moment keys own.batcher in
      let rules = added_rules moment keys own.batcher in
      let pending : before v.former b ≡ before u.former own.batcher =
      ap (λ (o : Option (PlannedData ℕ)). before o b) former ∙ before_same u.former own.batcher b planned rules start_is spans_is in
      record {
        rows = rows ∙ back.rows;
        ledger = ap ledger_of counters ∙ back.ledger;
        batcher = (λ i. cut_back (mark i) (pending i)) ∙ back.batcher;
        mark = subst (λ (s : batcher.State ℕ). v.mark.count ≤ length s.spans) (sym pending) (subst (λ (m : MarkData). m.count ≤ length (before u.former own.batcher).spans) (sym mark) back.mark);
        sender = ap (λ (n : ℕ). undone n mid.sender) more ∙ (undone-add u.offers offers mid.sender ∙ (ap (undone u.offers) took.back ∙ back.sender));
        offers = let count = took.count in let few = back.offers in omega (arith, more, count, few);
        same = back.same ∙ sym (ap (λ (x : Pipeline). let y : Pipeline = record x { rows = start.rows; ledger = start.ledger; batcher = start.batcher; sender = start.sender } in y) same);
      }

-- with a group that fills no batch
abbrev pub appended : Pipeline → ℕ → List ℕ → Pipeline
appended own moment keys = record own { batcher = added moment keys own.batcher; ledger = moved Undecided Pending (length keys) own.ledger }

module _ (own : Pipeline) (p : Part TraceNote) (moment : ℕ) (keys : List ℕ) (there : AreThere p (own.batcher.spans ++ keys))
    (none : cuts own.batcher.rules moment (own.batcher.spans ++ keys) ≡ []) where
  pub groups_appended : AreValidRules own.batcher.rules → 0 < length keys → IsAfter (next_due own.batcher) moment → own.ledger.places.pending ≡ length own.batcher.spans → HasRoom own →
      Groups moment keys p own (appended own moment keys)
  groups_appended sound some after counted room =
      let mid : Pipeline = record own { ledger = moved Undecided Pending (length keys) own.ledger } in
      let sent : [] ≡ all_sent (map (batch_at p) (cuts own.batcher.rules moment (own.batcher.spans ++ keys))) = ap (λ (bs : List (Batch ℕ)). all_sent (map (batch_at p) bs)) (sym none) in
      let sends : Sends (λ s. all_queued [] (recount Undecided Pending (length keys) s)) own mid = record {
        rules = λ s sender ledger i. let t : State = record s { sender = sender i; ledger = moved Undecided Pending (length keys) (ledger i) } in t;
        same = refl;
      } in
      groups_by own mid p moment keys [] there sent sends refl (λ fits. fits) sound some after counted room

-- the keys are pending behind what was
pub appended_spans : (b : batcher.State ℕ) (moment : ℕ) (keys : List ℕ) → AreValidRules b.rules → length b.spans + length keys < threshold b.rules → (added moment keys b).spans ≡ b.spans ++ keys
appended_spans b moment keys sound few =
    let size = length-append b.spans keys in
    added_spans moment keys b ∙ (cuts_none b.rules moment (b.spans ++ keys) sound (omega (arith, few, size))).1

-- and what is noted takes it back as before
pub undo_appended : (own : Pipeline) (moment : ℕ) (keys : List ℕ) (grown : Pipeline) → grown ≡ appended own moment keys →
    (added moment keys own.batcher).spans ≡ own.batcher.spans ++ keys → (u : Undo) (start : Pipeline) → TakesBack u start own → TakesBack u start grown
undo_appended own moment keys grown is spans u start back =
    let b = added moment keys own.batcher in
    let rules = added_rules moment keys own.batcher in
    let done : TakesBack u start (appended own moment keys) = record {
      rows = back.rows;
      ledger = back.ledger;
      batcher = cut_same u.mark own.batcher b keys rules spans u.former back.mark ∙ back.batcher;
      mark = mark_stays u.mark own.batcher b keys rules spans u.former back.mark;
      sender = back.sender;
      offers = back.offers;
      same = back.same;
    } in
    subst (λ (o : Pipeline). TakesBack u start o) (sym is) done
