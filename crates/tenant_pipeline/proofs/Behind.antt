-- Batches that aren't written wait behind those that are: what a sender and a tenant are with them.
use Rattle.std.proofs.Common.{◌≡◌, ◌<◌, ◌≤◌, ◌+◌, ◌-◌, ◌^◌, ◌++◌, ◌∙◌, ℕ, List, [], ◌∷◌, drop, length, map, refl, sym, ap, subst, arith, append-nil, Bool, true, false, IsTrue, Option, None, Some}
use Rattle.std.specs.Prelude.{if◌then◌else◌}
use Rattle.send_queue.specs.declared.active.Retry.{Retry}
use Rattle.send_retry.specs.Class.{AnswerData}
use Rattle.span_batcher.specs.Batches.{Batch}
use Rattle.span_batcher.specs.State as batcher
use Rattle.span_batcher.specs.State.{next_due}
use Rattle.span_batcher.specs.Machine.{fired}
use Rattle.span_batcher.specs.Maps.{spans_of}
use Rattle.span_batcher.specs.Timers.{is_due}
use Rattle.tail_policy.specs.declared.note.TraceNote.{TraceNote}
use Rattle.tenant_stores.specs.Part.{Part}
use Rattle.tenant_stores.specs.View.{WaitingRow, waiting_rows}
use Rattle.tenant_stores.specs.Counts.{range}
use Rattle.tenant_rules.specs.Arrivals.{Arrival}
use Rattle.tenant_rules.specs.Intake.{shutting_down}
use Rattle.tenant_rules.specs.Machine.{post_verdict, settled, turned, turned_by}
use Rattle.tenant_rules.specs.Ready.{front_moment, lesser, next_decision, next_job, next_retry, ready}
use Rattle.tenant_rules.specs.Sender.{ActiveData, BatchData, SenderData, Choice, Retried, Oldest, NoBatch, answered_by, choice, choice_by, due_by, first_retry, has_consumer, has_tickets, in_flight, oldest}
use Rattle.tenant_rules.specs.State.{State}
use Rattle.tenant_rules.specs.Timers.{first_due, next_timer}
use Rattle.tenant_rules.specs.Fronts.{AreInOrder, AllDueBy}
use Rattle.tenant_pipeline.specs.declared.pipeline.Pipeline.{Pipeline}
use Rattle.tenant_pipeline.specs.declared.pipeline.RowCounts.{RowCounts}
use Rattle.tenant_pipeline.specs.Invariant.{AreBehind, IsFrom, PipelineInvariantAt, PipelineInvariantFrom}
use Rattle.tenant_pipeline.specs.Outbox.{Sends}
use Rattle.tenant_pipeline.specs.StateIn.{all_written, state_of, view_in, waiting_of, with_behind, written_state_of, written_with}

-- ---- where all batches are written

pub written_none : (own : Pipeline) (p : Part TraceNote) → own.unsent ≡ [] → written_with [] p own ≡ own
written_none own p none = λ i. record own { sender = record (own.sender) { queue = append-nil own.sender.queue i }; unsent = sym none i }

pub all_written_none : (own : Pipeline) (p : Part TraceNote) → own.unsent ≡ [] → all_written own p ≡ own
all_written_none own p none = ap (λ (us : List (Batch ℕ)). written_with us p own) none ∙ written_none own p none

pub state_none : (own : Pipeline) (p : Part TraceNote) → own.unsent ≡ [] → state_of own p ≡ written_state_of own p
state_none own p none = ap (λ (o : Pipeline). written_state_of o p) (all_written_none own p none)

pub from_written : (reached : ℕ) (own : Pipeline) (p : Part TraceNote) → PipelineInvariantAt reached [] [] own p → PipelineInvariantFrom reached own p
from_written reached own p holds =
    let none = holds.unsent_is in
    let whole : PipelineInvariantAt reached [] [] (all_written own p) p = subst (λ (o : Pipeline). PipelineInvariantAt reached [] [] o p) (sym (all_written_none own p none)) holds in
    record {
      whole = subst (λ (us : List (Batch ℕ)). PipelineInvariantAt reached (spans_of us) [] (all_written own p) p) (sym none) whole;
      behind = subst (λ (us : List (Batch ℕ)). AreBehind us own) (sym none) tt;
    }

pub to_written : (reached : ℕ) (own : Pipeline) (p : Part TraceNote) → own.unsent ≡ [] → PipelineInvariantFrom reached own p → PipelineInvariantAt reached [] [] own p
to_written reached own p none holds =
    subst (λ (o : Pipeline). PipelineInvariantAt reached [] [] o p) (all_written_none own p none)
    (subst (λ (us : List (Batch ℕ)). PipelineInvariantAt reached (spans_of us) [] (all_written own p) p) none holds.whole)

-- ---- a sender with batches behind its queue

module _ (bs : List BatchData) where
  drop_front : (q : List BatchData) → 0 < length q → drop 1 (q ++ bs) ≡ drop 1 q ++ bs
  drop_front [] some = absurd (omega (arith, some))
  drop_front (b ∷ q) some = refl

  oldest_front : (q : List BatchData) → 0 < length q → oldest (q ++ bs) ≡ oldest q
  oldest_front [] some = absurd (omega (arith, some))
  oldest_front (b ∷ q) some = refl

  choice_by_behind : (o : Option Retry) (s : SenderData) → 0 < length s.queue → choice_by o (with_behind bs s) ≡ choice_by o s
  choice_by_behind (Some r) s some = refl
  choice_by_behind None s some = ap (λ (c : Choice). if has_consumer s then c else NoBatch) (oldest_front s.queue some)

  -- the same batch comes next
  pub choice_behind : (moment : ℕ) (s : SenderData) → 0 < length s.queue → choice moment (with_behind bs s) ≡ choice moment s
  choice_behind moment s some = ap (λ (c : Choice). if has_tickets s then c else NoBatch) (choice_by_behind (due_by moment (first_retry s.active)) s some)

  -- and they stay behind when it is handed out
  turned_by_behind : (moment : ℕ) (c : Choice) (s : State) → 0 < length s.sender.queue →
      turned_by moment c (record s { sender = with_behind bs s.sender }) ≡ record (turned_by moment c s) { sender = with_behind bs (turned_by moment c s).sender }
  turned_by_behind moment (Retried a) s some = refl
  turned_by_behind moment (Oldest b) s some =
      let t : State = turned_by moment (Oldest b) s in
      ap (λ (q : List BatchData). let u : State = record t { sender = record (t.sender) { queue = q } } in u) (drop_front s.sender.queue some)
  turned_by_behind moment NoBatch s some = refl

  pub turned_behind : (moment : ℕ) (s : State) → 0 < length s.sender.queue → turned moment (record s { sender = with_behind bs s.sender }) ≡ record (turned moment s) { sender = with_behind bs (turned moment s).sender }
  turned_behind moment s some =
      ap (λ (c : Choice). turned_by moment c (record s { sender = with_behind bs s.sender })) (choice_behind moment s.sender some)
      ∙ turned_by_behind moment (choice moment s.sender) s some

  -- and when a back end answers
  answered_by_behind : (now word : ℕ) (given : AnswerData) (o : Option ActiveData) (s : SenderData) → answered_by now word given o (with_behind bs s) ≡ with_behind bs (answered_by now word given o s)
  answered_by_behind now word given None s = refl
  answered_by_behind now word given (Some a) s = refl

  pub settled_behind : (ticket moment word : ℕ) (given : AnswerData) (s : State) →
      settled ticket moment word given (record s { sender = with_behind bs s.sender }) ≡ record (settled ticket moment word given s) { sender = with_behind bs (settled ticket moment word given s).sender }
  settled_behind ticket moment word given s =
      let t : State = settled ticket moment word given s in
      ap (λ (x : SenderData). let u : State = record t { sender = x } in u) (answered_by_behind moment word given (in_flight ticket s.sender) s.sender)

  -- from when on there is a job
  front_behind : (q : List BatchData) → 0 < length q → front_moment (q ++ bs) ≡ front_moment q
  front_behind [] some = absurd (omega (arith, some))
  front_behind (b ∷ q) some = refl

  pub job_behind : (s : SenderData) → 0 < length s.queue → next_job (with_behind bs s) ≡ next_job s
  job_behind s some = ap (λ (o : Option ℕ). if has_tickets s then lesser (next_retry s.active) (if has_consumer s then o else None) else None) (front_behind s.queue some)

  -- so it is with a change of the sender and the counters that keeps them behind
  abbrev pub with_all_behind : Pipeline → Pipeline
  with_all_behind own = record own { sender = with_behind bs own.sender; unsent = [] }

  pub sends_behind : (change : State → State) (own new : Pipeline) →
      ((s : State) → s.sender ≡ own.sender → change (record s { sender = with_behind bs s.sender }) ≡ record (change s) { sender = with_behind bs (change s).sender }) →
      Sends change own new → Sends change (with_all_behind own) (with_all_behind new)
  sends_behind change own new stays sends = record {
    rules = λ s sender ledger.
        let t : State = record s { sender = own.sender; ledger = own.ledger } in
        let here : s ≡ record t { sender = with_behind bs t.sender } = λ i. record s { sender = sender i; ledger = ledger i } in
        let first : change s ≡ change (record t { sender = with_behind bs t.sender }) = ap change here in
        let last : record (change t) { sender = with_behind bs (change t).sender } ≡ record s { sender = with_behind bs new.sender; ledger = new.ledger } =
        ap (λ (u : State). let v : State = record u { sender = with_behind bs u.sender } in v) (sends.rules t refl refl) in
        first ∙ (stays t refl ∙ last);
    same = ap (λ (x : Pipeline). let y : Pipeline = record x { sender = with_behind bs new.sender; unsent = [] } in y) sends.same;
  }

-- ---- whether batches aren't written

pub empty_by : (us : List (Batch ℕ)) (b : Bool) → b ≡ true → (IsTrue b → us ≡ []) → us ≡ []
empty_by us b is none = none is

pub some_by : (us : List (Batch ℕ)) (b : Bool) → b ≡ false → (us ≡ [] → IsTrue b) → 0 < length us
some_by [] b is none = let both : Path Bool true false = sym (none refl) ∙ is in absurd (cc)
some_by (u ∷ us) b is none = omega arith

-- ---- after a drain

-- batches that aren't written stand behind one that is, and nothing else waits
pub record IsDrained (own : Pipeline) : Type 0 where
  pub some : 0 < length own.sender.queue
  pub drained : own.drained ≡ true
  pub decided : own.rows.decided ≡ own.rows.opened
  pub fired_is : own.batcher ≡ fired own.batcher

pub behind_is : (us : List (Batch ℕ)) (own : Pipeline) → 0 < length us → AreBehind us own → IsDrained own
behind_is [] own some behind = absurd (omega (arith, some))
behind_is (b ∷ us) own some behind = record { some = behind.0; drained = behind.1; decided = behind.2; fired_is = behind.3 }

pub is_behind : (us : List (Batch ℕ)) (own : Pipeline) → (0 < length us → 0 < length own.sender.queue) → own.drained ≡ true → own.rows.decided ≡ own.rows.opened → own.batcher ≡ fired own.batcher → AreBehind us own
is_behind [] own some drained decided fired_is = tt
is_behind (b ∷ us) own some drained decided fired_is = (some (omega arith), drained, decided, fired_is)

pub behind_same : (us : List (Batch ℕ)) (a b : Pipeline) → b.sender ≡ a.sender → b.drained ≡ a.drained → b.rows ≡ a.rows → b.batcher ≡ a.batcher → AreBehind us a → AreBehind us b
behind_same [] a b sender drained rows pending behind = tt
behind_same (u ∷ us) a b sender drained rows pending behind =
    let queue : length b.sender.queue ≡ length a.sender.queue = ap (λ (s : SenderData). length s.queue) sender in
    let some = behind.0 in
    (omega (arith, queue, some), drained ∙ behind.1, ap (λ (r : RowCounts). r.decided) rows ∙ (behind.2 ∙ sym (ap (λ (r : RowCounts). r.opened) rows)), pending ∙ (behind.3 ∙ sym (ap (λ (s : batcher.State ℕ). fired s) pending)))

module _ (own : Pipeline) (p : Part TraceNote) (decided : own.rows.decided ≡ own.rows.opened) (fired_is : own.batcher ≡ fired own.batcher) where
  -- no row waits
  pub none_waits : (view_in own p).waiting ≡ []
  none_waits =
      let none : own.rows.opened - own.rows.decided ≡ 0 = omega (arith, decided) in
      ap (λ (k : ℕ). waiting_rows p.spans p.texts p.rows (range own.rows.decided k)) none

  none_in_state : (written_state_of own p).waiting ≡ []
  none_in_state = ap (λ (rows : List (WaitingRow TraceNote)). map waiting_of rows) none_waits

  no_timer : next_due own.batcher ≡ None
  no_timer = ap (λ (b : batcher.State ℕ). next_due b) fired_is

  -- no timer is due
  pub none_due : (moment : ℕ) → is_due (next_timer (written_state_of own p)) moment ≡ false
  none_due moment = λ i. is_due (lesser (no_timer i) (first_due (none_in_state i))) moment

  -- there is nothing to do but what the sender has
  pub ready_is : ready (written_state_of own p) ≡ next_job own.sender
  unfolding ready
  ready_is = λ i. lesser (lesser (next_decision (none_in_state i)) (no_timer i)) (next_job own.sender)

  -- what always holds does so at any moment that isn't before the clock
  pub at_any : (a b : ℕ) (gone held : List ℕ) → own.clock ≤ b → b ≤ 2 ^ 62 → PipelineInvariantAt a gone held own p → PipelineInvariantAt b gone held own p
  at_any a b gone held later fits holds = record {
    sound = holds.sound;
    first_is = holds.first_is;
    noted = holds.noted;
    rules_are = holds.rules_are;
    order = subst (AreInOrder b) (sym none_in_state) tt;
    due_by = subst (AllDueBy (b + own.section.tail_sampling.decision_wait)) (sym none_in_state) tt;
    timer = subst (λ (o : Option ℕ). IsFrom b o) (sym no_timer) tt;
    counted = holds.counted;
    within = holds.within;
    few = holds.few;
    clock_by = later;
    reached_fits = fits;
    unsent_is = holds.unsent_is;
  }

-- it takes no spans
pub verdict_drained : (moment : ℕ) (arrivals : List Arrival) (s : State) → s.drained ≡ true → post_verdict moment arrivals s ≡ shutting_down
verdict_drained moment arrivals s is = rw is refl
