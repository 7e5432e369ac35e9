-- A step of a tenant, from its timers and what it does then.
use Rattle.std.proofs.Common.{◌≡◌, ◌<◌, ◌∙◌, ℕ, zero, suc, List, [], ◌∷◌, refl, sym, ap, subst, arith, Bool, true, false, not}
use Rattle.std.specs.Prelude.{if◌then◌else◌, Result, Ok, Err, OnOk, OnErr}
use Rattle.tail_policy.specs.declared.note.TraceNote.{TraceNote}
use Rattle.tail_settings.specs.Section.{SectionData}
use Rattle.drop_ledger.specs.Ledger.{LedgerData}
use Rattle.send_retry.specs.Class.{AnswerData}
use Rattle.span_batcher.specs.Batches as batches
use Rattle.span_batcher.specs.Timers.{is_due}
use Rattle.tenant_stores.specs.Part.{Part, part}
use Rattle.tenant_stores.specs.declared.stores.Stores.{Stores}
use Rattle.tenant_rules.specs.declared.reply.StepReply.{StepReply}
use Rattle.tenant_rules.specs.Batching.{rules_of}
use Rattle.tenant_rules.specs.Limits.{IsWithinLimits}
use Rattle.tenant_rules.specs.Machine.{acts, all_moved, effective, next, settled, told, turned, turned_by}
use Rattle.tenant_rules.specs.Own.{Own, Turn, Answer, asked}
use Rattle.tenant_rules.specs.Sender.{Choice, Retried, Oldest, NoBatch, choice, in_flight}
use Rattle.tenant_rules.specs.Sending.{EndedData, ended_in_flight}
use Rattle.tenant_rules.specs.State.{State, state}
use Rattle.tenant_rules.specs.Sum.{IsCounted}
use Rattle.tenant_rules.specs.Timers.{advanced, enough, next_timer, one_run, ran}
use Rattle.tenant_rules.proofs.AnyStep.{step_follows}
use Rattle.tenant_rules.proofs.Counted.{steps_count}
use Rattle.tenant_rules.proofs.Limits.{steps_stay_within}
use Rattle.tenant_pipeline.specs.declared.pipeline.Pipeline.{Pipeline}
use Rattle.tenant_pipeline.specs.Acts.{ActsAt, at}
use Rattle.tenant_pipeline.specs.Invariant.{PipelineInvariant, PipelineInvariantAt, PipelineInvariantFrom}
use Rattle.tenant_pipeline.specs.Outbox.{Sends}
use Rattle.tenant_pipeline.specs.StateIn.{part_in, state_in, state_of, written_state_in, written_state_of}
use Rattle.tenant_pipeline.specs.Steps.{Answers, FollowsFromState}
use Rattle.tenant_pipeline.proofs.Behind.{from_written, state_none}
use Rattle.tenant_pipeline.proofs.Ranges.{batch_sound}

-- ---- what a past gives

-- the settings of a section are in their ranges
pub record AreInRange (w : SectionData) : Type 0 where
  pub rows : 0 < w.tail_sampling.num_traces
  pub wait : 0 < w.tail_sampling.decision_wait
  pub rules : batches.AreValidRules (rules_of w)

-- what follows from a state follows from a past that gives it
pub answers_of : (step : Own) (old new : State) (said : StepReply) → AreInRange old.section → FollowsFromState step old said new → Answers step old said new
unfolding state
answers_of step old new said range goes w past stands =
    let same : old.section ≡ w = ap (λ (s : State). s.section) stands in
    let own : AreInRange w = subst AreInRange same range in
    let follows = step_follows w own.rows own.wait own.rules past step in
    ((goes.said_is ∙ (ap (told step) stands ∙ sym follows.told_is)), (goes.new_is ∙ (ap (next step) stands ∙ sym follows.state_is)))

-- ---- where no timer is due

-- none runs
ran_none : (n moment : ℕ) (s : State) → is_due (next_timer s) moment ≡ false → ran n moment s ≡ s
ran_none zero moment s none = refl
ran_none (suc n) moment s none = ap (λ (b : Bool). if b then ran n moment (one_run s) else s) none

-- a step that takes effect at a moment is what was asked for alone
next_alone : (step : Own) (moment : ℕ) (s : State) → effective step s ≡ moment → is_due (next_timer s) moment ≡ false → next step s ≡ acts moment step (at moment s)
unfolding next
next_alone step moment s now none =
    ap (λ (m : ℕ). acts m step (advanced m s)) now ∙ ap (λ (z : State). acts moment step (at moment z)) (ran_none (enough s) moment s none)

-- what is not so is false
pub not_so : (b : Bool) → not b ≡ true → b ≡ false
not_so true is = absurd (cc)
not_so false is = refl

-- ---- what is sent

-- the sender and the counters change as the rules have it
pub sent_acts : (change : State → State) (moment : ℕ) (own sent : Pipeline) (p : Part TraceNote) → Sends change own sent → ActsAt moment change (written_state_of own p) (written_state_of sent p)
sent_acts change moment own sent p sends =
    let ready : State = at moment (written_state_of own p) in
    let made : change ready ≡ record ready { sender = sent.sender; ledger = sent.ledger } = sends.rules ready refl refl in
    let same : at moment (written_state_of sent p) ≡ record ready { sender = sent.sender; ledger = sent.ledger } =
    ap (λ (o : Pipeline). at moment (written_state_of o p)) sends.same in
    same ∙ sym made

-- by a call that was refused memory, nothing
pub sent_either : {T E : Type 0} (r : Result T E) (change : State → State) (own sent : Pipeline) → OnOk r (Sends change own sent) → OnErr r (sent ≡ own) →
    sent ≡ record own { sender = sent.sender; ledger = sent.ledger }
sent_either (Ok x) change own sent sends same = sends.same
sent_either (Err e) change own sent sends same = subst (λ (o : Pipeline). o ≡ record own { sender = o.sender; ledger = o.ledger }) (sym same) refl

-- spans that go from one place to another are none that come
turned_taken : (moment : ℕ) (c : Choice) (s : State) → (turned_by moment c s).ledger.accepted ≡ s.ledger.accepted
turned_taken moment (Retried a) s = refl
turned_taken moment (Oldest b) s = refl
turned_taken moment NoBatch s = refl

moved_taken : (es : List EndedData) (l : LedgerData) → (all_moved es l).accepted ≡ l.accepted
moved_taken [] l = refl
moved_taken (e ∷ es) l = moved_taken es _

-- what is counted, and what is limited, doesn't go by the clock
pub counted_with : (moment clock : ℕ) (s : State) → IsCounted (at moment s) → IsCounted (at clock s)
counted_with moment clock s counted = record {
  sound = counted.sound;
  undecided_is = counted.undecided_is;
  pending_is = counted.pending_is;
  queued_is = counted.queued_is;
  active_is = counted.active_is;
  within_budget = counted.within_budget;
}

pub within_with : (moment clock : ℕ) (s : State) → IsWithinLimits (at moment s) → IsWithinLimits (at clock s)
within_with moment clock s within = record {
  rows_are = within.rows_are;
  queue_size_is = within.queue_size_is;
  queue_bytes_is = within.queue_bytes_is;
  num_consumers_is = within.num_consumers_is;
  queue_fits = within.queue_fits;
  queue_bytes_fit = within.queue_bytes_fit;
  active_fit = within.active_fit;
  queue_short = within.queue_short;
  active_short = within.active_short;
  sampled_size_is = within.sampled_size_is;
  other_size_is = within.other_size_is;
  sampled_fit = within.sampled_fit;
  others_fit = within.others_fit;
}

-- a step asks for its moment, by which no timer is due, and changes the sender and the counters alone: what always holds
-- goes on to hold
sent_holds : (step : Own) (moment : ℕ) (gone : List ℕ) (own sent : Pipeline) (p : Part TraceNote) → asked step ≡ moment → PipelineInvariantAt moment gone [] own p → is_due (next_timer (written_state_of own p)) moment ≡ false →
    Sends (acts moment step) own sent → (acts moment step (written_state_of own p)).ledger.accepted ≡ own.ledger.accepted → PipelineInvariantAt moment gone [] sent p
sent_holds step moment gone own sent p now holds none sends taken =
    let s : State = written_state_of own p in
    let effect : effective step s ≡ moment = omega (arith, now, holds.clock_by, holds.reached_fits) in
    let after : next step s ≡ at moment (written_state_of sent p) = next_alone step moment s effect none ∙ sym (sent_acts (acts moment step) moment own sent p sends) in
    let counted : IsCounted (at moment (written_state_of sent p)) = subst IsCounted after (steps_count step s holds.counted) in
    let within : IsWithinLimits (at moment (written_state_of sent p)) = subst IsWithinLimits after (steps_stay_within step s own.section.tail_sampling.num_traces_range.0 holds.within) in
    let accepted : (acts moment step s).ledger.accepted ≡ sent.ledger.accepted = ap (λ (z : State). z.ledger.accepted) (sends.rules s refl refl) in
    subst (λ (o : Pipeline). PipelineInvariantAt moment gone [] o p) (sym sends.same) (record {
      sound = holds.sound;
      first_is = holds.first_is;
      noted = holds.noted;
      rules_are = holds.rules_are;
      order = holds.order;
      due_by = holds.due_by;
      timer = holds.timer;
      counted = subst (λ (o : Pipeline). IsCounted (written_state_of o p)) sends.same (counted_with moment sent.clock (written_state_of sent p) counted);
      within = subst (λ (o : Pipeline). IsWithinLimits (written_state_of o p)) sends.same (within_with moment sent.clock (written_state_of sent p) within);
      few = omega (arith, holds.few, taken, accepted);
      clock_by = holds.clock_by;
      reached_fits = holds.reached_fits;
      unsent_is = holds.unsent_is;
    })

-- of a part of the stores
pub record Sent (step : Own) (moment : ℕ) (gone : List ℕ) (own sent : Pipeline) (p : Part TraceNote) : Type 0 where
  pub change : ActsAt moment (acts moment step) (written_state_of own p) (written_state_of sent p)
  pub holds : PipelineInvariantAt moment gone [] sent p

module _ (now moment : ℕ) (gone : List ℕ) (own sent : Pipeline) (p : Part TraceNote) (holds : PipelineInvariantAt moment gone [] own p) (none : is_due (next_timer (written_state_of own p)) moment ≡ false) where
  -- a worker asks for a job
  pub turn_sent : Sends (turned moment) own sent → Sent (Turn now) moment gone own sent p
  turn_sent sends = record {
    change = sent_acts (turned moment) moment own sent p sends;
    holds = sent_holds (Turn moment) moment gone own sent p refl holds none sends (turned_taken moment (choice moment own.sender) (written_state_of own p));
  }

  -- a back end answers
  pub answer_sent : (ticket word : ℕ) (given : AnswerData) → Sends (settled ticket moment word given) own sent → Sent (Answer now ticket word given) moment gone own sent p
  answer_sent ticket word given sends = record {
    change = sent_acts (settled ticket moment word given) moment own sent p sends;
    holds = sent_holds (Answer moment ticket word given) moment gone own sent p refl holds none sends (moved_taken (ended_in_flight moment word given (in_flight ticket own.sender)) own.ledger);
  }

-- over the stores, of the same tenant, whose batches are all written
pub record SentOver (step : Own) (moment : ℕ) (own sent : Pipeline) (stores : Stores TraceNote) : Type 0 where
  pub change : ActsAt moment (acts moment step) (written_state_in own stores) (state_in sent stores)
  pub holds : PipelineInvariantFrom moment sent (part_in sent stores)

pub sent_over : (step : Own) (moment : ℕ) (own sent : Pipeline) (stores : Stores TraceNote) → sent.tenant ≡ own.tenant → Sent step moment [] own sent (part_in own stores) → SentOver step moment own sent stores
sent_over step moment own sent stores tenant done =
    let p = part_in own stores in
    let change : ActsAt moment (acts moment step) (written_state_in own stores) (state_of sent p) =
    subst (λ (s : State). ActsAt moment (acts moment step) (written_state_in own stores) s) (sym (state_none sent p done.holds.unsent_is)) done.change in
    record {
      change = subst (λ (t : ℕ). ActsAt moment (acts moment step) (written_state_in own stores) (state_of sent (part t stores))) (sym tenant) change;
      holds = subst (λ (t : ℕ). PipelineInvariantFrom moment sent (part t stores)) (sym tenant) (from_written moment sent p done.holds);
    }

-- the rules see the same of such a tenant either way
pub seen_same : (moment : ℕ) (own : Pipeline) (stores : Stores TraceNote) → PipelineInvariantAt moment [] [] own (part_in own stores) → state_in own stores ≡ written_state_in own stores
seen_same moment own stores holds = state_none own (part_in own stores) holds.unsent_is

-- ---- a step is done

-- what is told and left follows from the state before it, and what always holds goes on to hold
pub record Done (step : Own) (old : State) (said : StepReply) (new : Pipeline) (stores : Stores TraceNote) : Type 0 where
  pub from_state : FollowsFromState step old said (state_in new stores)
  pub held : PipelineInvariant new stores

-- the settings of a tenant are in their ranges
pub ranges : (own : Pipeline) (stores : Stores TraceNote) → AreInRange (state_in own stores).section
ranges own stores = record {
  rows = own.section.tail_sampling.num_traces_range.0;
  wait = own.section.tail_sampling.decision_wait_range.0;
  rules = batch_sound own.section;
}
