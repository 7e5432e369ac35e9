-- A step of a tenant, from its timers and what it does then.
use Rattle.std.proofs.Common.{◌≡◌, ◌∙◌, ℕ, List, [], refl, sym, subst, ap, arith}
use Rattle.drop_ledger.specs.Ledger.{LedgerData}
use Rattle.span_batcher.specs.Maps.{spans_of}
use Rattle.tail_policy.specs.declared.note.TraceNote.{TraceNote}
use Rattle.tenant_stores.specs.Part.{Part}
use Rattle.tenant_stores.specs.declared.stores.Stores.{Stores}
use Rattle.tenant_rules.specs.declared.reply.StepReply.{StepReply}
use Rattle.tenant_rules.specs.declared.reply.StepReply.TheVariants as replies
use Rattle.tenant_rules.specs.Machine.{acts, effective, next, told, told_at}
use Rattle.tenant_rules.specs.Own.{Own, Retire}
use Rattle.tenant_rules.specs.State.{State}
use Rattle.tenant_rules.specs.Timers.{advanced}
use Rattle.tenant_pipeline.specs.declared.pipeline.Pipeline.{Pipeline}
use Rattle.tenant_pipeline.specs.Acts.{ActsAt, all_run, at}
use Rattle.tenant_pipeline.specs.Invariant.{PipelineInvariantAt, PipelineInvariantBy, PipelineInvariantFrom, HasNonePending}
use Rattle.tenant_pipeline.specs.StateIn.{all_written, part_in, state_in, written_state_of}
use Rattle.tenant_pipeline.proofs.Behind.{behind_same}
use Rattle.tenant_pipeline.proofs.Retiring.{none_counted, none_queued, none_pending, none_unsent}
use Rattle.tenant_pipeline.proofs.Stepping.{Done, counted_with, within_with}

-- the clock is set to the moment up to which timers ran
whole_now : (moment : ℕ) (gone : List ℕ) (own : Pipeline) (q : Part TraceNote) → PipelineInvariantAt moment gone [] own q → PipelineInvariantAt moment gone [] (record own { clock = moment }) q
whole_now moment gone own q held = record {
  sound = held.sound;
  first_is = held.first_is;
  noted = held.noted;
  rules_are = held.rules_are;
  order = held.order;
  due_by = held.due_by;
  timer = held.timer;
  counted = counted_with own.clock moment (written_state_of own q) held.counted;
  within = within_with own.clock moment (written_state_of own q) held.within;
  few = held.few;
  clock_by = omega arith;
  reached_fits = held.reached_fits;
  unsent_is = held.unsent_is;
}

held_now : (moment : ℕ) (own : Pipeline) (q : Part TraceNote) → PipelineInvariantFrom moment own q → PipelineInvariantBy (record own { clock = moment }) q
held_now moment own q held = record {
  whole = whole_now moment (spans_of own.unsent) (all_written own q) q held.whole;
  behind = behind_same own.unsent own (record own { clock = moment }) refl refl refl refl held.behind;
}

-- what a step does where its timers ran by the moment at which it takes effect
pub record Acted (step : Own) (moment : ℕ) (s : State) (new : Pipeline) (after : Stores TraceNote) : Type 0 where
  pub at : moment ≡ effective step s
  pub change : ActsAt moment (acts moment step) (all_run moment s) (state_in new after)
  pub holds : PipelineInvariantFrom moment new (part_in new after)

pub acted_done : (step : Own) (moment : ℕ) (s : State) (said : StepReply) (new : Pipeline) (after : Stores TraceNote) →
    Acted step moment s new after → said ≡ told_at moment step (at moment (all_run moment s)) →
    Done step s said (record new { clock = moment }) after
unfolding next told
acted_done step moment s said new after acted said_is = record {
  from_state = record {
    said_is = said_is ∙ ap (λ (m : ℕ). told_at m step (advanced m s)) acted.at;
    new_is = acted.change ∙ ap (λ (m : ℕ). acts m step (advanced m s)) acted.at;
  };
  held = held_now moment new (part_in new after) acted.holds;
}

-- a retirement that is told the last report leaves no span that waits for a batch
pub may_leave : (step : Own) (moment now : ℕ) (s : State) (said : StepReply) (text : List ℕ) (new : Pipeline) (after : Stores TraceNote) →
    Acted step moment s new after → said ≡ told_at moment step (at moment (all_run moment s)) → step ≡ Retire now → said ≡ replies.Report text → HasNonePending new
may_leave step moment now s said text new after acted said_is retires told =
    let mid : State = all_run moment s in
    let p = part_in new after in
    let there : ActsAt moment (acts moment (Retire now)) mid (state_in new after) = subst (λ (o : Own). ActsAt moment (acts moment o) mid (state_in new after)) retires acted.change in
    let says : said ≡ told_at moment (Retire now) (at moment mid) = subst (λ (o : Own). said ≡ told_at moment o (at moment mid)) retires said_is in
    let ledger : new.ledger ≡ mid.ledger = ap (λ (z : State). z.ledger) there in
    let last = sym says ∙ told in
    let pending = ap (λ (l : LedgerData). l.places.pending) ledger ∙ none_counted mid.drained mid.ledger text last in
    let queued = ap (λ (l : LedgerData). l.places.queued) ledger ∙ none_queued mid.drained mid.ledger text last in
    (none_pending moment (spans_of new.unsent) (all_written new p) p acted.holds.whole pending, none_unsent moment new p acted.holds queued)
