use Rattle.std.proofs.Common.{◌≡◌, ◌≤◌, ℕ, length, max, sym, subst, true, false}
use Rattle.span_batcher.specs.Timers.{is_due}
use Rattle.tenant_rules.specs.Timers.{next_timer}
use Rattle.tenant_pipeline.specs.Acts.{all_run}
use Rattle.tenant_pipeline.specs.OwnStep.{own_step_of}
use Rattle.tenant_pipeline.specs.StateIn.{state_in, written_state_in}
use Rattle.tenant_pipeline.proofs.Acting.{Acted, acted_done, may_leave}
use Rattle.tenant_pipeline.proofs.Stepping.{Done, answers_of, ranges}
use Rattle.tenant_pipeline.proofs.pipeline.Pipeline.step.Goals as goal

-- the timers ran, and then the step was taken
acted : (c : goal.After-self-1) → Acted (own_step_of c.args.step.now) c.effective-moment.result (state_in c.args.self.now c.args.stores.now) c.run.new.self c.run.new.stores
acted c = record {
  at = c.effective-moment.ensures.at;
  change = c.in_ok-told.ensures.on_success;
  holds = c.in_ok-told.ensures.holds;
}

done : (c : goal.After-self-1) → Done (own_step_of c.args.step.now) (state_in c.args.self.now c.args.stores.now) c.in_ok-told.told (record c.run.new.self { clock = c.effective-moment.result }) c.run.new.stores
done c = acted_done (own_step_of c.args.step.now) c.effective-moment.result (state_in c.args.self.now c.args.stores.now) c.in_ok-told.told c.run.new.self c.run.new.stores (acted c) c.in_ok-told.ensures.told

pub returns-clause-on_success : goal.returns-clause-on_success
returns-clause-on_success c = answers_of (own_step_of c.args.step.now) (state_in c.args.self.now c.args.stores.now) _ c.in_ok-told.told (ranges c.args.self.now c.args.stores.now) (done c).from_state

pub returns-clause-from_state : goal.returns-clause-from_state
returns-clause-from_state c = (done c).from_state

pub returns-clause-invariant : goal.returns-clause-invariant
returns-clause-invariant c = (done c).held

pub returns-clause-may_leave : goal.returns-clause-may_leave
returns-clause-may_leave c = λ now text retires told.
    may_leave (own_step_of c.args.step.now) c.effective-moment.result now (state_in c.args.self.now c.args.stores.now) c.in_ok-told.told text c.run.new.self c.run.new.stores (acted c) c.in_ok-told.ensures.told retires told

pub returns-clause-first : goal.returns-clause-first
returns-clause-first c = λ now drains.
    subst (λ (m : ℕ). length c.run.new.self.sender.queue ≤ max 1 (length (all_run m (written_state_in c.args.self.now c.args.stores.now)).sender.queue)) c.effective-moment.ensures.at (c.in_ok-told.ensures.first now drains)

pub returns-in_err-told-clause-takes_none : goal.returns-in_err-told-clause-takes_none
returns-in_err-told-clause-takes_none c = λ takes.
    let s = state_in c.args.self.now c.args.stores.now in
    let quiet : is_due (next_timer s) c.effective-moment.result ≡ false =
    subst (λ (m : ℕ). is_due (next_timer s) m ≡ false) (sym c.effective-moment.ensures.at) takes.0 in
    let no : false ≡ true = c.in_err-told.ensures.none quiet takes.1 in
    absurd (cc)
