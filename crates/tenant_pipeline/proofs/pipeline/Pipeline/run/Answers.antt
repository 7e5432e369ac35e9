use Rattle.std.proofs.Common.{◌≡◌, ◌≤◌, ◌∙◌, ℕ, List, length, max, sym, ap, subst, arith, true, false, Result, Ok, Err}
use Rattle.std.specs.Prelude.{IfOk, OnOk, OnErr}
use Rattle.span_batcher.specs.Batches.{Batch}
use Rattle.span_batcher.specs.Timers.{is_due}
use Rattle.tenant_rules.specs.Machine.{acts, told_at}
use Rattle.tenant_rules.specs.State.{State}
use Rattle.tenant_rules.specs.Timers.{IsFront, enough, next_timer}
use Rattle.tenant_rules.proofs.Fronts.{ran_none}
use Rattle.tenant_pipeline.specs.declared.pipeline.Pipeline.{Pipeline}
use Rattle.tenant_pipeline.specs.Acts.{ActsAt, all_run, at}
use Rattle.tenant_pipeline.specs.Invariant.{PipelineInvariant, PipelineInvariantBy}
use Rattle.tenant_pipeline.specs.OwnStep.{own_step_of}
use Rattle.tenant_pipeline.specs.StateIn.{part_in, state_in, state_of, written_state_in}
use Rattle.tenant_pipeline.specs.Steps.{asks_none}
use Rattle.tenant_stores.specs.Part.{Part, part}
use Rattle.tail_policy.specs.declared.note.TraceNote.{TraceNote}
use Rattle.tenant_pipeline.proofs.Ahead.{none_runs, none_runs_written}
use Rattle.tenant_pipeline.proofs.Behind.{empty_by, from_written, some_by, state_none, to_written}
use Rattle.tenant_pipeline.proofs.Posting.{on_err, on_ok}
use Rattle.tenant_pipeline.proofs.pipeline.Pipeline.run.Goals as goal

-- ---- while batches aren't written

pub take_drained-requires-clause-unsent : goal.take_drained-requires-clause-unsent
take_drained-requires-clause-unsent c = some_by c.args.self.now.unsent c.is_empty.result c.if-not-is_empty.true c.is_empty.ensures.1

pub returns-then-not-is_empty-clause-on_success : goal.returns-then-not-is_empty-clause-on_success
returns-then-not-is_empty-clause-on_success c =
    let own = c.args.self.now in
    let some = some_by own.unsent c.is_empty.result c.if-not-is_empty.true c.is_empty.ensures.1 in
    let none = none_runs own (part_in own c.args.stores.now) c.args.moment c.requires.invariant some c.requires.later c.requires.fits in
    subst (λ (s : State). OnOk c.take_drained.result (ActsAt c.args.moment (acts c.args.moment (own_step_of c.args.step.now)) s (state_in c.take_drained.new.self c.take_drained.new.stores))) (sym none) c.take_drained.ensures.on_success

pub returns-then-not-is_empty-clause-told : goal.returns-then-not-is_empty-clause-told
returns-then-not-is_empty-clause-told c =
    let own = c.args.self.now in
    let some = some_by own.unsent c.is_empty.result c.if-not-is_empty.true c.is_empty.ensures.1 in
    let none = none_runs own (part_in own c.args.stores.now) c.args.moment c.requires.invariant some c.requires.later c.requires.fits in
    subst (λ (s : State). IfOk c.take_drained.result (λ told. told ≡ told_at c.args.moment (own_step_of c.args.step.now) (at c.args.moment s))) (sym none) c.take_drained.ensures.told

pub returns-then-not-is_empty-clause-first : goal.returns-then-not-is_empty-clause-first
returns-then-not-is_empty-clause-first c = λ now drains.
    let own = c.args.self.now in
    let m = c.args.moment in
    let some = some_by own.unsent c.is_empty.result c.if-not-is_empty.true c.is_empty.ensures.1 in
    let none = none_runs_written own (part_in own c.args.stores.now) m c.requires.invariant some c.requires.later c.requires.fits in
    let queue : length c.take_drained.new.self.sender.queue ≡ length (all_run m (written_state_in own c.args.stores.now)).sender.queue =
    ap (λ (o : Pipeline). length o.sender.queue) (c.take_drained.ensures.again now drains) ∙ sym (ap (λ (s : State). length s.sender.queue) none) in
    on_ok c.take_drained.result (omega (arith, queue))

-- ---- and else

pub returns-clause-few : goal.returns-clause-few
returns-clause-few c = λ some.
    let none = ap (λ (us : List (Batch ℕ)). length us) (empty_by c.args.self.now.unsent c.is_empty.result c.if-not-is_empty.false c.is_empty.ensures.0) in
    absurd (omega (arith, some, none))

pub returns-in_err-run_due-clause-few : goal.returns-in_err-run_due-clause-few
returns-in_err-run_due-clause-few c = λ some.
    let none = ap (λ (us : List (Batch ℕ)). length us) (empty_by c.args.self.now.unsent c.is_empty.result c.if-not-is_empty.false c.is_empty.ensures.0) in
    absurd (omega (arith, some, none))

-- both, where memory was refused
on_err_both : {T E P Q R : Type 0} (r : Result T E) → (P → Q → R) → OnErr r P → OnErr r Q → OnErr r R
on_err_both (Ok x) f p q = tt
on_err_both (Err e) f p q = f p q

pub run_due-requires : goal.run_due-requires
run_due-requires c =
    let own = c.args.self.now in
    let none = empty_by own.unsent c.is_empty.result c.if-not-is_empty.false c.is_empty.ensures.0 in
    record { invariant = to_written own.clock own (part_in own c.args.stores.now) none c.requires.invariant; later = c.requires.later; fits = c.requires.fits }

pub returns-clause-on_success : goal.returns-clause-on_success
returns-clause-on_success c =
    let own = c.args.self.now in
    let m = c.args.moment in
    let none = empty_by own.unsent c.is_empty.result c.if-not-is_empty.false c.is_empty.ensures.0 in
    let same = state_none own (part_in own c.args.stores.now) none in
    let is : written_state_in c.run_due.new.self c.run_due.new.stores ≡ all_run m (state_in own c.args.stores.now) = c.in_ok-run_due.ensures.on_success ∙ sym (ap (all_run m) same) in
    subst (λ (s : State). OnOk c.take.result (ActsAt m (acts m (own_step_of c.args.step.now)) s (state_in c.take.new.self c.take.new.stores))) is c.take.ensures.on_success

pub returns-clause-told : goal.returns-clause-told
returns-clause-told c =
    let own = c.args.self.now in
    let m = c.args.moment in
    let none = empty_by own.unsent c.is_empty.result c.if-not-is_empty.false c.is_empty.ensures.0 in
    let same = state_none own (part_in own c.args.stores.now) none in
    let is : written_state_in c.run_due.new.self c.run_due.new.stores ≡ all_run m (state_in own c.args.stores.now) = c.in_ok-run_due.ensures.on_success ∙ sym (ap (all_run m) same) in
    subst (λ (s : State). IfOk c.take.result (λ told. told ≡ told_at m (own_step_of c.args.step.now) (at m s))) is c.take.ensures.told

pub returns-clause-first : goal.returns-clause-first
returns-clause-first c = λ now drains.
    subst (λ (s : State). OnOk c.take.result (length c.take.new.self.sender.queue ≤ max 1 (length s.sender.queue))) c.in_ok-run_due.ensures.on_success (c.take.ensures.first now drains)

pub returns-clause-none : goal.returns-clause-none
returns-clause-none c = λ quiet asks.
    let own = c.args.self.now in
    let m = c.args.moment in
    let none = empty_by own.unsent c.is_empty.result c.if-not-is_empty.false c.is_empty.ensures.0 in
    let same = state_none own (part_in own c.args.stores.now) none in
    let written = written_state_in own c.args.stores.now in
    let quiet' : is_due (next_timer written) m ≡ false = subst (λ (s : State). is_due (next_timer s) m ≡ false) same quiet in
    let still : state_in own c.args.stores.now ≡ written_state_in c.run_due.new.self c.run_due.new.stores =
    same ∙ sym (c.in_ok-run_due.ensures.on_success ∙ ran_none (enough written) m written quiet') in
    c.take.ensures.none (subst (λ (s : State). asks_none (own_step_of c.args.step.now) s ≡ true) still asks)

pub returns-in_err-run_due-clause-none : goal.returns-in_err-run_due-clause-none
returns-in_err-run_due-clause-none c = λ quiet asks.
    let own = c.args.self.now in
    let none = empty_by own.unsent c.is_empty.result c.if-not-is_empty.false c.is_empty.ensures.0 in
    let same = state_none own (part_in own c.args.stores.now) none in
    let no : false ≡ true = c.in_err-run_due.ensures.none (subst (λ (s : State). is_due (next_timer s) c.args.moment ≡ false) same quiet) in
    absurd (cc)

pub returns-clause-on_refusal : goal.returns-clause-on_refusal
returns-clause-on_refusal c =
    let own = c.args.self.now in
    let mid = c.run_due.new.self in
    let m = c.args.moment in
    let none = empty_by own.unsent c.is_empty.result c.if-not-is_empty.false c.is_empty.ensures.0 in
    let same = state_none own (part_in own c.args.stores.now) none in
    let q = part_in mid c.run_due.new.stores in
    let left = state_none mid q c.in_ok-run_due.ensures.invariant.unsent_is in
    let front : IsFront m (state_in own c.args.stores.now) (state_of mid q) =
    subst (λ (s : State). IsFront m s (state_of mid q)) (sym same) (subst (λ (s : State). IsFront m (written_state_in own c.args.stores.now) s) (sym left) c.in_ok-run_due.ensures.front) in
    on_err_both c.take.result (λ (new : c.take.new.self ≡ mid) (part_is : part mid.tenant c.take.new.stores ≡ q).
    subst (λ (o : Pipeline). IsFront m (state_in own c.args.stores.now) (state_in o c.take.new.stores)) (sym new)
    (subst (λ (r : Part TraceNote). IsFront m (state_in own c.args.stores.now) (state_of mid r)) (sym part_is) front)) c.take.ensures.on_refusal c.take.ensures.part_on_refusal

pub returns-clause-holds_on_refusal : goal.returns-clause-holds_on_refusal
returns-clause-holds_on_refusal c =
    let mid = c.run_due.new.self in
    let q = part_in mid c.run_due.new.stores in
    on_err_both c.take.result (λ (new : c.take.new.self ≡ mid) (part_is : part mid.tenant c.take.new.stores ≡ q).
    subst (λ (o : Pipeline). PipelineInvariant o c.take.new.stores) (sym new)
    (subst (λ (r : Part TraceNote). PipelineInvariantBy mid r) (sym part_is) (from_written mid.clock mid q c.in_ok-run_due.ensures.invariant))) c.take.ensures.on_refusal c.take.ensures.part_on_refusal

pub returns-in_err-run_due-clause-on_refusal : goal.returns-in_err-run_due-clause-on_refusal
returns-in_err-run_due-clause-on_refusal c =
    let own = c.args.self.now in
    let mid = c.run_due.new.self in
    let m = c.args.moment in
    let none = empty_by own.unsent c.is_empty.result c.if-not-is_empty.false c.is_empty.ensures.0 in
    let same = state_none own (part_in own c.args.stores.now) none in
    let q = part_in mid c.run_due.new.stores in
    let left = state_none mid q c.run_due.ensures.invariant.unsent_is in
    let front : IsFront m (state_in own c.args.stores.now) (state_of mid q) =
    subst (λ (s : State). IsFront m s (state_of mid q)) (sym same) (subst (λ (s : State). IsFront m (written_state_in own c.args.stores.now) s) (sym left) c.run_due.ensures.front) in
    on_err c.from_residual.result front

pub returns-in_err-run_due-clause-holds_on_refusal : goal.returns-in_err-run_due-clause-holds_on_refusal
returns-in_err-run_due-clause-holds_on_refusal c =
    let mid = c.run_due.new.self in
    on_err c.from_residual.result (from_written mid.clock mid (part_in mid c.run_due.new.stores) c.run_due.ensures.invariant)
