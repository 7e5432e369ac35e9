use Rattle.std.proofs.Common.{◌≡◌, ◌∙◌, ℕ, [], sym, ap, arith, Option, Bool, if◌then◌else◌}
use Rattle.std.proofs.lemmas.Result.{on_ok_weaker, on_err_weaker}
use Rattle.std.proofs.lemmas.List.{length-map}
use Rattle.span_batcher.specs.State.{next_due}
use Rattle.tail_policy.specs.declared.note.TraceNote.{TraceNote}
use Rattle.tenant_stores.proofs.Rooms.{lengths_are}
use Rattle.tenant_rules.specs.State.{State}
use Rattle.tenant_rules.specs.Timers.{first_due, is_batch, one_run, flushed, decide}
use Rattle.tenant_pipeline.specs.StateIn.{counts_in, part_in, written_state_in, written_state_of, view_in, waiting_of}
use Rattle.tenant_pipeline.proofs.Timing.{timer_by, decision_by, decision_there}
use Rattle.tenant_pipeline.proofs.Hits.{shown_held, shown_is}
use Rattle.tenant_pipeline.proofs.pipeline.Pipeline.run_one.Goals as goal

pub flush-requires-clause-first : goal.flush-requires-clause-first
flush-requires-clause-first c =
    let s = written_state_in c.args.self.now c.args.stores.now in
    sym (c.is_batch.ensures ∙ (ap (λ (o : Option ℕ). is_batch o c.args.decision) c.next_due.ensures ∙ ap (λ (o : Option ℕ). is_batch (next_due s.pending) o) c.requires.decision)) ∙ c.if-is_batch.true

pub flush-requires-clause-fits : goal.flush-requires-clause-fits
flush-requires-clause-fits c = λ due is.
    let s = written_state_in c.args.self.now c.args.stores.now in
    let first = flush-requires-clause-first c in
    let le = timer_by (next_due s.pending) (first_due s.waiting) c.args.moment due is first c.requires.due in
    let fits = c.requires.fits in
    omega (arith, le, fits)

pub decide-requires-clause-first : goal.decide-requires-clause-first
decide-requires-clause-first c =
    let s = written_state_in c.args.self.now c.args.stores.now in
    sym (c.is_batch.ensures ∙ (ap (λ (o : Option ℕ). is_batch o c.args.decision) c.next_due.ensures ∙ ap (λ (o : Option ℕ). is_batch (next_due s.pending) o) c.requires.decision)) ∙ c.if-is_batch.false

pub decide-requires-clause-row_undecided : goal.decide-requires-clause-row_undecided
decide-requires-clause-row_undecided c =
    let own = c.args.self.now in
    let s = written_state_in own c.args.stores.now in
    let p = part_in own c.args.stores.now in
    let some = decision_there (next_due s.pending) c.args.moment s.waiting (decide-requires-clause-first c) c.requires.due in
    let size = length-map (view_in own p).waiting waiting_of in
    let many = (lengths_are TraceNote (counts_in own) own.batcher.spans [] p c.requires.invariant.sound).0 in
    omega (arith, some, size, many)

pub decide-requires-clause-fits : goal.decide-requires-clause-fits
decide-requires-clause-fits c = λ due is.
    let s = written_state_in c.args.self.now c.args.stores.now in
    let le = decision_by (next_due s.pending) (first_due s.waiting) c.args.moment due is (decide-requires-clause-first c) c.requires.due in
    let fits = c.requires.fits in
    omega (arith, le, fits)

-- what hits were noted makes no difference
pub decide-requires-clause-invariant : goal.decide-requires-clause-invariant
decide-requires-clause-invariant c =
    let own = c.args.self.now in
    shown_held own (part_in own c.args.stores.now) c.commit.new.self c.commit.ensures.shown own.clock [] [] c.requires.invariant

pub returns-else-is_batch-clause-on_success : goal.returns-else-is_batch-clause-on_success
returns-else-is_batch-clause-on_success c =
    let own = c.args.self.now in
    let s = written_state_in own c.args.stores.now in
    let same = shown_is own (part_in own c.args.stores.now) c.commit.new.self c.commit.ensures.shown in
    let first = sym (c.is_batch.ensures ∙ (ap (λ (o : Option ℕ). is_batch o c.args.decision) c.next_due.ensures ∙ ap (λ (o : Option ℕ). is_batch (next_due s.pending) o) c.requires.decision)) ∙ c.if-is_batch.false in
    let run : one_run s ≡ decide s.waiting s = ap (λ (b : Bool). if b then flushed (next_due s.pending) s else decide s.waiting s) first in
    let new = written_state_in c.decide.new.self c.decide.new.stores in
    let old = written_state_of (record own { caches = c.commit.new.self }) (part_in own c.args.stores.now) in
    on_ok_weaker c.decide.result (λ (is : new ≡ decide old.waiting old). is ∙ (ap (λ (t : State). decide t.waiting t) same ∙ sym run)) c.decide.ensures.on_success

pub returns-else-is_batch-clause-on_refusal : goal.returns-else-is_batch-clause-on_refusal
returns-else-is_batch-clause-on_refusal c =
    let own = c.args.self.now in
    let new = written_state_in c.decide.new.self c.decide.new.stores in
    let old = written_state_of (record own { caches = c.commit.new.self }) (part_in own c.args.stores.now) in
    on_err_weaker c.decide.result (λ (is : new ≡ old). is ∙ shown_is own (part_in own c.args.stores.now) c.commit.new.self c.commit.ensures.shown) c.decide.ensures.on_refusal

pub returns-then-is_batch-clause-clock : goal.returns-then-is_batch-clause-clock
returns-then-is_batch-clause-clock c = λ le.
    let s = written_state_in c.args.self.now c.args.stores.now in
    let first = sym (c.is_batch.ensures ∙ (ap (λ (o : Option ℕ). is_batch o c.args.decision) c.next_due.ensures ∙ ap (λ (o : Option ℕ). is_batch (next_due s.pending) o) c.requires.decision)) ∙ c.if-is_batch.true in
    c.flush.ensures.clock c.args.moment le (λ due is. timer_by (next_due s.pending) (first_due s.waiting) c.args.moment due is first c.requires.due)

pub returns-else-is_batch-clause-clock : goal.returns-else-is_batch-clause-clock
returns-else-is_batch-clause-clock c = λ le.
    let s = written_state_in c.args.self.now c.args.stores.now in
    let first = sym (c.is_batch.ensures ∙ (ap (λ (o : Option ℕ). is_batch o c.args.decision) c.next_due.ensures ∙ ap (λ (o : Option ℕ). is_batch (next_due s.pending) o) c.requires.decision)) ∙ c.if-is_batch.false in
    c.decide.ensures.clock c.args.moment le (λ due is. decision_by (next_due s.pending) (first_due s.waiting) c.args.moment due is first c.requires.due)

pub returns-else-is_batch-clause-swept : goal.returns-else-is_batch-clause-swept
returns-else-is_batch-clause-swept c = λ is. c.decide.ensures.swept (is.0, c.commit.ensures.none)
