use Rattle.std.proofs.Common.{arith, ◌≡◌, ℕ, sym, ap, ◌∙◌, true, false, Option}
use Rattle.span_batcher.specs.Timers.{is_due}
use Rattle.tenant_rules.specs.Ready.{lesser}
use Rattle.tenant_rules.specs.Timers.{next_timer}
use Rattle.tenant_rules.proofs.Fronts.{to_run, one_run_less, IsFront-push}
use Rattle.tenant_pipeline.specs.StateIn.{part_in, written_state_in}
use Rattle.tenant_pipeline.proofs.Timing.{all_ran, none_later}
use Rattle.tenant_pipeline.proofs.Holding.{held_later}
use Rattle.tenant_pipeline.proofs.pipeline.Pipeline.run_due.Goals as goal

pub loop-decision-preserved : goal.loop-decision-preserved
loop-decision-preserved c =
    let s = written_state_in c.loop-decision.self c.loop-decision.stores in
    let due : is_due (next_timer s) c.args.moment ≡ true = sym (c.is_due.ensures ∙ ap (λ (t : Option ℕ). is_due t c.args.moment) (c.lesser.ensures ∙ (λ i. lesser (c.next_due.ensures i) (c.loop-decision.invariant.decision i)))) ∙ c.loop-decision-test.true in
    record {
      decision = c.first_due-decision-in-loop-decision.ensures;
      front = IsFront-push c.args.moment (written_state_in c.args.self.now c.args.stores.now) s (written_state_in c.run_one.new.self c.run_one.new.stores) c.loop-decision.invariant.front due c.in_ok-run_one.ensures.on_success;
      held = c.in_ok-run_one.ensures.invariant;
      clock = c.in_ok-run_one.ensures.clock c.loop-decision.invariant.clock;
      others = λ other ne. c.in_ok-run_one.ensures.others_unchanged other (λ e. ne (e ∙ c.loop-decision.invariant.tenant)) ∙ c.loop-decision.invariant.others other ne;
      tenant = c.in_ok-run_one.ensures.tenant ∙ c.loop-decision.invariant.tenant;
      section = c.in_ok-run_one.ensures.section ∙ c.loop-decision.invariant.section;
      swept = λ is. c.in_ok-run_one.ensures.swept (c.loop-decision.invariant.swept is);
    }

pub loop-decision-smaller : goal.loop-decision-smaller
loop-decision-smaller c =
    let s = written_state_in c.loop-decision.self c.loop-decision.stores in
    let due : is_due (next_timer s) c.args.moment ≡ true = sym (c.is_due.ensures ∙ ap (λ (t : Option ℕ). is_due t c.args.moment) (c.lesser.ensures ∙ (λ i. lesser (c.next_due.ensures i) (c.loop-decision.invariant.decision i)))) ∙ c.loop-decision-test.true in
    let less = one_run_less s c.args.moment due in
    let same = ap to_run c.in_ok-run_one.ensures.on_success in
    omega (arith, less, same)

pub returns-in_err-run_one-clause-others_unchanged : goal.returns-in_err-run_one-clause-others_unchanged
returns-in_err-run_one-clause-others_unchanged c = λ other ne. c.in_err-run_one.ensures.others_unchanged other (λ e. ne (e ∙ c.loop-decision.invariant.tenant)) ∙ c.loop-decision.invariant.others other ne

pub returns-in_err-run_one-clause-none : goal.returns-in_err-run_one-clause-none
returns-in_err-run_one-clause-none c = λ quiet.
    let s = written_state_in c.loop-decision.self c.loop-decision.stores in
    let later = none_later c.args.moment (written_state_in c.args.self.now c.args.stores.now) s c.loop-decision.invariant.front quiet in
    let due : is_due (next_timer s) c.args.moment ≡ true = sym (c.is_due.ensures ∙ ap (λ (t : Option ℕ). is_due t c.args.moment) (c.lesser.ensures ∙ (λ i. lesser (c.next_due.ensures i) (c.loop-decision.invariant.decision i)))) ∙ c.loop-decision-test.true in
    absurd (cc)

pub returns-clause-on_success : goal.returns-clause-on_success
returns-clause-on_success c =
    let s = written_state_in c.loop-decision.self c.loop-decision.stores in
    let quiet : is_due (next_timer s) c.args.moment ≡ false = sym (c.is_due.ensures ∙ ap (λ (t : Option ℕ). is_due t c.args.moment) (c.lesser.ensures ∙ (λ i. lesser (c.next_due.ensures i) (c.loop-decision.invariant.decision i)))) ∙ c.loop-decision-test.false in
    all_ran c.args.moment c.loop-decision.invariant.front.0 (written_state_in c.args.self.now c.args.stores.now) s c.loop-decision.invariant.front.1 quiet

pub returns-clause-reached : goal.returns-clause-reached
returns-clause-reached c =
    let s = written_state_in c.loop-decision.self c.loop-decision.stores in
    let quiet : is_due (next_timer s) c.args.moment ≡ false = sym (c.is_due.ensures ∙ ap (λ (t : Option ℕ). is_due t c.args.moment) (c.lesser.ensures ∙ (λ i. lesser (c.next_due.ensures i) (c.loop-decision.invariant.decision i)))) ∙ c.loop-decision-test.false in
    held_later c.loop-decision.self (part_in c.loop-decision.self c.loop-decision.stores) c.args.moment c.loop-decision.invariant.held c.loop-decision.invariant.clock c.requires.fits quiet
