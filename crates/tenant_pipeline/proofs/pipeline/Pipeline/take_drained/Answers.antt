use Rattle.std.proofs.Common.{◌≡◌, ◌≤◌, ◌∙◌, ◌&&◌, true, false, ℕ, max, length, sym, ap, subst, arith, Result, Ok, Err}
use Rattle.std.specs.Result.{OnOk, OnErr}
use Rattle.std.proofs.lemmas.Result.{on_ok_weaker}
use Rattle.send_retry.specs.Class.{AnswerData, answer_view}
use Rattle.tenant_stores.specs.Part.{part}
use Rattle.tenant_rules.specs.Machine.{acts}
use Rattle.tenant_rules.specs.Own.{Turn, Answer}
use Rattle.tenant_rules.specs.Retiring.{holds_none}
use Rattle.tenant_pipeline.specs.declared.pipeline.Pipeline.{Pipeline}
use Rattle.tenant_pipeline.specs.Acts.{ActsAt}
use Rattle.tenant_pipeline.specs.Invariant.{PipelineInvariantFrom}
use Rattle.tenant_pipeline.specs.StateIn.{part_in, state_in, state_of}
use Rattle.tenant_pipeline.specs.Unsent.{HandsOut, IsAhead}
use Rattle.tenant_pipeline.proofs.Ahead.{Stepped, answered_keeps, answers, hands_out, state_ahead, turned_keeps}
use Rattle.tenant_pipeline.proofs.Posting.{on_err_then}
use Rattle.tenant_pipeline.proofs.Stepping.{not_so}
use Rattle.tenant_pipeline.proofs.pipeline.Pipeline.take_drained.Goals as goal

-- ---- a worker asks for a job

pub returns-in-Turn-clause-on_success : goal.returns-in-Turn-clause-on_success
returns-in-Turn-clause-on_success c =
    let m = c.args.moment in
    let own = c.args.self.now in
    let new = c.hand_out_next.new.self in
    let stores = c.args.stores.now in
    let last = c.hand_out_next.new.stores in
    let p = part_in own stores in
    let q = part_in own last in
    let over : HandsOut m own new p q → ActsAt m (acts m (Turn 0)) (state_in own stores) (state_in new last) = λ h.
    let done : Stepped (Turn 0) m own new p q = hands_out own p m c.requires.invariant c.requires.unsent c.requires.later c.requires.fits h.middle q h.ahead 0 new h.sends h.behind in
    let tenant : new.tenant ≡ own.tenant = ap (λ (o : Pipeline). o.tenant) h.sends.same ∙ ap (λ (o : Pipeline). o.tenant) h.ahead.same in
    subst (λ (t : ℕ). ActsAt m (acts m (Turn 0)) (state_in own stores) (state_of new (part t last))) (sym tenant) done.change in
    rw c.in-Turn.is (on_ok_weaker c.hand_out_next.result over c.hand_out_next.ensures.on_success)

pub returns-in-Turn-clause-holds : goal.returns-in-Turn-clause-holds
returns-in-Turn-clause-holds c =
    let m = c.args.moment in
    let own = c.args.self.now in
    let new = c.hand_out_next.new.self in
    let last = c.hand_out_next.new.stores in
    let p = part_in own c.args.stores.now in
    let q = part_in own last in
    let over : HandsOut m own new p q → PipelineInvariantFrom m new (part_in new last) = λ h.
    let done : Stepped (Turn 0) m own new p q = hands_out own p m c.requires.invariant c.requires.unsent c.requires.later c.requires.fits h.middle q h.ahead 0 new h.sends h.behind in
    let tenant : new.tenant ≡ own.tenant = ap (λ (o : Pipeline). o.tenant) h.sends.same ∙ ap (λ (o : Pipeline). o.tenant) h.ahead.same in
    subst (λ (t : ℕ). PipelineInvariantFrom m new (part t last)) (sym tenant) done.holds in
    on_ok_weaker c.hand_out_next.result over c.hand_out_next.ensures.on_success

pub returns-in-Turn-clause-on_refusal : goal.returns-in-Turn-clause-on_refusal
returns-in-Turn-clause-on_refusal c =
    let own = c.args.self.now in
    let new = c.hand_out_next.new.self in
    let last = c.hand_out_next.new.stores in
    let p = part_in own c.args.stores.now in
    let q = part_in own last in
    let over : IsAhead own new p q → state_in new last ≡ state_in own c.args.stores.now = λ ahead.
    subst (λ (t : ℕ). state_of new (part t last) ≡ state_of own p) (sym (ap (λ (o : Pipeline). o.tenant) ahead.same)) (state_ahead own new p q ahead) in
    on_err_then c.hand_out_next.result over c.hand_out_next.ensures.on_refusal

-- by what it came to
either : {T E P Q R : Type 0} (r : Result T E) → OnOk r P → OnErr r Q → (P → R) → (Q → R) → R
either (Ok x) p q f g = f p
either (Err x) p q f g = g q

pub returns-in-Turn-clause-few : goal.returns-in-Turn-clause-few
returns-in-Turn-clause-few c =
    let own = c.args.self.now in
    let new = c.hand_out_next.new.self in
    let p = part_in own c.args.stores.now in
    let q = part_in own c.hand_out_next.new.stores in
    let handed : HandsOut c.args.moment own new p q → length new.sender.queue ≤ max 2 (length own.sender.queue) = λ h.
    let less = turned_keeps c.args.moment h.middle new q h.sends in
    let few = h.ahead.few in
    omega (arith, less, few) in
    either c.hand_out_next.result c.hand_out_next.ensures.on_success c.hand_out_next.ensures.on_refusal handed (λ (ahead : IsAhead own new p q). ahead.few)

-- ---- a back end answers

pub returns-in-Answer-clause-few : goal.returns-in-Answer-clause-few
returns-in-Answer-clause-few c =
    let own = c.args.self.now in
    let same = answered_keeps c.args.moment c.in-Answer.ticket c.in-Answer.word (answer_view c.in-Answer.answer.now) own c.settle.new.self (part_in own c.args.stores.now) c.settle.ensures.sends in
    omega (arith, same)

pub returns-in-Answer-clause-on_success : goal.returns-in-Answer-clause-on_success
returns-in-Answer-clause-on_success c =
    let m = c.args.moment in
    let own = c.args.self.now in
    let new = c.settle.new.self in
    let stores = c.args.stores.now in
    let p = part_in own stores in
    let ticket = c.in-Answer.ticket in
    let word = c.in-Answer.word in
    let given : AnswerData = answer_view c.in-Answer.answer.now in
    let done : Stepped (Answer 0 ticket word given) m own new p p = answers own p m c.requires.invariant c.requires.unsent c.requires.later c.requires.fits 0 ticket word given new c.settle.ensures.sends in
    let tenant : new.tenant ≡ own.tenant = ap (λ (o : Pipeline). o.tenant) c.settle.ensures.sends.same in
    rw c.in-Answer.is (subst (λ (t : ℕ). ActsAt m (acts m (Answer 0 ticket word given)) (state_in own stores) (state_of new (part t stores))) (sym tenant) done.change)

pub returns-in-Answer-clause-holds : goal.returns-in-Answer-clause-holds
returns-in-Answer-clause-holds c =
    let m = c.args.moment in
    let own = c.args.self.now in
    let new = c.settle.new.self in
    let stores = c.args.stores.now in
    let p = part_in own stores in
    let ticket = c.in-Answer.ticket in
    let word = c.in-Answer.word in
    let given : AnswerData = answer_view c.in-Answer.answer.now in
    let done : Stepped (Answer 0 ticket word given) m own new p p = answers own p m c.requires.invariant c.requires.unsent c.requires.later c.requires.fits 0 ticket word given new c.settle.ensures.sends in
    let tenant : new.tenant ≡ own.tenant = ap (λ (o : Pipeline). o.tenant) c.settle.ensures.sends.same in
    subst (λ (t : ℕ). PipelineInvariantFrom m new (part t stores)) (sym tenant) done.holds

-- ---- those that ask for no memory

pub returns-in_err-reply-in-Post-clause-none : goal.returns-in_err-reply-in-Post-clause-none
returns-in_err-reply-in-Post-clause-none c = λ asks. let no : false ≡ true = rw c.in-Post.is at asks in absurd (cc)

pub returns-in-Turn-clause-none : goal.returns-in-Turn-clause-none
returns-in-Turn-clause-none c = λ asks. let no : false ≡ true = rw c.in-Turn.is at asks in absurd (cc)

pub returns-in-Report-clause-none : goal.returns-in-Report-clause-none
returns-in-Report-clause-none c = λ asks. let no : false ≡ true = rw c.in-Report.is at asks in absurd (cc)

pub returns-in-Retire-clause-none : goal.returns-in-Retire-clause-none
returns-in-Retire-clause-none c = λ asks.
    let own = c.args.self.now in
    c.retire_told.ensures.none (not_so (own.drained && holds_none own.ledger.places) (rw c.in-Retire.is at asks))
