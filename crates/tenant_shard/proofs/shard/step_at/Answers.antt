use Rattle.std.proofs.Common.{◌≡◌, ◌∙◌, sym, subst, true, false, arith, Option}
use Rattle.std.proofs.lemmas.List.{length-set}
use Rattle.std.specs.Prelude.{vec_capacity}
use Rattle.tail_settings.specs.Section.{section_view}
use Rattle.tenant_pipeline.specs.Invariant.{HasNonePending}
use Rattle.tenant_pipeline.specs.OwnStep.{own_step_of}
use Rattle.tenant_pipeline.specs.StateIn.{state_in}
use Rattle.tenant_pipeline.specs.Steps.{TakesNone}
use Rattle.tenant_rules.specs.State.{State}
use Rattle.tenant_shard.specs.Members.{all_views}
use Rattle.tenant_shard.specs.Outcomes.{asked_by}
use Rattle.tenant_shard.specs.Refusal.{TakesNoneOf}
use Rattle.tenant_shard.specs.Steps.{ends}
use Rattle.tenant_shard.specs.View.{kept_of}
use Rattle.tenant_shard.proofs.Places.{on_err, get_set}
use Rattle.tenant_shard.proofs.Piped.{taken_made, ends_is, stays_told, leaves_told}
use Rattle.tenant_shard.proofs.Runs.{reached}
use Rattle.tenant_shard.proofs.Stepped.{kept, held, listed, stands, change, whole}
use Rattle.tenant_shard.proofs.shard.step_at.Goals as goal

pub step-result-requires-clause-invariant : goal.step-result-requires-clause-invariant
step-result-requires-clause-invariant c =
    held c.args.tenant c.args.stores.now c.args.agenda.now c.args.members.now.items c.args.gone.now.items (vec_capacity c.args.gone.now) c.args.place c.index_mut-own.result.now c.requires.whole c.requires.place c.index_mut-own.ensures.value

pub step-result-requires-clause-policies : goal.step-result-requires-clause-policies
step-result-requires-clause-policies c =
    let t = c.args.tenant in
    let own = c.index_mut-own.result.now in
    let stores = c.args.stores.now in
    let ms = c.args.members.now.items in
    let gs = c.args.gone.now.items in
    let is = kept t stores c.args.agenda.now ms gs (vec_capacity c.args.gone.now) c.args.place own c.requires.whole c.requires.place c.index_mut-own.ensures.value in
    taken_made c.args.step.now (section_view own.section) (reached (asked_by c.args.step.now) (kept_of t (all_views stores ms gs)) (state_in own stores) is c.requires.taken)

pub set-requires : goal.set-requires
set-requires c =
    listed c.args.tenant c.args.stores.now c.args.agenda.now c.args.members.now.items c.args.gone.now.items (vec_capacity c.args.gone.now) c.args.place c.index_mut-own.result.now c.requires.whole c.requires.place c.index_mut-own.ensures.value

pub returns-in_err-told-clause-on_refusal : goal.returns-in_err-told-clause-on_refusal
returns-in_err-told-clause-on_refusal c =
    let own = c.index_mut-own.result.now in
    let own' = c.step-result.new.self in
    let after = c.step-result.ensures in
    on_err c.from_residual.result (record {
      before = state_in own c.args.stores.now;
      after = state_in own' c.step-result.new.stores;
      change = change c.args.tenant c.args.stores.now c.args.agenda.now c.args.members.now.items c.args.gone.now.items (vec_capacity c.args.gone.now) c.args.place own c.requires.whole c.requires.place c.index_mut-own.ensures.value c.step-result.new.stores own' after.tenant after.others_unchanged after.section;
      front = c.in_err-told.ensures.on_refusal;
    })

pub returns-in_err-told-clause-takes_none : goal.returns-in_err-told-clause-takes_none
returns-in_err-told-clause-takes_none c = λ takes.
    let own = c.index_mut-own.result.now in
    let stores = c.args.stores.now in
    let is = kept c.args.tenant stores c.args.agenda.now c.args.members.now.items c.args.gone.now.items (vec_capacity c.args.gone.now) c.args.place own c.requires.whole c.requires.place c.index_mut-own.ensures.value in
    let takes' : TakesNone (own_step_of c.args.step.now) (state_in own stores) = subst (λ (k : Option State). TakesNoneOf (asked_by c.args.step.now) k) is takes in
    let no : false ≡ true = c.in_err-told.ensures.takes_none takes' in
    absurd (cc)

pub returns-in_err-told-clause-whole : goal.returns-in_err-told-clause-whole
returns-in_err-told-clause-whole c =
    let after = c.step-result.ensures in
    whole c.args.tenant c.args.stores.now c.args.agenda.now c.args.members.now.items c.args.gone.now.items (vec_capacity c.args.gone.now) c.args.place c.index_mut-own.result.now c.requires.whole c.requires.place c.index_mut-own.ensures.value c.step-result.new.stores c.step-result.new.self after.tenant after.others_unchanged
    c.set.new.self c.ready-ready.result after.section after.invariant after.swept c.ready-ready.ensures c.set.ensures.ready c.set.ensures.members

-- the member stays
pub returns-then-not-ends-clause-on_success : goal.returns-then-not-ends-clause-on_success
returns-then-not-ends-clause-on_success c =
    let own = c.index_mut-own.result.now in
    let own' = c.step-result.new.self in
    let after = c.step-result.ensures in
    let told = c.in_ok-told.told in
    let step = own_step_of c.args.step.now in
    let test : ends step told ≡ false = sym c.ends.ensures ∙ c.if-not-ends.true in
    let changed = change c.args.tenant c.args.stores.now c.args.agenda.now c.args.members.now.items c.args.gone.now.items (vec_capacity c.args.gone.now) c.args.place own c.requires.whole c.requires.place c.index_mut-own.ensures.value c.step-result.new.stores own' after.tenant after.others_unchanged after.section in
    rw c.named.ensures (stays_told c.args.tenant step _ _ told (state_in own c.args.stores.now) (state_in own' c.step-result.new.stores) test changed c.in_ok-told.ensures.on_success c.in_ok-told.ensures.from_state)

pub returns-then-not-ends-clause-whole : goal.returns-then-not-ends-clause-whole
returns-then-not-ends-clause-whole c =
    let after = c.step-result.ensures in
    whole c.args.tenant c.args.stores.now c.args.agenda.now c.args.members.now.items c.args.gone.now.items (vec_capacity c.args.gone.now) c.args.place c.index_mut-own.result.now c.requires.whole c.requires.place c.index_mut-own.ensures.value c.step-result.new.stores c.step-result.new.self after.tenant after.others_unchanged
    c.set.new.self c.ready-ready.result after.section after.invariant after.swept c.ready-ready.ensures c.set.ensures.ready c.set.ensures.members

-- the member goes
pub let_go-requires-clause-whole : goal.let_go-requires-clause-whole
let_go-requires-clause-whole c =
    let after = c.step-result.ensures in
    whole c.args.tenant c.args.stores.now c.args.agenda.now c.args.members.now.items c.args.gone.now.items (vec_capacity c.args.gone.now) c.args.place c.index_mut-own.result.now c.requires.whole c.requires.place c.index_mut-own.ensures.value c.step-result.new.stores c.step-result.new.self after.tenant after.others_unchanged
    c.set.new.self c.ready-ready.result after.section after.invariant after.swept c.ready-ready.ensures c.set.ensures.ready c.set.ensures.members

pub let_go-requires-clause-within : goal.let_go-requires-clause-within
let_go-requires-clause-within c = omega (arith, length-set c.args.members.now.items c.args.place c.step-result.new.self, c.requires.within)

pub let_go-requires-clause-place : goal.let_go-requires-clause-place
let_go-requires-clause-place c =
    stands c.args.tenant c.args.stores.now c.args.agenda.now c.args.members.now.items c.args.gone.now.items (vec_capacity c.args.gone.now) c.args.place c.index_mut-own.result.now c.requires.whole c.requires.place c.index_mut-own.ensures.value c.step-result.new.stores c.step-result.new.self c.step-result.ensures.tenant c.step-result.ensures.others_unchanged

pub let_go-requires-clause-may_leave : goal.let_go-requires-clause-may_leave
let_go-requires-clause-may_leave c = λ d.
    let left = ends_is (own_step_of c.args.step.now) c.in_ok-told.told (sym c.ends.ensures ∙ c.if-not-ends.false) in
    subst HasNonePending (sym (get_set c.args.members.now.items c.args.place c.step-result.new.self d c.requires.within)) (c.in_ok-told.ensures.may_leave left.0 left.1 left.2 left.3)

pub returns-clause-on_success : goal.returns-clause-on_success
returns-clause-on_success c =
    let own = c.index_mut-own.result.now in
    let own' = c.step-result.new.self in
    let after = c.step-result.ensures in
    let told = c.in_ok-told.told in
    let step = own_step_of c.args.step.now in
    let test : ends step told ≡ true = sym c.ends.ensures ∙ c.if-not-ends.false in
    let changed = change c.args.tenant c.args.stores.now c.args.agenda.now c.args.members.now.items c.args.gone.now.items (vec_capacity c.args.gone.now) c.args.place own c.requires.whole c.requires.place c.index_mut-own.ensures.value c.step-result.new.stores own' after.tenant after.others_unchanged after.section in
    rw c.named-2.ensures (leaves_told c.args.tenant step _ _ _ told (state_in own c.args.stores.now) (state_in own' c.step-result.new.stores) test changed c.in_ok-told.ensures.on_success c.in_ok-told.ensures.from_state c.let_go.ensures.left)
