use Rattle.std.proofs.Common.{◌≡◌, ap, inl, refl, Some}
use Rattle.tail_settings.specs.Section.{section_view}
use Rattle.tenant_pipeline.specs.OwnStep.{own_step_of}
use Rattle.tenant_shard.specs.Members.{all_views}
use Rattle.tenant_shard.specs.Outcomes.{Comes, asked_by, asked_in, named_in}
use Rattle.tenant_shard.specs.Run.{ShardSteps}
use Rattle.tenant_shard.specs.Follows.{ShardFollows}
use Rattle.tenant_shard.specs.Steps.{IsComingOf, IsStepOf}
use Rattle.tenant_shard.proofs.Addressees.{for_pipeline, nobodys_steps, member_steps, member_takes, not_nobodys}
use Rattle.tenant_shard.proofs.Gones.{counted_all, within_all}
use Rattle.tenant_shard.proofs.Places.{if_ok, on_error}
use Rattle.tenant_shard.proofs.Runs.{coming_steps, coming_goes_on, newcomer_refused, comes_again, own_goes_on, loss_refuses}
use Rattle.tenant_shard.proofs.shard.Shard.step.Goals as goal

-- a tenant that comes
pub returns-in-Add-clause-on_success : goal.returns-in-Add-clause-on_success
returns-in-Add-clause-on_success c =
    let t = c.in-Add.tenant in
    let s = c.args.step.now in
    let section = section_view c.in-Add.section in
    let old = all_views c.self.inside.stores c.self.inside.members.items c.self.inside.gone.items in
    let new = all_views c.self.inside.stores c.add.new.members.items c.add.new.gone.items in
    let names : named_in s ≡ Some t = ap named_in c.in-Add.is in
    let comes : asked_in s ≡ Comes section = ap asked_in c.in-Add.is in
    rw (← c.self.view_is) (if_ok c.add.result (λ o. IsComingOf t section old o new) (λ o. ShardSteps s old o new) (λ o is. coming_steps t s section old o new names comes is) c.add.ensures.on_success)

pub returns-in-Add-clause-from_state : goal.returns-in-Add-clause-from_state
returns-in-Add-clause-from_state c =
    let t = c.in-Add.tenant in
    let s = c.args.step.now in
    let section = section_view c.in-Add.section in
    let old = all_views c.self.inside.stores c.self.inside.members.items c.self.inside.gone.items in
    let new = all_views c.self.inside.stores c.add.new.members.items c.add.new.gone.items in
    let names : named_in s ≡ Some t = ap named_in c.in-Add.is in
    let comes : asked_in s ≡ Comes section = ap asked_in c.in-Add.is in
    rw (← c.self.view_is) (if_ok c.add.result (λ o. IsComingOf t section old o new) (λ o. ShardFollows s old o new) (λ o is. coming_goes_on t s section old o new names comes is) c.add.ensures.on_success)

pub returns-in-Add-clause-on_refusal : goal.returns-in-Add-clause-on_refusal
returns-in-Add-clause-on_refusal c =
    let t = c.in-Add.tenant in
    let s = c.args.step.now in
    let section = section_view c.in-Add.section in
    let old = all_views c.self.inside.stores c.self.inside.members.items c.self.inside.gone.items in
    let new = all_views c.self.inside.stores c.add.new.members.items c.add.new.gone.items in
    let names : named_in s ≡ Some t = ap named_in c.in-Add.is in
    let comes : asked_in s ≡ Comes section = ap asked_in c.in-Add.is in
    rw (← c.self.view_is) (on_error c.add.result (λ lost. newcomer_refused t s section old new names comes lost.0 lost.1) c.add.ensures.on_refusal)

pub returns-in-Add-clause-on_no_member : goal.returns-in-Add-clause-on_no_member
returns-in-Add-clause-on_no_member c =
    let t = c.in-Add.tenant in
    let s = c.args.step.now in
    let section = section_view c.in-Add.section in
    let old = all_views c.self.inside.stores c.self.inside.members.items c.self.inside.gone.items in
    let new = all_views c.self.inside.stores c.add.new.members.items c.add.new.gone.items in
    let names : named_in s ≡ Some t = ap named_in c.in-Add.is in
    let comes : asked_in s ≡ Comes section = ap asked_in c.in-Add.is in
    rw (← c.self.view_is) (λ nobody. comes_again t s section old new c.add.result names comes nobody c.add.ensures.on_success c.add.ensures.on_refusal)

pub returns-in-Add-clause-takes_none : goal.returns-in-Add-clause-takes_none
returns-in-Add-clause-takes_none c = λ takes. let no : ⊥ = rw c.in-Add.is at takes in absurd no

pub returns-in-Add-clause-counted : goal.returns-in-Add-clause-counted
returns-in-Add-clause-counted c = counted_all c.self.inside.stores c.add.new.agenda c.add.new.members.items c.add.new.gone.items c.add.ensures.whole.whole

pub returns-in-Add-clause-within : goal.returns-in-Add-clause-within
returns-in-Add-clause-within c = within_all c.self.inside.stores c.add.new.agenda c.add.new.members.items c.add.new.gone.items c.add.ensures.whole.whole

pub own_step-own-requires : goal.own_step-own-requires
own_step-own-requires c = record { piped = for_pipeline c.args.step.now c.in_default.not-Add }

-- a member's step
pub step_at-requires-clause-within : goal.step_at-requires-clause-within
step_at-requires-clause-within c =
    let reached = rw (c.deref.ensures.value, c.in-Member.is) at c.addressee_of.ensures in
    reached.0

pub step_at-requires-clause-place : goal.step_at-requires-clause-place
step_at-requires-clause-place c =
    let reached = rw (c.deref.ensures.value, c.in-Member.is) at c.addressee_of.ensures in
    reached.1

pub step_at-requires-clause-taken : goal.step_at-requires-clause-taken
step_at-requires-clause-taken c =
    let reached = rw (c.deref.ensures.value, c.in-Member.is) at c.addressee_of.ensures in
    (reached.2 c.self.inside.stores c.self.inside.gone.items c.self.invariant.whole).reaches

pub returns-in-Member-clause-on_success : goal.returns-in-Member-clause-on_success
returns-in-Member-clause-on_success c =
    let t = c.in-Member.tenant in
    let s = c.args.step.now in
    let own = c.own_step-own.result in
    let old = all_views c.self.inside.stores c.self.inside.members.items c.self.inside.gone.items in
    let new = all_views c.step_at.new.stores c.step_at.new.members.items c.step_at.new.gone.items in
    let reached = rw (c.deref.ensures.value, c.in-Member.is) at c.addressee_of.ensures in
    let is = reached.2 c.self.inside.stores c.self.inside.gone.items c.self.invariant.whole in
    rw (← c.self.view_is) (if_ok c.step_at.result (λ o. IsStepOf t (own_step_of own) old o new) (λ o. ShardSteps s old o new) (λ o steps. member_steps t s (asked_by own) old new o c.own_step-own.ensures is steps) c.step_at.ensures.on_success)

pub returns-in-Member-clause-from_state : goal.returns-in-Member-clause-from_state
returns-in-Member-clause-from_state c =
    let t = c.in-Member.tenant in
    let s = c.args.step.now in
    let own = c.own_step-own.result in
    let old = all_views c.self.inside.stores c.self.inside.members.items c.self.inside.gone.items in
    let new = all_views c.step_at.new.stores c.step_at.new.members.items c.step_at.new.gone.items in
    let reached = rw (c.deref.ensures.value, c.in-Member.is) at c.addressee_of.ensures in
    let is = reached.2 c.self.inside.stores c.self.inside.gone.items c.self.invariant.whole in
    rw (← c.self.view_is) (if_ok c.step_at.result (λ o. IsStepOf t (own_step_of own) old o new) (λ o. ShardFollows s old o new) (λ o steps. own_goes_on t s (asked_by own) old new o c.own_step-own.ensures is.whose steps) c.step_at.ensures.on_success)

pub returns-in-Member-clause-on_refusal : goal.returns-in-Member-clause-on_refusal
returns-in-Member-clause-on_refusal c =
    let t = c.in-Member.tenant in
    let s = c.args.step.now in
    let own = c.own_step-own.result in
    let old = all_views c.self.inside.stores c.self.inside.members.items c.self.inside.gone.items in
    let new = all_views c.step_at.new.stores c.step_at.new.members.items c.step_at.new.gone.items in
    let reached = rw (c.deref.ensures.value, c.in-Member.is) at c.addressee_of.ensures in
    let is = reached.2 c.self.inside.stores c.self.inside.gone.items c.self.invariant.whole in
    rw (← c.self.view_is) (on_error c.step_at.result (λ lost. loss_refuses t s (asked_by own) old new c.own_step-own.ensures is.whose lost) c.step_at.ensures.on_refusal)

pub returns-in-Member-clause-on_no_member : goal.returns-in-Member-clause-on_no_member
returns-in-Member-clause-on_no_member c =
    let t = c.in-Member.tenant in
    let s = c.args.step.now in
    let own = c.own_step-own.result in
    let old = all_views c.self.inside.stores c.self.inside.members.items c.self.inside.gone.items in
    let reached = rw (c.deref.ensures.value, c.in-Member.is) at c.addressee_of.ensures in
    let is = reached.2 c.self.inside.stores c.self.inside.gone.items c.self.invariant.whole in
    rw (← c.self.view_is) (λ nobody. absurd (not_nobodys t s (asked_by own) old c.own_step-own.ensures is nobody))

pub returns-in-Member-clause-takes_none : goal.returns-in-Member-clause-takes_none
returns-in-Member-clause-takes_none c =
    let t = c.in-Member.tenant in
    let s = c.args.step.now in
    let own = c.own_step-own.result in
    let old = all_views c.self.inside.stores c.self.inside.members.items c.self.inside.gone.items in
    let reached = rw (c.deref.ensures.value, c.in-Member.is) at c.addressee_of.ensures in
    let is = reached.2 c.self.inside.stores c.self.inside.gone.items c.self.invariant.whole in
    rw (← c.self.view_is) (λ takes. c.step_at.ensures.takes_none (member_takes t s (asked_by own) old c.own_step-own.ensures is.whose takes))

pub returns-in-Member-clause-counted : goal.returns-in-Member-clause-counted
returns-in-Member-clause-counted c = counted_all c.step_at.new.stores c.step_at.new.agenda c.step_at.new.members.items c.step_at.new.gone.items c.step_at.ensures.whole.whole

pub returns-in-Member-clause-within : goal.returns-in-Member-clause-within
returns-in-Member-clause-within c = within_all c.step_at.new.stores c.step_at.new.agenda c.step_at.new.members.items c.step_at.new.gone.items c.step_at.ensures.whole.whole

-- nobody's
pub returns-in-Nobody-clause-on_success : goal.returns-in-Nobody-clause-on_success
returns-in-Nobody-clause-on_success c =
    let s = c.args.step.now in
    let old = all_views c.self.inside.stores c.self.inside.members.items c.self.inside.gone.items in
    let follows = (rw (c.deref.ensures.value, c.in-Nobody.is) at c.addressee_of.ensures) c.self.inside.stores c.self.inside.gone.items c.self.invariant.whole in
    rw (← c.self.view_is) (nobodys_steps s old c.in-Nobody.told old follows)

pub returns-in-Nobody-clause-from_state : goal.returns-in-Nobody-clause-from_state
returns-in-Nobody-clause-from_state c =
    let follows = (rw (c.deref.ensures.value, c.in-Nobody.is) at c.addressee_of.ensures) c.self.inside.stores c.self.inside.gone.items c.self.invariant.whole in
    rw (← c.self.view_is) (inl follows)

pub returns-in-Nobody-clause-on_no_member : goal.returns-in-Nobody-clause-on_no_member
returns-in-Nobody-clause-on_no_member c = λ nobody. (refl, refl)

pub returns-in-Nobody-clause-takes_none : goal.returns-in-Nobody-clause-takes_none
returns-in-Nobody-clause-takes_none c = λ takes. refl

pub returns-in-Nobody-clause-counted : goal.returns-in-Nobody-clause-counted
returns-in-Nobody-clause-counted c = rw (← c.self.view_is) (counted_all c.self.inside.stores c.self.inside.agenda c.self.inside.members.items c.self.inside.gone.items c.self.invariant.whole)

pub returns-in-Nobody-clause-within : goal.returns-in-Nobody-clause-within
returns-in-Nobody-clause-within c = rw (← c.self.view_is) (within_all c.self.inside.stores c.self.inside.agenda c.self.inside.members.items c.self.inside.gone.items c.self.invariant.whole)
