use Rattle.std.proofs.Common.{◌≡◌, ◌∙◌, subst, true, false, Some, None}
use Rattle.tail_settings.specs.Section.{section_view}
use Rattle.tenant_pipeline.specs.StateIn.{state_in}
use Rattle.tenant_shard.specs.Addressee.{IsWhose}
use Rattle.tenant_shard.specs.Members.{views, all_views}
use Rattle.tenant_shard.specs.Outcomes.{asked_by, is_taken}
use Rattle.tenant_shard.specs.View.{kept_of}
use Rattle.tenant_shard.proofs.Addressees.{idle_follows, stranger_follows, other_follows, member_reached}
use Rattle.tenant_shard.proofs.Frame.{kept_gap, kept_place}
use Rattle.tenant_shard.proofs.Gones.{kept_behind, ready_all}
use Rattle.tenant_shard.proofs.Piped.{takes_is}
use Rattle.tenant_shard.proofs.addressee.addressee_of.Goals as goal

pub returns-in_default : goal.returns-in_default
returns-in_default c = λ stores gone whole.
    let ms = c.args.members.now in
    let es = c.args.agenda.now in
    let s = c.args.step.now in
    idle_follows s (asked_by c.args.own.now) es (all_views stores ms gone) c.requires.asked (ready_all stores es ms gone whole) (subst (λ w. IsWhose s es w) c.in_default.is c.whose.ensures)

pub returns-in_default-place_of : goal.returns-in_default-place_of
returns-in_default-place_of c = λ stores gone whole.
    let ms = c.args.members.now in
    let es = c.args.agenda.now in
    let s = c.args.step.now in
    let t = c.in-Some.tenant in
    let gap = c.in_default-place_of.ensures.absent in
    let none : kept_of t (all_views stores ms gone) ≡ None = kept_behind t (views stores ms) gone ∙ kept_gap t stores ms c.in_default-place_of.field-0 c.requires.order gap.1 in
    stranger_follows s (asked_by c.args.own.now) es (all_views stores ms gone) c.requires.asked (ready_all stores es ms gone whole) t (subst (λ w. IsWhose s es w) c.in-Some.is c.whose.ensures) none

pub returns-then-not-takes : goal.returns-then-not-takes
returns-then-not-takes c = λ stores gone whole.
    let ms = c.args.members.now in
    let es = c.args.agenda.now in
    let s = c.args.step.now in
    let t = c.in-Some.tenant in
    let own = c.index-members-place.result in
    let kept : kept_of t (all_views stores ms gone) ≡ Some (state_in own stores) = kept_behind t (views stores ms) gone ∙ kept_place t stores ms c.in-Ok.place own c.in-Ok.ensures.found.1 c.index-members-place.is in
    let other : is_taken (state_in own stores).section (asked_by c.args.own.now) ≡ false = takes_is c.args.own.now (section_view own.section) c.takes.result c.takes.ensures ∙ c.if-not-takes.true in
    other_follows s (asked_by c.args.own.now) es (all_views stores ms gone) c.requires.asked (ready_all stores es ms gone whole) t (state_in own stores) (subst (λ w. IsWhose s es w) c.in-Some.is c.whose.ensures) kept other

pub returns : goal.returns
returns c =
    let ms = c.args.members.now in
    let es = c.args.agenda.now in
    let s = c.args.step.now in
    let t = c.in-Some.tenant in
    let own = c.index-members-place.result in
    let place = c.in-Ok.ensures.found in (
      place.0,
      place.1,
      λ stores gone whole.
          let kept : kept_of t (all_views stores ms gone) ≡ Some (state_in own stores) = kept_behind t (views stores ms) gone ∙ kept_place t stores ms c.in-Ok.place own place.1 c.index-members-place.is in
          let taken : is_taken (state_in own stores).section (asked_by c.args.own.now) ≡ true = takes_is c.args.own.now (section_view own.section) c.takes.result c.takes.ensures ∙ c.if-not-takes.false in
          member_reached s (asked_by c.args.own.now) es (all_views stores ms gone) c.requires.asked (ready_all stores es ms gone whole) t (state_in own stores) (subst (λ w. IsWhose s es w) c.in-Some.is c.whose.ensures) kept taken,
    )
