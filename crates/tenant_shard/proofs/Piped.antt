-- A step that its pipeline takes, and what it tells.
use Rattle.std.proofs.Common.{◌≡◌, ℕ, List, Some, refl, sym, ap, ◌∙◌, Bool, true, false}
use Rattle.std.specs.Prelude.{Decides}
use Rattle.tail_settings.specs.Section.{SectionData}
use Rattle.prepared_body.specs.Equal.{same_policies}
use Rattle.prepared_body.proofs.Equals.{same_policies_decides}
use Rattle.tenant_rules.specs.declared.reply.StepReply.{StepReply}
use Rattle.tenant_rules.specs.declared.reply.StepReply.TheVariants as replies
use Rattle.tenant_rules.specs.Own.{Own, Retire}
use Rattle.tenant_rules.specs.State.{State}
use Rattle.tenant_pipeline.specs.declared.step.OwnStep.{OwnStep as PipelineStep}
use Rattle.tenant_pipeline.specs.declared.step.OwnStep.TheVariants.{Post}
use Rattle.tenant_pipeline.specs.OwnStep.{IsMadeFor}
use Rattle.tenant_pipeline.specs.Steps.{Answers, FollowsFromState}
use Rattle.tenant_shard.specs.View.{View}
use Rattle.tenant_shard.specs.Outcomes.{Answered, named, asked_by, is_taken, reports, has_left}
use Rattle.tenant_shard.specs.Steps.{ends, IsChangeOf, IsStepOf, IsDepartureOf}
use Rattle.tenant_shard.proofs.Wholes.{reports-named}

-- a body that comes is taken where it was made ready for the tenant's policies
pub taken_made : (step : PipelineStep) (section : SectionData) → is_taken section (asked_by step) ≡ true → IsMadeFor section.tail_sampling.policies step
taken_made (Post now prepared) section taken = (same_policies_decides prepared.now.policies section.tail_sampling.policies).0 taken
taken_made step section taken = tt

-- two tests of one fact agree
one_test : {P : Type 0} (a b : Bool) → Decides a P → Decides b P → a ≡ b
one_test true true d e = refl
one_test false false d e = refl
one_test true false d e = sym (e.1 (d.0 refl))
one_test false true d e = d.1 (e.0 refl)

pub takes_is : (step : PipelineStep) (section : SectionData) (takes : Bool) → Decides takes (IsMadeFor section.tail_sampling.policies step) → is_taken section (asked_by step) ≡ takes
takes_is (Post now prepared) section takes made =
    let theirs = prepared.now.policies in
    let mine = section.tail_sampling.policies in
    one_test (same_policies theirs mine) takes (same_policies_decides theirs mine) made
takes_is step section takes made = sym (made.1 tt)

-- a member goes that retires and is told its last report
pub ends_is : (step : Own) (told : StepReply) → ends step told ≡ true → (now : ℕ) × (text : List ℕ) × (step ≡ Retire now) × (told ≡ replies.Report text)
ends_is (Retire now) (replies.Report text) is = (now, text, refl, refl)
ends_is step told is = absurd (cc)

-- whether a member goes that is told this
left_is : (t : ℕ) (step : Own) (told : StepReply) (b : Bool) → ends step told ≡ b → has_left step (reports (named t (Answered told))) ≡ b
left_is t step told b is = ap (has_left step) (reports-named t (Answered told)) ∙ is

-- the member stays
pub stays_told : (t : ℕ) (step : Own) (old new : List View) (told : StepReply) (before after : State) → ends step told ≡ false → IsChangeOf t before after (Some after) old new → Answers step before told after → FollowsFromState step before told after → IsStepOf t step old (named t (Answered told)) new
stays_told t step old new told before after is change answers follows = record {
  before = before;
  after = after;
  change = record {
    was = change.was;
    is_now = rw (left_is t step told false is) change.is_now;
    section = change.section;
    was_now = change.was_now;
    others = change.others;
  };
  said = told;
  answers = answers;
  from_state = follows;
  outcome_is = refl;
}

-- the member goes
pub leaves_told : (t : ℕ) (step : Own) (old middle new : List View) (told : StepReply) (before after : State) → ends step told ≡ true → IsChangeOf t before after (Some after) old middle → Answers step before told after → FollowsFromState step before told after → IsDepartureOf t middle new → IsStepOf t step old (named t (Answered told)) new
leaves_told t step old middle new told before after is change answers follows left = record {
  before = before;
  after = after;
  change = record {
    was = change.was;
    is_now = rw (left_is t step told true is) left.is_now;
    section = change.section;
    was_now = left.was_now;
    others = λ other ne.
        let first = change.others other ne in
        let then = left.others other ne in
        (then.0 ∙ first.0, then.1 ∙ first.1);
  };
  said = told;
  answers = answers;
  from_state = follows;
  outcome_is = refl;
}
