-- Whose a step is, from the agenda and the members to what is kept, and what a step is that is so.
use Rattle.std.proofs.Common.{◌≡◌, ℕ, List, refl, sym, subst, ap, ◌∙◌, true, false, Option, Some, None}
use Rattle.std.specs.Prelude.{min}
use Rattle.tail_settings.specs.declared.section.Section.{Section}
use Rattle.tail_settings.specs.Section.{SectionData}
use Rattle.tenant_rules.specs.Own.{latest_moment, moment_of}
use Rattle.tenant_rules.specs.Own as own
use Rattle.tenant_rules.specs.State.{State}
use Rattle.shard_agenda.specs.declared.AgendaEntry.{AgendaEntry}
use Rattle.shard_agenda.specs.Agenda.{ready_of}
use Rattle.shard_agenda.specs.Pick.{IsPick}
use Rattle.tenant_shard.specs.declared.step.Step.{Step}
use Rattle.tenant_shard.specs.declared.step.Step.TheVariants as steps
use Rattle.tenant_shard.specs.declared.step.Outcome.{Outcome}
use Rattle.tenant_shard.specs.declared.step.Outcome.TheVariants.{Idle, Refused}
use Rattle.tenant_shard.specs.View.{View, kept_of}
use Rattle.tenant_shard.specs.Outcomes.{OwnStep, plain, Asked, Piped, Comes, asked_in, named_in, is_taken, not_member, other_policies}
use Rattle.tenant_shard.specs.Pick.{ready_in}
use Rattle.tenant_shard.specs.Refusal.{Reaches, ReachesNone, IsFor, IsForNone, IsAskedFor, IsAskedOfNone, IsStepFor, IsNobodys, TakesNoneOf, AskedTakesNone, MemberTakesNone}
use Rattle.tenant_shard.specs.Run.{ShardSteps}
use Rattle.tenant_shard.specs.Follows.{told_of_none, NoMemberFollows}
use Rattle.tenant_shard.specs.Steps.{IsForPipeline, IsStepOf}
use Rattle.tenant_shard.specs.Addressee.{IsWhoseBy, IsWhose, IsReached}
use Rattle.tenant_shard.proofs.Runs.{IsPick-same, reaches_at, named_steps, turn_steps, idle_steps, stranger_steps, other_steps, used_steps, pick_is_kept, not_both}

some_same : (one other : ℕ) → Some one ≡ Some other → one ≡ other
some_same one other same = cc

piped_same : (one other : OwnStep) → Piped one ≡ Piped other → one ≡ other
piped_same one other same = cc

-- by whose moment the agenda is asked
pub picked_by : (ready : ℕ → Option ℕ) (now moment : ℕ) (found : Option ℕ) → moment ≡ min now latest_moment → IsPick ready moment found → IsPick ready (moment_of (own.Turn now)) found
picked_by ready now moment found by pick = rw by at pick

-- who doesn't come asks for a pipeline
pub for_pipeline : (s : Step) → ((tenant : ℕ) (section : Section) → s ≡ steps.Add tenant section → ⊥) → IsForPipeline (asked_in s)
for_pipeline (steps.Post now prepared) none = tt
for_pipeline (steps.Turn now) none = tt
for_pipeline (steps.Answer tenant now ticket word answer) none = tt
for_pipeline (steps.Report tenant now) none = tt
for_pipeline (steps.Drain tenant now) none = tt
for_pipeline (steps.Add tenant section) none = absurd (none tenant section refl)
for_pipeline (steps.Retire tenant now) none = tt

-- a step that names nobody is taken by each tenant
turn_taken : (s : Step) (asked : OwnStep) (section : SectionData) → named_in s ≡ None → asked_in s ≡ Piped asked → is_taken section asked ≡ true
turn_taken (steps.Post now prepared) asked section name asks = absurd (cc)
turn_taken (steps.Turn now) asked section name asks = ap (is_taken section) (sym (piped_same (plain (own.Turn now)) asked asks))
turn_taken (steps.Answer tenant now ticket word answer) asked section name asks = absurd (cc)
turn_taken (steps.Report tenant now) asked section name asks = absurd (cc)
turn_taken (steps.Drain tenant now) asked section name asks = absurd (cc)
turn_taken (steps.Add tenant section') asked section name asks = absurd (cc)
turn_taken (steps.Retire tenant now) asked section name asks = absurd (cc)

-- ---- whose a step is, by what is kept

module _ (s : Step) (asked : OwnStep) (es : List AgendaEntry) (vs : List View) (asks : asked_in s ≡ Piped asked) (ready : (u : ℕ) → ready_of es u ≡ ready_in vs u) where
  -- a turn that goes to nobody
  pub idle_follows : IsWhose s es None → NoMemberFollows s vs Idle vs
  idle_follows is = by (named_in s) refl (subst (λ a. IsWhoseBy (named_in s) a es None) asks is)
    where
      by : (whom : Option ℕ) → named_in s ≡ whom → IsWhoseBy whom (Piped asked) es None → NoMemberFollows s vs Idle vs
      by (Some u) name none = absurd (cc)
      by None name pick = record {
        whose = rw (name, asks) (IsPick-same (ready_of es) (ready_in vs) (moment_of asked.step) None (λ u. sym (ready u)) pick);
        outcome_is = rw name refl;
        new_is = refl;
      }

  -- a tenant that is no member
  pub stranger_follows : (t : ℕ) → IsWhose s es (Some t) → kept_of t vs ≡ None → NoMemberFollows s vs (Refused t not_member) vs
  stranger_follows t is none = by (named_in s) refl (subst (λ a. IsWhoseBy (named_in s) a es (Some t)) asks is)
    where
      by : (whom : Option ℕ) → named_in s ≡ whom → IsWhoseBy whom (Piped asked) es (Some t) → NoMemberFollows s vs (Refused t not_member) vs
      by (Some u) name same =
          let named : named_in s ≡ Some t = name ∙ sym same in
          record { whose = rw (named, asks) (rw none tt); outcome_is = rw (named, asks) (rw none refl); new_is = refl }
      by None name pick = absurd (pick_is_kept vs t pick.0 (sym (ready t) ∙ pick.1) none)

  -- a member with other policies
  pub other_follows : (t : ℕ) (before : State) → IsWhose s es (Some t) → kept_of t vs ≡ Some before → is_taken before.section asked ≡ false → NoMemberFollows s vs (Refused t other_policies) vs
  other_follows t before is kept other = by (named_in s) refl (subst (λ a. IsWhoseBy (named_in s) a es (Some t)) asks is)
    where
      by : (whom : Option ℕ) → named_in s ≡ whom → IsWhoseBy whom (Piped asked) es (Some t) → NoMemberFollows s vs (Refused t other_policies) vs
      by (Some u) name same =
          let named : named_in s ≡ Some t = name ∙ sym same in
          record { whose = rw (named, asks) (rw kept other); outcome_is = rw (named, asks) (rw kept refl); new_is = refl }
      by None name pick = absurd (let taken : is_taken before.section asked ≡ true = turn_taken s asked before.section name asks in cc)

  -- a member that takes it
  pub member_reached : (t : ℕ) (before : State) → IsWhose s es (Some t) → kept_of t vs ≡ Some before → is_taken before.section asked ≡ true → IsReached t s asked vs
  member_reached t before is kept taken = record { whose = by (named_in s) refl (subst (λ a. IsWhoseBy (named_in s) a es (Some t)) asks is); reaches = reaches }
    where
      reaches : Reaches asked (kept_of t vs)
      reaches = reaches_at asked (kept_of t vs) before kept taken

      by : (whom : Option ℕ) → named_in s ≡ whom → IsWhoseBy whom (Piped asked) es (Some t) → IsStepFor t s vs
      by (Some u) name same = let named : named_in s ≡ Some t = name ∙ sym same in rw (named, asks) (refl, reaches)
      by None name pick = rw (name, asks) (IsPick-same (ready_of es) (ready_in vs) (moment_of asked.step) (Some t) (λ u. sym (ready u)) pick)

-- ---- what such a step is, for all lives that the shard stands for

-- one that names a tenant and reaches no pipeline
none_steps : (t : ℕ) (s : Step) (step : OwnStep) (old : List View) (kept : Option State) → named_in s ≡ Some t → asked_in s ≡ Piped step → kept_of t old ≡ kept → ReachesNone step kept → ShardSteps s old (told_of_none (Some t) (Piped step) old) old
none_steps t s step old None name asks is none = rw is (stranger_steps t s step old name asks is)
none_steps t s step old (Some before) name asks is none = rw is (other_steps t s step old before name asks is none)

-- one that reaches no pipeline
pub nobodys_steps : (s : Step) (old : List View) (o : Outcome) (new : List View) → NoMemberFollows s old o new → ShardSteps s old o new
nobodys_steps s old o new n = rw (n.outcome_is, n.new_is) (by (named_in s) (asked_in s) refl refl n.whose)
  where
    by : (whom : Option ℕ) (asked : Asked) → named_in s ≡ whom → asked_in s ≡ asked → IsAskedOfNone whom asked old → ShardSteps s old (told_of_none whom asked old) old
    by (Some t) (Piped step) name asks none = none_steps t s step old (kept_of t old) name asks refl none
    by (Some t) (Comes section) name asks again = used_steps t s section old name asks again
    by None (Piped step) name asks pick = idle_steps s step old name asks pick
    by None (Comes section) name asks again = absurd again

-- one that reaches a member's
pub member_steps : (t : ℕ) (s : Step) (asked : OwnStep) (old new : List View) (o : Outcome) → asked_in s ≡ Piped asked → IsReached t s asked old → IsStepOf t asked.step old o new → ShardSteps s old o new
member_steps t s asked old new o asks is steps = by (named_in s) refl (subst (λ a. IsAskedFor (named_in s) t a old) asks is.whose)
  where
    by : (whom : Option ℕ) → named_in s ≡ whom → IsFor whom t asked old → ShardSteps s old o new
    by (Some u) name whose = named_steps t s asked old new o (name ∙ ap Some whose.0) asks is.reaches steps
    by None name pick = turn_steps t s asked old new o name asks is.reaches pick steps

-- it is not both
pub not_nobodys : (t : ℕ) (s : Step) (asked : OwnStep) (old : List View) → asked_in s ≡ Piped asked → IsReached t s asked old → IsNobodys s old → ⊥
not_nobodys t s asked old asks is nobody = by (named_in s) (subst (λ a. IsAskedFor (named_in s) t a old) asks is.whose) (subst (λ a. IsAskedOfNone (named_in s) a old) asks nobody)
  where
    by_kept : (kept : Option State) → Reaches asked kept → ReachesNone asked kept → ⊥
    by_kept None some none = some
    by_kept (Some kept) some none = absurd (cc)

    by : (whom : Option ℕ) → IsFor whom t asked old → IsForNone whom asked old → ⊥
    by (Some u) whose none = by_kept (kept_of t old) is.reaches (subst (λ x. ReachesNone asked (kept_of x old)) whose.0 none)
    by None pick none = not_both (ready_in old) (moment_of asked.step) t pick none

-- where it takes no memory, that is by what is kept of the member whose it is
pub member_takes : (t : ℕ) (s : Step) (asked : OwnStep) (old : List View) → asked_in s ≡ Piped asked → IsStepFor t s old → MemberTakesNone s old → TakesNoneOf asked (kept_of t old)
member_takes t s asked old asks whose takes = by (named_in s) (subst (λ a. IsAskedFor (named_in s) t a old) asks whose) (subst (λ a. AskedTakesNone (named_in s) a old) asks takes)
  where
    by : (whom : Option ℕ) → IsFor whom t asked old → AskedTakesNone whom (Piped asked) old → TakesNoneOf asked (kept_of t old)
    by (Some u) whose none = subst (λ x. TakesNoneOf asked (kept_of x old)) whose.0 none
    by None pick none = absurd none
