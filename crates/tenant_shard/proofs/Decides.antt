-- What is kept before a run decides what it tells and what it leaves.
use Rattle.std.proofs.Common.{◌≡◌, ℕ, List, [], ◌∷◌, refl, sym, subst, ap, ◌∙◌, arith, true, false, Option, Some, None, inl, inr}
use Rattle.std.proofs.lemmas.Bool.{cases_eq}
use Rattle.std.specs.Prelude.{option_and_then}
use Rattle.std.specs.Option.{unwrap_or}
use Rattle.tenant_rules.specs.Own.{moment_of}
use Rattle.tail_settings.specs.Section.{SectionData}
use Rattle.tenant_rules.specs.State.{State, state}
use Rattle.tenant_rules.specs.Machine.{next, told}
use Rattle.tenant_rules.specs.Ready.{ready}
use Rattle.tenant_shard.specs.declared.step.Step.{Step}
use Rattle.tenant_shard.specs.declared.step.Outcome.{Outcome}
use Rattle.tenant_shard.specs.declared.step.Outcome.TheVariants.{Done, Refused}
use Rattle.tenant_shard.specs.View.{View, kept_of, was_of, StaysOf}
use Rattle.tenant_shard.specs.Outcomes.{OwnStep, Asked, Piped, Comes, asked_in, named_in, Answered, named}
use Rattle.tenant_shard.specs.Pick.{ready_in}
use Rattle.shard_agenda.specs.Pick.{NotAfter, IsPick}
use Rattle.tenant_shard.specs.Refusal.{Reaches, ReachesNone, IsFor, IsAskedFor, IsStepFor, IsForNone, IsAskedOfNone, IsNobodys}
use Rattle.tenant_shard.specs.Follows.{refusal_of, told_of_none, told_of_nobodys, MemberFollows, AddFollows, ShardFollows}
use Rattle.tenant_shard.specs.Steps.{kept_after}
use Rattle.tenant_shard.specs.Chain.{KeepSame, KeptDecides}
use Rattle.tenant_shard.proofs.Runs.{IsPick-same, not_both}

-- one tenant alone is picked
one_of_both : (m t n u : ℕ) → NotAfter m t n u → NotAfter n u m t → u ≡ t
one_of_both m t n u (inl p) (inl q) = absurd (omega (arith, p, q))
one_of_both m t n u (inl p) (inr q) = absurd (omega (arith, p, q.0))
one_of_both m t n u (inr p) (inl q) = absurd (omega (arith, p.0, q))
one_of_both m t n u (inr p) (inr q) = omega (arith, p.1, q.1)

one_pick : (f : ℕ → Option ℕ) (now t u : ℕ) → IsPick f now (Some t) → IsPick f now (Some u) → u ≡ t
one_pick f now t u p q = one_of_both p.0 t q.0 u (p.3 u q.0 q.1) (q.3 t p.0 p.1)

-- picks are alike where the same is kept
pick_too : (old old' : List View) (now : ℕ) (picked : Option ℕ) → KeepSame old old' → IsPick (ready_in old') now picked → IsPick (ready_in old) now picked
pick_too old old' now picked same pick = IsPick-same (ready_in old') (ready_in old) now picked (λ u. ap (option_and_then ready) (sym (same u).0)) pick

-- a step doesn't both reach a pipeline and reach none
not_reached : (step : OwnStep) (kept : Option State) → ReachesNone step kept → Reaches step kept → ⊥
not_reached step None none some = some
not_reached step (Some kept) none some = absurd (let both : false ≡ true = sym none ∙ some in cc)

none_alone : (whom : Option ℕ) (step : OwnStep) (old old' : List View) (t : ℕ) → KeepSame old old' → IsForNone whom step old → IsFor whom t step old' → ⊥
none_alone (Some u) step old old' t same none some = not_reached step (kept_of u old) none (subst (Reaches step) (same u).0 (subst (λ (v : ℕ). Reaches step (kept_of v old')) (sym some.0) some.1))
none_alone None step old old' t same none some =
    not_both (ready_in old) (moment_of step.step) t (pick_too old old' (moment_of step.step) (Some t) same some) none

asked_alone : (whom : Option ℕ) (asked : Asked) (old old' : List View) (t : ℕ) → KeepSame old old' → IsAskedOfNone whom asked old → IsAskedFor whom t asked old' → ⊥
asked_alone whom (Piped step) old old' t same none some = none_alone whom step old old' t same none some
asked_alone whom (Comes section) old old' t same none some = some

nobodys_alone : (step : Step) (old old' : List View) (t : ℕ) → KeepSame old old' → IsNobodys step old → IsStepFor t step old' → ⊥
nobodys_alone step old old' t same none some = asked_alone (named_in step) (asked_in step) old old' t same none some

-- a step is one member's
one_for : (whom : Option ℕ) (step : OwnStep) (old old' : List View) (t u : ℕ) → KeepSame old old' → IsFor whom t step old → IsFor whom u step old' → u ≡ t
one_for (Some v) step old old' t u same is is' = sym is'.0 ∙ is.0
one_for None step old old' t u same is is' =
    one_pick (ready_in old) (moment_of step.step) t u is (pick_too old old' (moment_of step.step) (Some u) same is')

one_asked : (whom : Option ℕ) (asked : Asked) (old old' : List View) (t u : ℕ) → KeepSame old old' → IsAskedFor whom t asked old → IsAskedFor whom u asked old' → u ≡ t
one_asked whom (Piped step) old old' t u same is is' = one_for whom step old old' t u same is is'
one_asked whom (Comes section) old old' t u same is is' = absurd is

one_whose : (step : Step) (old old' : List View) (t u : ℕ) → KeepSame old old' → IsStepFor t step old → IsStepFor u step old' → u ≡ t
one_whose step old old' t u same is is' = one_asked (named_in step) (asked_in step) old old' t u same is is'

none_told : (whom : Option ℕ) (asked : Asked) (old old' : List View) → KeepSame old old' → told_of_none whom asked old' ≡ told_of_none whom asked old
none_told (Some u) asked old old' same = ap (λ kept. Refused u (refusal_of asked kept)) (same u).0
none_told None asked old old' same = refl

nobodys_told : (step : Step) (old old' : List View) → KeepSame old old' → told_of_nobodys step old' ≡ told_of_nobodys step old
nobodys_told step old old' same = none_told (named_in step) (asked_in step) old old' same

-- who comes is new, and who is new has no pipeline
not_new : (step : Step) (old old' : List View) (o : Outcome) (new : List View) (t : ℕ) → KeepSame old old' → IsNobodys step old → AddFollows t step old' o new → ⊥
not_new step old old' o new t same none is =
    absurd (let again : was_of t old ≡ true = rw (is.whose.names, is.whose.comes) at none in let new' : was_of t old ≡ false = sym (same t).1 ∙ is.whose.is_new in cc)

no_member : (whom : Option ℕ) (asked : Asked) (section : SectionData) (old : List View) (t : ℕ) → asked ≡ Comes section → IsAskedFor whom t asked old → ⊥
no_member whom (Piped step) section old t comes some = absurd (cc)
no_member whom (Comes other) section old t comes some = some

not_piped : (step : Step) (old old' : List View) (o : Outcome) (new : List View) (t u : ℕ) → IsStepFor t step old → AddFollows u step old' o new → ⊥
not_piped step old old' o new t u some is = no_member (named_in step) (asked_in step) is.whose.section old t is.whose.comes some

some_same : (a b : State) → Some a ≡ Some b → a ≡ b
some_same a b e = ap (λ o. unwrap_or o a) e

number_same : (a b : ℕ) → Some a ≡ Some b → a ≡ b
number_same a b e = ap (λ o. unwrap_or o a) e

piped_in : OwnStep → Asked → OwnStep
piped_in step (Piped own) = own
piped_in step (Comes section) = step

step_same : (a b : OwnStep) → Piped a ≡ Piped b → a ≡ b
unfolding piped_in
step_same a b e = ap (piped_in a) e

section_in : SectionData → Asked → SectionData
section_in section (Piped own) = section
section_in section (Comes other) = other

section_same : (a b : SectionData) → Comes a ≡ Comes b → a ≡ b
unfolding section_in
section_same a b e = ap (section_in a) e

-- what a member is told, and what is left of all tenants
module _ (step : Step) (old old' : List View) (o o' : Outcome) (new new' : List View) (t u : ℕ) (same : KeepSame old old') (is : MemberFollows t step old o new) (is' : MemberFollows u step old' o' new') where
  whom : u ≡ t
  whom = one_whose step old old' t u same is.whose is'.whose

  before : is'.before ≡ is.before
  before = some_same is'.before is.before (sym is'.was ∙ ((same u).0 ∙ (ap (λ x. kept_of x old) whom ∙ is.was)))

  asked : is'.asked ≡ is.asked
  asked = step_same is'.asked is.asked (sym is'.asks ∙ is.asks)

  said : is'.said ≡ is.said
  said = is'.from_state.said_is ∙ (ap (λ x. told x.step is'.before) asked ∙ (ap (told is.asked.step) before ∙ sym is.from_state.said_is))

  left : is'.after ≡ is.after
  left = is'.from_state.new_is ∙ (ap (λ x. next x.step is'.before) asked ∙ (ap (next is.asked.step) before ∙ sym is.from_state.new_is))

  outcome : o' ≡ o
  outcome = is'.outcome_is ∙ (ap (λ x. named x (Answered is'.said)) whom ∙ (ap (λ x. named t (Answered x)) said ∙ sym is.outcome_is))

  kept : kept_after is'.asked.step o' is'.after ≡ kept_after is.asked.step o is.after
  kept = ap (λ x. kept_after x.step o' is'.after) asked ∙ (ap (λ x. kept_after is.asked.step x is'.after) outcome ∙ ap (kept_after is.asked.step o) left)

  own_stays : StaysOf u new new'
  own_stays = (
    is'.is_now ∙ (kept ∙ (sym is.is_now ∙ ap (λ y. kept_of y new) (sym whom))),
    is'.was_now ∙ (sym is.was_now ∙ ap (λ y. was_of y new) (sym whom)),
  )

  member_decides : (o' ≡ o) × KeepSame new new'
  member_decides = (
    outcome,
    λ x. elim (cases_eq x u) [
      | inl e ↦ subst (λ (y : ℕ). StaysOf y new new') (sym e) own_stays
      | inr other ↦
          let stay = is.others x (λ e. other (e ∙ sym whom)) in
          let stay' = is'.others x other in
          (stay'.0 ∙ ((same x).0 ∙ sym stay.0), stay'.1 ∙ ((same x).1 ∙ sym stay.1))
    ],
  )

-- a new tenant
module _ (step : Step) (old old' : List View) (o o' : Outcome) (new new' : List View) (t u : ℕ) (same : KeepSame old old') (is : AddFollows t step old o new) (is' : AddFollows u step old' o' new') where
  comer : u ≡ t
  comer = number_same u t (sym is'.whose.names ∙ is.whose.names)

  section : is'.whose.section ≡ is.whose.section
  section = section_same is'.whose.section is.whose.section (sym is'.whose.comes ∙ is.whose.comes)

  comer_stays : StaysOf u new new'
  comer_stays = (
    is'.change.is_now ∙ (ap (λ x. Some (state x [])) section ∙ (sym is.change.is_now ∙ ap (λ y. kept_of y new) (sym comer))),
    is'.change.was_now ∙ (sym is.change.was_now ∙ ap (λ y. was_of y new) (sym comer)),
  )

  add_decides : (o' ≡ o) × KeepSame new new'
  add_decides = (
    is'.outcome_is ∙ (ap Done comer ∙ sym is.outcome_is),
    λ x. elim (cases_eq x u) [
      | inl e ↦ subst (λ (y : ℕ). StaysOf y new new') (sym e) comer_stays
      | inr other ↦
          let stay = is.change.others x (λ e. other (e ∙ sym comer)) in
          let stay' = is'.change.others x other in
          (stay'.0 ∙ ((same x).0 ∙ sym stay.0), stay'.1 ∙ ((same x).1 ∙ sym stay.1))
    ],
  )

turned : (old old' : List View) → KeepSame old old' → KeepSame old' old
turned old old' same = λ x. (sym (same x).0, sym (same x).1)

step_decides : (step : Step) (old old' : List View) (o o' : Outcome) (new new' : List View) → KeepSame old old' → ShardFollows step old o new → ShardFollows step old' o' new' → (o' ≡ o) × KeepSame new new'
step_decides step old old' o o' new new' same (inl is) (inl is') = (
  is'.outcome_is ∙ (nobodys_told step old old' same ∙ sym is.outcome_is),
  λ x. rw (is.new_is, is'.new_is) (same x),
)
step_decides step old old' o o' new new' same (inl is) (inr (inl is')) = absurd (nobodys_alone step old old' is'.0 same is.whose is'.1.whose)
step_decides step old old' o o' new new' same (inl is) (inr (inr is')) = absurd (not_new step old old' o' new' is'.0 same is.whose is'.1)
step_decides step old old' o o' new new' same (inr (inl is)) (inl is') = absurd (nobodys_alone step old' old is.0 (turned old old' same) is'.whose is.1.whose)
step_decides step old old' o o' new new' same (inr (inl is)) (inr (inl is')) = member_decides step old old' o o' new new' is.0 is'.0 same is.1 is'.1
step_decides step old old' o o' new new' same (inr (inl is)) (inr (inr is')) = absurd (not_piped step old old' o' new' is.0 is'.0 is.1.whose is'.1)
step_decides step old old' o o' new new' same (inr (inr is)) (inl is') = absurd (not_new step old' old o new is.0 (turned old old' same) is'.whose is.1)
step_decides step old old' o o' new new' same (inr (inr is)) (inr (inl is')) = absurd (not_piped step old' old o new is'.0 is.0 is'.1.whose is.1)
step_decides step old old' o o' new new' same (inr (inr is)) (inr (inr is')) = add_decides step old old' o o' new new' is.0 is'.0 same is.1 is'.1

pub kept_decides : KeptDecides
kept_decides [] old old' [] [] new new' same is is' = (refl, λ x. rw (is, is') (same x))
kept_decides [] old old' (o ∷ os) os' new new' same is is' = absurd is
kept_decides [] old old' [] (o' ∷ os') new new' same is is' = absurd is'
kept_decides (s ∷ ss) old old' [] os' new new' same is is' = absurd is
kept_decides (s ∷ ss) old old' (o ∷ os) [] new new' same is is' = absurd is'
kept_decides (s ∷ ss) old old' (o ∷ os) (o' ∷ os') new new' same is is' =
    let first = step_decides s old old' o o' is.0 is'.0 same is.1 is'.1 in
    let rest = kept_decides ss is.0 is'.0 os os' new new' first.1 is.2 is'.2 in
    (ap (λ x. x ∷ os') first.0 ∙ ap (λ xs. o ∷ xs) rest.0, rest.1)
