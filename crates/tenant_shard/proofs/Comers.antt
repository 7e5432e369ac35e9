-- Who comes, by what is kept.
use Rattle.std.proofs.Common.{◌≡◌, ℕ, List, [], ◌∷◌, sym, ap, ◌∙◌, arith, true, false, Some, None, inl, inr}
use Rattle.std.proofs.lemmas.Bool.{cases_eq}
use Rattle.std.proofs.lemmas.Bool.Decides.{nat_tests}
use Rattle.std.specs.Option.{unwrap_or}
use Rattle.tail_settings.specs.Section.{SectionData, section_view}
use Rattle.tail_settings.specs.declared.section.Section.{Section}
use Rattle.tenant_rules.specs.State.{state}
use Rattle.tenant_shard.specs.declared.step.Step.{Step}
use Rattle.tenant_shard.specs.declared.step.Step.TheVariants as steps
use Rattle.tenant_shard.specs.declared.step.Outcome.{Outcome}
use Rattle.tenant_shard.specs.declared.step.Outcome.TheVariants.{Done, Refused}
use Rattle.tenant_shard.specs.View.{View, kept_of, was_of}
use Rattle.tenant_shard.specs.Outcomes.{Asked, Piped, Comes, number_used}
use Rattle.tenant_shard.specs.Follows.{ShardFollows}
use Rattle.tenant_shard.specs.Comings.{adds, NeverAgain, AlwaysWelcome}

some_same : (a b : ℕ) → Some a ≡ Some b → a ≡ b
some_same a b e = ap (λ o. unwrap_or o a) e

section_in : SectionData → Asked → SectionData
section_in section (Piped own) = section
section_in section (Comes other) = other

section_same : (a b : SectionData) → Comes a ≡ Comes b → a ≡ b
unfolding section_in
section_same a b e = ap (section_in a) e

-- a number that was used stays so
stays_used : (s : Step) (old : List View) (o : Outcome) (new : List View) (t : ℕ) → ShardFollows s old o new → was_of t old ≡ true → was_of t new ≡ true
stays_used s old o new t (inl none) was = ap (was_of t) none.new_is ∙ was
stays_used s old o new t (inr (inl m)) was = elim (cases_eq t m.0) [
  | inl same ↦ ap (λ u. was_of u new) same ∙ m.1.was_now
  | inr other ↦ (m.1.others t other).1 ∙ was
]
stays_used s old o new t (inr (inr a)) was = elim (cases_eq t a.0) [
  | inl same ↦ ap (λ u. was_of u new) same ∙ a.1.change.was_now
  | inr other ↦ (a.1.change.others t other).1 ∙ was
]

-- who was a member is none again
stays_none : (s : Step) (old : List View) (o : Outcome) (new : List View) (t : ℕ) → ShardFollows s old o new → was_of t old ≡ true → kept_of t old ≡ None → kept_of t new ≡ None
stays_none s old o new t (inl none) was left = ap (kept_of t) none.new_is ∙ left
stays_none s old o new t (inr (inl m)) was left = elim (cases_eq t m.0) [
  | inl same ↦ absurd (let there : kept_of t old ≡ Some m.1.before = ap (λ u. kept_of u old) same ∙ m.1.was in cc)
  | inr other ↦ (m.1.others t other).0 ∙ left
]
stays_none s old o new t (inr (inr a)) was left = elim (cases_eq t a.0) [
  | inl same ↦ absurd (let fresh : was_of t old ≡ false = ap (λ u. was_of u old) same ∙ a.1.whose.is_new in cc)
  | inr other ↦ (a.1.change.others t other).0 ∙ left
]

-- a used number isn't let in
add_refused : (other : ℕ) (section : Section) (old : List View) (o : Outcome) (new : List View) (t : ℕ) → ShardFollows (steps.Add other section) old o new → was_of t old ≡ true → other ≡ t → o ≡ Refused t number_used
add_refused other section old o new t (inl none) was same = none.outcome_is ∙ ap (λ u. Refused u number_used) same
add_refused other section old o new t (inr (inl m)) was same = absurd m.1.whose
add_refused other section old o new t (inr (inr a)) was same =
    absurd (let whom : t ≡ a.0 = sym same ∙ some_same other a.0 a.1.whose.names in let fresh : was_of t old ≡ false = ap (λ u. was_of u old) whom ∙ a.1.whose.is_new in cc)

step_refused : (s : Step) (old : List View) (o : Outcome) (new : List View) (t : ℕ) → ShardFollows s old o new → was_of t old ≡ true → adds t s ≡ true → o ≡ Refused t number_used
step_refused (steps.Post now prepared) old o new t follows was comes = absurd (cc)
step_refused (steps.Turn now) old o new t follows was comes = absurd (cc)
step_refused (steps.Answer other now ticket word answer) old o new t follows was comes = absurd (cc)
step_refused (steps.Report other now) old o new t follows was comes = absurd (cc)
step_refused (steps.Drain other now) old o new t follows was comes = absurd (cc)
step_refused (steps.Add other section) old o new t follows was comes =
    let same : other ≡ t = grind (arith, nat_tests) in
    add_refused other section old o new t follows was same
step_refused (steps.Retire other now) old o new t follows was comes = absurd (cc)

pub never_again : NeverAgain
never_again [] old [] new run t was = (tt, λ left. rw run left)
never_again [] old (o ∷ os) new run t was = absurd run
never_again (s ∷ ss) old [] new run t was = absurd run
never_again (s ∷ ss) old (o ∷ os) new run t was =
    let follows = run.1.from_state in
    let rest = never_again ss run.0 os new run.2 t (stays_used s old o run.0 t follows was) in
    ((step_refused s old o run.0 t follows was, rest.0), λ left. rest.1 (stays_none s old o run.0 t follows was left))

let_in : (t : ℕ) (section : Section) (old : List View) (o : Outcome) (new : List View) → ShardFollows (steps.Add t section) old o new → was_of t old ≡ false → (o ≡ Done t) × (kept_of t new ≡ Some (state (section_view section) []))
let_in t section old o new (inl none) fresh = absurd (let used : was_of t old ≡ true = none.whose in cc)
let_in t section old o new (inr (inl m)) fresh = absurd m.1.whose
let_in t section old o new (inr (inr a)) fresh =
    let whom : t ≡ a.0 = some_same t a.0 a.1.whose.names in
    let with_it : section_view section ≡ a.1.whose.section = section_same (section_view section) a.1.whose.section a.1.whose.comes in (
      a.1.outcome_is ∙ ap Done (sym whom),
      ap (λ u. kept_of u new) whom ∙ (a.1.change.is_now ∙ ap (λ x. Some (state x [])) (sym with_it)),
    )

pub always_welcome : AlwaysWelcome
always_welcome t section old o new does fresh = let_in t section old o new does.from_state fresh
