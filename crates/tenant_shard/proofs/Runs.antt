-- From what a step does to what is kept to what it is for all lives that the shard stands for.
use Rattle.std.proofs.Common.{◌≡◌, ℕ, ◌<◌, List, [], ◌∷◌, refl, sym, subst, ap, ◌∙◌, arith, Bool, true, false, eqb, Option, Some, None, inl, inr, Result, Ok, Err, IfOk, OnErr}
use Rattle.std.proofs.lemmas.Bool.{cases_eq}
use Rattle.std.proofs.lemmas.Bool.Decides.{nat_tests}
use Rattle.std.specs.Prelude.{option_and_then, if◌then◌else◌, IsOk}
use Rattle.std.specs.Option.{unwrap_or}
use Rattle.std.specs.declared.alloc.AllocError.{AllocError}
use Rattle.tail_settings.specs.Section.{SectionData}
use Rattle.tenant_rules.specs.declared.reply.StepReply.{StepReply}
use Rattle.tenant_rules.specs.declared.reply.StepReply.TheVariants as replies
use Rattle.tenant_rules.specs.Own.{Own, moment_of}
use Rattle.tenant_rules.specs.State.{State, state}
use Rattle.tenant_rules.specs.Ready.{ready}
use Rattle.tenant_pipeline.specs.Steps.{Answers}
use Rattle.tenant_shard.specs.declared.step.Step.{Step}
use Rattle.tenant_shard.specs.declared.step.Outcome.{Outcome}
use Rattle.tenant_shard.specs.declared.step.Outcome.TheVariants.{Idle, Done, Refused}
use Rattle.tenant_shard.specs.View.{View, kept_of, was_of}
use Rattle.tenant_shard.specs.Lives.{Life, gone, Lives, MemberStands, LifeStands, ShardStands}
use Rattle.tenant_shard.specs.Outcomes.{OwnStep, Asked, Piped, Comes, asked_in, named_in, is_taken, not_member, other_policies, number_used, Answer, Answered, NotTaken, named, told_whom, whose, is_tenant, is_own, reports, has_left}
use Rattle.tenant_shard.specs.Pick.{ready_in, ready_after, ready_at}
use Rattle.shard_agenda.specs.Pick.{IsPick}
use Rattle.tenant_shard.specs.Run.{IsTakenOrNot, IsAnswered, IsAnswerTo, IsOutcomeOf, IsOutcome, came, lived_by, lived, AllKnown, OthersStay, ShardSteps, after}
use Rattle.tenant_shard.specs.Refusal.{IsStepFor, IsNobodys, Reaches, ShardRefuses}
use Rattle.tenant_shard.specs.Follows.{ShardFollows}
use Rattle.tenant_shard.specs.Steps.{kept_after, IsStepOf, IsLossOf, IsAdditionOf, IsComingOf}

-- of whom something is kept is or was a member
pub kept_was : (t : ℕ) (vs : List View) (kept : State) → kept_of t vs ≡ Some kept → was_of t vs ≡ true
kept_was t [] kept is = absurd (cc)
kept_was t (v ∷ vs) kept is = by_test (eqb v.tenant t) refl (kept_was t vs kept)
  where
    by_test : (b : Bool) → eqb v.tenant t ≡ b → (kept_of t vs ≡ Some kept → was_of t vs ≡ true) → was_of t (v ∷ vs) ≡ true
    by_test true e rest = rw e refl
    by_test false e rest = rw e (rest (rw e at is))

-- what is kept of a member says its section
keeps_section : (section : SectionData) (past : List Own) (known : Bool) (kept : State) → MemberStands (Some section) past known (Some kept) → kept.section ≡ section
unfolding state
keeps_section section past true kept stands = ap (λ (s : State). s.section) stands
keeps_section section past false kept stands = stands

-- a member's own step that reaches its pipeline
own_answer : (t : ℕ) (section : Option SectionData) (past : List Own) (known used : Bool) (kept : Option State) (step : OwnStep) (before after : State) (said : StepReply) (o : Outcome) →
    MemberStands section past known kept → used ≡ true → kept ≡ Some before → is_taken before.section step ≡ true → Answers step.step before said after → after.section ≡ before.section → o ≡ named t (Answered said) →
    IsAnswered t section past known step o × LifeStands (lived_by section step (reports o) (record { section = section; past = past; known = known; used = used })) (kept_after step.step o after) true
own_answer t None past known used kept step before after said o stands was is takes_it answers stay told = absurd (let stands' : MemberStands None past known (Some before) = rw is at stands in stands')
own_answer t (Some section) past known used kept step before after said o stands was is takes_it answers stay told = by_known known stands'
  where
    stands' : MemberStands (Some section) past known (Some before)
    stands' = rw is at stands

    keeps : before.section ≡ section
    keeps = keeps_section section past known before stands'

    test : is_taken section step ≡ true
    test = ap (λ s. is_taken s step) (sym keeps) ∙ takes_it

    by_left : (k b : Bool) → MemberStands (Some section) (step.step ∷ past) k (Some after) →
        LifeStands (if b then gone else record { section = Some section; past = step.step ∷ past; known = k; used = used }) (if b then None else Some after) true
    by_left k true here = (tt, refl)
    by_left k false here = (here, was)

    by_known : (k : Bool) → MemberStands (Some section) past k (Some before) →
        IsTakenOrNot (is_taken section step) t section past k step.step o × LifeStands (lived_by (Some section) step (reports o) (record { section = Some section; past = past; known = k; used = used })) (kept_after step.step o after) true
    by_known true known_stands =
        let both = answers section past known_stands in
        rw test (told ∙ ap (λ s. named t (Answered s)) both.0, by_left true (has_left step.step (reports o)) both.1)
    by_known false known_stands = rw test ((said, told), by_left false (has_left step.step (reports o)) (stay ∙ keeps))

-- every tenant after a member's own step
all_stand : (t : ℕ) (s : Step) (step : OwnStep) (old new : List View) (outcome : Outcome) (lives : Lives) → asked_in s ≡ Piped step → ((u : ℕ) → is_own u s outcome ≡ eqb t u) → (is : IsStepOf t step.step old outcome new) → is_taken is.before.section step ≡ true →
    ShardStands lives old → IsAnswerTo t (lives t) (Piped step) outcome × ShardStands (after s outcome lives) new
all_stand t s step old new outcome lives asks whose is takes_it stands =
    let used : (lives t).used ≡ true = (stands t).1 ∙ kept_was t old is.before is.change.was in
    let own = own_answer t (lives t).section (lives t).past (lives t).known (lives t).used (kept_of t old) step is.before is.after is.said outcome (stands t).0 used is.change.was takes_it is.answers is.change.section is.outcome_is in (
      own.0,
      λ u. elim (cases_eq t u) [
        | inl same ↦
            let test : is_own u s outcome ≡ true = whose u ∙ grind (arith, nat_tests) in
            rw (test, asks) (rw (← same) (rw (is.change.is_now, is.change.was_now) own.1))
        | inr other ↦
            let test : is_own u s outcome ≡ false = whose u ∙ grind (arith, nat_tests) in
            let stay = is.change.others u (λ e. other (sym e)) in
            rw test (rw (stay.0, stay.1) (stands u))
      ],
    )

pub told_whom-named : (t : ℕ) (said : Answer) → told_whom (named t said) ≡ Some t
told_whom-named t (Answered (replies.Reply reply)) = refl
told_whom-named t (Answered (replies.Job ticket payload)) = refl
told_whom-named t (Answered replies.Worked) = refl
told_whom-named t (Answered replies.Done) = refl
told_whom-named t (Answered (replies.Report text)) = refl
told_whom-named t (Answered replies.UnknownTicket) = refl
told_whom-named t (Answered replies.NotEmpty) = refl
told_whom-named t (NotTaken number) = refl

whom_told : (t : ℕ) (step : Own) (old new : List View) (outcome : Outcome) → IsStepOf t step old outcome new → told_whom outcome ≡ Some t
whom_told t step old new outcome is = ap told_whom is.outcome_is ∙ told_whom-named t (Answered is.said)

others_stay : (t : ℕ) (step : Own) (old new : List View) (outcome : Outcome) → IsStepOf t step old outcome new → OthersStay outcome old new
others_stay t step old new outcome is = λ other ne. is.change.others other (λ e. ne (whom_told t step old new outcome is ∙ ap Some (sym e)))

-- the moments at which tenants are ready, by what is kept and by the own steps
ready_same : (section : Option SectionData) (past : List Own) (known : Bool) (kept : Option State) → MemberStands section past known kept → ready_after section past known (option_and_then ready kept) ≡ option_and_then ready kept
ready_same None past known None stands = refl
ready_same None past known (Some kept) stands = absurd stands
ready_same (Some section) past true None stands = absurd stands
ready_same (Some section) past true (Some kept) stands = ap ready (sym stands)
ready_same (Some section) past false None stands = absurd stands
ready_same (Some section) past false (Some kept) stands = refl

pub ready_stands : (lives : Lives) (views : List View) → ShardStands lives views → (t : ℕ) → ready_at lives views t ≡ ready_in views t
ready_stands lives views stands t = ready_same (lives t).section (lives t).past (lives t).known (kept_of t views) (stands t).0

pub IsPick-same : (f g : ℕ → Option ℕ) (now : ℕ) (picked : Option ℕ) → ((t : ℕ) → g t ≡ f t) → IsPick f now picked → IsPick g now picked
IsPick-same f g now None same is = λ t m h. is t m (sym (same t) ∙ h)
IsPick-same f g now (Some t) same is = (is.0, same t ∙ is.1, is.2, λ u m h. is.3 u m (sym (same u) ∙ h))

pick_at : (lives : Lives) (views : List View) (now : ℕ) (picked : Option ℕ) → ShardStands lives views → IsPick (ready_in views) now picked → IsPick (ready_at lives views) now picked
pick_at lives views now picked stands is = IsPick-same (ready_in views) (ready_at lives views) now picked (ready_stands lives views stands) is

-- where every member's own steps are known, what is kept doesn't count
ready_unseen : (section : Option SectionData) (past : List Own) (known : Bool) (seen seen' : Option ℕ) → known ≡ true → ready_after section past known seen ≡ ready_after section past known seen'
ready_unseen None past known seen seen' all = refl
ready_unseen (Some section) past true seen seen' all = refl
ready_unseen (Some section) past false seen seen' all = absurd (cc)

unseen_of : (whom : Option ℕ) (lives : Lives) (views views' : List View) (asked : Asked) (o : Outcome) → AllKnown lives → IsOutcomeOf whom lives views asked o → IsOutcomeOf whom lives views' asked o
unseen_of (Some t) lives views views' asked o all is = is
unseen_of None lives views views' (Piped step) o all is = (
  is.0,
  IsPick-same (ready_at lives views) (ready_at lives views') (moment_of step.step) is.0 (λ u. ready_unseen (lives u).section (lives u).past (lives u).known (ready_in views' u) (ready_in views u) (all u)) is.1,
  is.2,
)
unseen_of None lives views views' (Comes section) o all is = absurd is

pub IsOutcome-unseen : (lives : Lives) (views views' : List View) (s : Step) (o : Outcome) → AllKnown lives → IsOutcome lives views s o → IsOutcome lives views' s o
IsOutcome-unseen lives views views' s o all is = unseen_of (named_in s) lives views views' (asked_in s) o all is

done : (s : Step) (old : List View) (o : Outcome) (new : List View) → ((lives : Lives) → ShardStands lives old → IsOutcome lives old s o × ShardStands (after s o lives) new) → OthersStay o old new → ShardSteps s old o new
done s old o new stands others = record { stands = stands; others = others; by_own_steps = λ lives before all. IsOutcome-unseen lives old [] s o all (stands lives before).0 }

-- a step that names a member and reaches it
pub reached : (step : OwnStep) (kept : Option State) (before : State) → kept ≡ Some before → Reaches step kept → is_taken before.section step ≡ true
reached step kept before is reaches = let reaches' : Reaches step (Some before) = rw is at reaches in reaches'

pub reaches_at : (step : OwnStep) (kept : Option State) (before : State) → kept ≡ Some before → is_taken before.section step ≡ true → Reaches step kept
reaches_at step kept before is taken = rw is taken

pub named_steps : (t : ℕ) (s : Step) (step : OwnStep) (old new : List View) (outcome : Outcome) → named_in s ≡ Some t → asked_in s ≡ Piped step → Reaches step (kept_of t old) → IsStepOf t step.step old outcome new → ShardSteps s old outcome new
named_steps t s step old new outcome name asks reaches is = done s old outcome new all (others_stay t step.step old new outcome is)
  where
    all : (lives : Lives) → ShardStands lives old → IsOutcome lives old s outcome × ShardStands (after s outcome lives) new
    all lives stands =
        let both = all_stand t s step old new outcome lives asks (λ u. ap (λ w. is_tenant u (whose w outcome)) name) is (reached step (kept_of t old) is.before is.change.was reaches) stands in
        (rw (name, asks) both.0, both.1)

-- a step that names a tenant whose life it doesn't change
unmoved : (lives : Lives) (t : ℕ) (s : Step) (o : Outcome) (old : List View) → named_in s ≡ Some t → lived (asked_in s) (reports o) (lives t) ≡ lives t → ShardStands lives old → ShardStands (after s o lives) old
unmoved lives t s o old name stays stands = λ u. subst (λ (l : Life). LifeStands l (kept_of u old) (was_of u old)) (sym (same u)) (stands u)
  where
    same : (u : ℕ) → after s o lives u ≡ lives u
    same u = elim (cases_eq t u) [
      | inl is ↦ let test : is_own u s o ≡ true = ap (λ w. is_tenant u (whose w o)) name ∙ grind (arith, nat_tests) in rw test (rw (← is) stays)
      | inr other ↦ let test : is_own u s o ≡ false = ap (λ w. is_tenant u (whose w o)) name ∙ grind (arith, nat_tests) in rw test refl
    ]

not_lived : (section : Option SectionData) (step : OwnStep) (reported : Bool) (life : Life) → ((w : SectionData) → section ≡ Some w → is_taken w step ≡ false) → lived_by section step reported life ≡ life
not_lived None step reported life none = refl
not_lived (Some w) step reported life none = let test : is_taken w step ≡ false = none w refl in rw test refl

-- a step that reaches no pipeline
refused_steps : (t : ℕ) (s : Step) (step : OwnStep) (number : ℕ) (old : List View) → named_in s ≡ Some t → asked_in s ≡ Piped step →
    ((lives : Lives) → ShardStands lives old → IsAnswerTo t (lives t) (Piped step) (Refused t number) × ((w : SectionData) → (lives t).section ≡ Some w → is_taken w step ≡ false)) → ShardSteps s old (Refused t number) old
refused_steps t s step number old name asks refuses = done s old (Refused t number) old all (λ other ne. (refl, refl))
  where
    all : (lives : Lives) → ShardStands lives old → IsOutcome lives old s (Refused t number) × ShardStands (after s (Refused t number) lives) old
    all lives stands =
        let both = refuses lives stands in
        let stays : lived (asked_in s) false (lives t) ≡ lives t = rw asks (not_lived (lives t).section step false (lives t) both.1) in
        (rw (name, asks) both.0, unmoved lives t s (Refused t number) old name stays stands)

none_kept : (section : Option SectionData) (past : List Own) (known : Bool) → MemberStands section past known None → section ≡ None
none_kept None past known stands = refl
none_kept (Some section) past true stands = absurd stands
none_kept (Some section) past false stands = absurd stands

pub stranger_steps : (t : ℕ) (s : Step) (step : OwnStep) (old : List View) → named_in s ≡ Some t → asked_in s ≡ Piped step → kept_of t old ≡ None → ShardSteps s old (Refused t not_member) old
stranger_steps t s step old name asks none = refused_steps t s step not_member old name asks refuses
  where
    refuses : (lives : Lives) → ShardStands lives old → IsAnswerTo t (lives t) (Piped step) (Refused t not_member) × ((w : SectionData) → (lives t).section ≡ Some w → is_taken w step ≡ false)
    refuses lives stands =
        let missing : (lives t).section ≡ None = none_kept (lives t).section (lives t).past (lives t).known (rw none at (stands t).0) in
        (rw missing refl, λ section is. absurd (cc))

-- a body for other policies
not_taken : (t : ℕ) (section : Option SectionData) (past : List Own) (known : Bool) (kept : Option State) (step : OwnStep) (before : State) → MemberStands section past known kept → kept ≡ Some before → is_taken before.section step ≡ false →
    IsAnswered t section past known step (Refused t other_policies) × ((w : SectionData) → section ≡ Some w → is_taken w step ≡ false)
not_taken t None past known kept step before stands is other = absurd (let stands' : MemberStands None past known (Some before) = rw is at stands in stands')
not_taken t (Some section) past known kept step before stands is other = (
  rw test refl,
  λ w e. ap (λ s. is_taken s step) (some_section w section e) ∙ test,
)
  where
    keeps : before.section ≡ section
    keeps = keeps_section section past known before (rw is at stands)

    test : is_taken section step ≡ false
    test = ap (λ s. is_taken s step) (sym keeps) ∙ other

    some_section : (a b : SectionData) → Some b ≡ Some a → a ≡ b
    some_section a b e = sym (ap (λ o. unwrap_or o a) e)

pub other_steps : (t : ℕ) (s : Step) (step : OwnStep) (old : List View) (before : State) → named_in s ≡ Some t → asked_in s ≡ Piped step → kept_of t old ≡ Some before → is_taken before.section step ≡ false → ShardSteps s old (Refused t other_policies) old
other_steps t s step old before name asks was other =
    refused_steps t s step other_policies old name asks (λ lives stands. not_taken t (lives t).section (lives t).past (lives t).known (kept_of t old) step before (stands t).0 was other)

-- a tenant comes whose number was used, or whose number is new
pub used_steps : (t : ℕ) (s : Step) (section : SectionData) (old : List View) → named_in s ≡ Some t → asked_in s ≡ Comes section → was_of t old ≡ true → ShardSteps s old (Refused t number_used) old
used_steps t s section old name asks was = done s old (Refused t number_used) old all (λ other ne. (refl, refl))
  where
    all : (lives : Lives) → ShardStands lives old → IsOutcome lives old s (Refused t number_used) × ShardStands (after s (Refused t number_used) lives) old
    all lives stands =
        let used : (lives t).used ≡ true = (stands t).1 ∙ was in
        let stays : lived (asked_in s) false (lives t) ≡ lives t = rw asks (rw used refl) in
        (rw (name, asks) (rw used refl), unmoved lives t s (Refused t number_used) old name stays stands)

pub add_steps : (t : ℕ) (s : Step) (section : SectionData) (old new : List View) → named_in s ≡ Some t → asked_in s ≡ Comes section → was_of t old ≡ false → IsAdditionOf t section old new → ShardSteps s old (Done t) new
add_steps t s section old new name asks is_new added = done s old (Done t) new all (λ other ne. added.others other (λ e. ne (ap Some (sym e))))
  where
    all : (lives : Lives) → ShardStands lives old → IsOutcome lives old s (Done t) × ShardStands (after s (Done t) lives) new
    all lives stands =
        let unused : (lives t).used ≡ false = (stands t).1 ∙ is_new in (
          rw (name, asks) (rw unused refl),
          λ u. elim (cases_eq t u) [
            | inl same ↦
                let test : is_own u s (Done t) ≡ true = ap (λ w. is_tenant u (whose w (Done t))) name ∙ grind (arith, nat_tests) in
                rw (test, asks) (rw (← same) (rw (unused, added.is_now, added.was_now) (refl, refl)))
            | inr other ↦
                let test : is_own u s (Done t) ≡ false = ap (λ w. is_tenant u (whose w (Done t))) name ∙ grind (arith, nat_tests) in
                let stay = added.others u (λ e. other (sym e)) in
                rw test (rw (stay.0, stay.1) (stands u))
          ],
        )

-- a turn of a member
turn_whose : (t u : ℕ) (s : Step) (step : Own) (old new : List View) (outcome : Outcome) → named_in s ≡ None → IsStepOf t step old outcome new → is_own u s outcome ≡ eqb t u
turn_whose t u s step old new outcome name is = ap (λ w. is_tenant u (whose w outcome)) name ∙ ap (is_tenant u) (whom_told t step old new outcome is)

-- a picked tenant is a member
pub pick_is_kept : (vs : List View) (t m : ℕ) → ready_in vs t ≡ Some m → kept_of t vs ≡ None → ⊥
pick_is_kept vs t m is none = let never : ready_in vs t ≡ None = rw none refl in cc

pub turn_steps : (t : ℕ) (s : Step) (step : OwnStep) (old new : List View) (outcome : Outcome) → named_in s ≡ None → asked_in s ≡ Piped step → Reaches step (kept_of t old) → IsPick (ready_in old) (moment_of step.step) (Some t) → IsStepOf t step.step old outcome new → ShardSteps s old outcome new
turn_steps t s step old new outcome name asks reaches pick is = done s old outcome new all (others_stay t step.step old new outcome is)
  where
    all : (lives : Lives) → ShardStands lives old → IsOutcome lives old s outcome × ShardStands (after s outcome lives) new
    all lives stands =
        let both = all_stand t s step old new outcome lives asks (λ u. turn_whose t u s step.step old new outcome name is) is (reached step (kept_of t old) is.before is.change.was reaches) stands in
        (rw (name, asks) (Some t, pick_at lives old (moment_of step.step) (Some t) stands pick, both.0), both.1)

pub idle_steps : (s : Step) (step : OwnStep) (old : List View) → named_in s ≡ None → asked_in s ≡ Piped step → IsPick (ready_in old) (moment_of step.step) None → ShardSteps s old Idle old
idle_steps s step old name asks pick = done s old Idle old all (λ other ne. (refl, refl))
  where
    all : (lives : Lives) → ShardStands lives old → IsOutcome lives old s Idle × ShardStands (after s Idle lives) old
    all lives stands = (
      rw (name, asks) (None, pick_at lives old (moment_of step.step) None stands pick, refl),
      λ u. let test : is_own u s Idle ≡ false = ap (λ w. is_tenant u (whose w Idle)) name in rw test (stands u),
    )

-- what was kept decides what a member's own step gives
pub own_goes_on : (t : ℕ) (s : Step) (step : OwnStep) (old new : List View) (outcome : Outcome) → asked_in s ≡ Piped step → IsStepFor t s old → IsStepOf t step.step old outcome new → ShardFollows s old outcome new
own_goes_on t s step old new outcome asks whose is = inr (inl (
  t,
  record {
    whose = whose;
    asked = step;
    asks = asks;
    before = is.before;
    said = is.said;
    after = is.after;
    was = is.change.was;
    from_state = is.from_state;
    outcome_is = is.outcome_is;
    is_now = is.change.is_now;
    was_now = is.change.was_now;
    others = is.change.others;
  },
))

-- a tenant that comes goes on
pub used_goes_on : (t : ℕ) (s : Step) (section : SectionData) (old : List View) → named_in s ≡ Some t → asked_in s ≡ Comes section → was_of t old ≡ true → ShardFollows s old (Refused t number_used) old
used_goes_on t s section old name asks was = inl (record { whose = rw (name, asks) was; outcome_is = rw (name, asks) refl; new_is = refl })

pub add_goes_on : (t : ℕ) (s : Step) (section : SectionData) (old new : List View) → named_in s ≡ Some t → asked_in s ≡ Comes section → was_of t old ≡ false → IsAdditionOf t section old new → ShardFollows s old (Done t) new
add_goes_on t s section old new name asks is_new added = inr (inr (
  t,
  record {
    whose = record { section = section; names = name; comes = asks; is_new = is_new };
    outcome_is = refl;
    change = added;
  },
))

-- no member is ready where one is
pub not_both : (f : ℕ → Option ℕ) (now t : ℕ) → IsPick f now (Some t) → IsPick f now None → ⊥
not_both f now t some none = let later : now < some.0 = none t some.0 some.1 in omega (arith, later, some.2)

-- who is new is not nobody
pub not_again : (t : ℕ) (s : Step) (section : SectionData) (old : List View) → named_in s ≡ Some t → asked_in s ≡ Comes section → was_of t old ≡ false → IsNobodys s old → ⊥
not_again t s section old name asks is_new none = absurd (let again : was_of t old ≡ true = rw (name, asks) at none in cc)

-- after a refusal
lost_stands : (section : Option SectionData) (past : List Own) (known : Bool) (kept : Option State) (before after : State) → MemberStands section past known kept → kept ≡ Some before → after.section ≡ before.section → MemberStands section past false (Some after)
lost_stands None past known kept before after stands is stay = absurd (let stands' : MemberStands None past known (Some before) = rw is at stands in stands')
lost_stands (Some section) past known kept before after stands is stay = stay ∙ keeps_section section past known before (rw is at stands)

pub loss_refuses : (t : ℕ) (s : Step) (step : OwnStep) (old new : List View) → asked_in s ≡ Piped step → IsStepFor t s old → IsLossOf t step.step old new → ShardRefuses s old new
loss_refuses t s step old new asks whose is = inl (
  t,
  record {
    whose = whose;
    asked = step;
    asks = asks;
    before = is.before;
    after = is.after;
    was = is.change.was;
    is_now = is.change.is_now;
    was_now = is.change.was_now;
    front = is.front;
    others = is.change.others;
    stands = λ lives stands u. elim (cases_eq u t) [
      | inl same ↦
          let test : eqb u t ≡ true = grind (arith, nat_tests) in
          rw test (rw same (rw (is.change.is_now, is.change.was_now) (
            lost_stands (lives t).section (lives t).past (lives t).known (kept_of t old) is.before is.after (stands t).0 is.change.was is.change.section,
            (stands t).1 ∙ kept_was t old is.before is.change.was,
          )))
      | inr other ↦
          let test : eqb u t ≡ false = grind (arith, nat_tests) in
          let stay = is.change.others u other in
          rw test (rw (stay.0, stay.1) (stands u))
    ];
  },
)

pub newcomer_refused : (t : ℕ) (s : Step) (section : SectionData) (old new : List View) → named_in s ≡ Some t → asked_in s ≡ Comes section → was_of t old ≡ false → new ≡ old → ShardRefuses s old new
newcomer_refused t s section old new name asks is_new same = inr ((t, record { section = section; names = name; comes = asks; is_new = is_new }), same)

-- a tenant that comes
pub coming_steps : (t : ℕ) (s : Step) (section : SectionData) (old : List View) (o : Outcome) (new : List View) → named_in s ≡ Some t → asked_in s ≡ Comes section → IsComingOf t section old o new → ShardSteps s old o new
coming_steps t s section old o new name asks (inl again) = rw (again.1, again.2) (used_steps t s section old name asks again.0)
coming_steps t s section old o new name asks (inr comes) = rw comes.1 (add_steps t s section old new name asks comes.0 comes.2)

pub coming_goes_on : (t : ℕ) (s : Step) (section : SectionData) (old : List View) (o : Outcome) (new : List View) → named_in s ≡ Some t → asked_in s ≡ Comes section → IsComingOf t section old o new → ShardFollows s old o new
coming_goes_on t s section old o new name asks (inl again) = rw (again.1, again.2) (used_goes_on t s section old name asks again.0)
coming_goes_on t s section old o new name asks (inr comes) = rw comes.1 (add_goes_on t s section old new name asks comes.0 comes.2)

pub comes_again : (t : ℕ) (s : Step) (section : SectionData) (old new : List View) (r : Result Outcome AllocError) → named_in s ≡ Some t → asked_in s ≡ Comes section → IsNobodys s old → IfOk r (λ o. IsComingOf t section old o new) → OnErr r ((was_of t old ≡ false) × (new ≡ old)) → IsOk r × (new ≡ old)
comes_again t s section old new (Ok o) name asks nobody (inl again) lost = (refl, again.2)
comes_again t s section old new (Ok o) name asks nobody (inr comes) lost = absurd (not_again t s section old name asks comes.0 nobody)
comes_again t s section old new (Err e) name asks nobody came lost = absurd (not_again t s section old name asks lost.0 nobody)
