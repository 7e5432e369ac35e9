-- Whole runs.
use Rattle.std.proofs.Common.{◌≡◌, ℕ, ◌<◌, List, [], ◌∷◌, ◌++◌, length, take, get_or, refl, sym, ap, ◌∙◌, arith, Bool, true, false, eqb, Option, Some, None, map, inl, inr}
use Rattle.std.proofs.lemmas.Bool.Decides.{nat_tests}
use Rattle.std.specs.Prelude.{if◌then◌else◌}
use Rattle.std.proofs.lemmas.Option.{slice_get_read}
use Rattle.tail_settings.specs.Section.{SectionData}
use Rattle.tenant_rules.specs.Own.{Own}
use Rattle.tenant_rules.specs.Answers.{answer}
use Rattle.tenant_rules.specs.declared.reply.StepReply.TheVariants as replies
use Rattle.tenant_shard.specs.declared.step.Step.{Step}
use Rattle.tenant_shard.specs.declared.step.Outcome.{Outcome}
use Rattle.tenant_shard.specs.View.{View}
use Rattle.tenant_shard.specs.Lives.{Life, new_life, gone, Lives, ShardStands}
use Rattle.tenant_shard.specs.Outcomes.{OwnStep, Asked, Piped, Comes, asked_in, named_in, is_taken, other_policies, Answer, Answered, NotTaken, named, told_whom, whose, is_tenant, is_own, is_report, reports, has_left}
use Rattle.tenant_shard.specs.Run.{IsTakenOrNot, IsAnswered, IsAnswerTo, IsTurned, IsOutcomeOf, IsOutcome, came, lived_by, lived, after, after_all}
use Rattle.tenant_shard.specs.Chain.{Chain, ShardRuns, RunsByOwnSteps, StandsAfter}
use Rattle.tenant_shard.specs.Alone.{said_by, said, alone, own_steps, told_to, EachAlone, OwnStepsDecide}
use Rattle.tenant_shard.specs.Refusal.{ShardRefuses}
use Rattle.tenant_shard.specs.Stop.{IsStopped}
use Rattle.tenant_shard.proofs.Runs.{told_whom-named}

-- one step more at the end
pub Chain-push : (D : Step → List View → Outcome → List View → Type 0) (ss : List Step) (os : List Outcome) (s : Step) (o : Outcome) (old middle new : List View) → Chain D ss old os middle → D s middle o new → Chain D (ss ++ s ∷ []) old (os ++ o ∷ []) new
Chain-push D [] [] s o old middle new run is = (new, rw run at is, refl)
Chain-push D [] (o' ∷ os) s o old middle new run is = absurd run
Chain-push D (s' ∷ ss) [] s o old middle new run is = absurd run
Chain-push D (s' ∷ ss) (o' ∷ os) s o old middle new run is = (run.0, run.1, Chain-push D ss os s o run.0 middle new run.2 is)

-- own steps that are known stay so
known_by : (section : Option SectionData) (step : OwnStep) (reported : Bool) (life : Life) → life.known ≡ true → (lived_by section step reported life).known ≡ true
known_by None step reported life known = known
known_by (Some section) step reported life known = by_tests (is_taken section step) (has_left step.step reported)
  where
    by_tests : (a b : Bool) → (if a then (if b then gone else record life { past = step.step ∷ life.past }) else life).known ≡ true
    by_tests true true = refl
    by_tests true false = known
    by_tests false b = known

known_lived : (asked : Asked) (reported : Bool) (life : Life) → life.known ≡ true → (lived asked reported life).known ≡ true
known_lived (Piped step) reported life known = known_by life.section step reported life known
known_lived (Comes section) reported life known = by_used life.used
  where
    by_used : (b : Bool) → (if b then life else new_life (Some section)).known ≡ true
    by_used true = known
    by_used false = refl

known_after : (s : Step) (o : Outcome) (lives : Lives) (t : ℕ) → (lives t).known ≡ true → (after s o lives t).known ≡ true
known_after s o lives t known = by_own (is_own t s o)
  where
    by_own : (b : Bool) → (if b then lived (asked_in s) (reports o) (lives t) else lives t).known ≡ true
    by_own true = known_lived (asked_in s) (reports o) (lives t) known
    by_own false = known

-- where every member's own steps are known, what is kept doesn't count
pub by_own_steps : (steps : List Step) (old : List View) (outcomes : List Outcome) (new : List View) → ShardRuns steps old outcomes new → RunsByOwnSteps steps old outcomes
by_own_steps [] old [] new run = λ lives stands all. tt
by_own_steps [] old (o ∷ os) new run = absurd run
by_own_steps (s ∷ ss) old [] new run = absurd run
by_own_steps (s ∷ ss) old (o ∷ os) new run = λ lives stands all. (
  run.1.by_own_steps.by_own_steps lives stands all,
  by_own_steps ss run.0 os new run.2 (after s o lives) (run.1.by_own_steps.stands lives stands).1 (λ t. known_after s o lives t (all t)),
)

pub stands_after : (steps : List Step) (old : List View) (outcomes : List Outcome) (new : List View) → ShardRuns steps old outcomes new → StandsAfter steps old outcomes new
stands_after [] old [] new run = λ lives stands. rw run stands
stands_after [] old (o ∷ os) new run = absurd run
stands_after (s ∷ ss) old [] new run = absurd run
stands_after (s ∷ ss) old (o ∷ os) new run = λ lives stands. stands_after ss run.0 os new run.2 (after s o lives) (run.1.by_own_steps.stands lives stands).1

-- an outcome names the tenant whose step it answers
whom_taken : (t : ℕ) (taken : Bool) (section : SectionData) (past : List Own) (known : Bool) (step : Own) (o : Outcome) → IsTakenOrNot taken t section past known step o → told_whom o ≡ Some t
whom_taken t true section past true step o is = ap told_whom is ∙ told_whom-named t (Answered (answer section past step))
whom_taken t true section past false step o is = ap told_whom is.1 ∙ told_whom-named t (Answered is.0)
whom_taken t false section past known step o is = ap told_whom is

whom_answered : (t : ℕ) (section : Option SectionData) (past : List Own) (known : Bool) (step : OwnStep) (o : Outcome) → IsAnswered t section past known step o → told_whom o ≡ Some t
whom_answered t None past known step o is = ap told_whom is
whom_answered t (Some section) past known step o is = whom_taken t (is_taken section step) section past known step.step o is

whom_asked : (t : ℕ) (life : Life) (asked : Asked) (o : Outcome) → IsAnswerTo t life asked o → told_whom o ≡ Some t
whom_asked t life (Piped step) o is = whom_answered t life.section life.past life.known step o is
whom_asked t life (Comes section) o is = ap told_whom is ∙ told_whom-named t (came life.used)

names_of : (t : ℕ) (whom : Option ℕ) (lives : Lives) (views : List View) (asked : Asked) (o : Outcome) → IsOutcomeOf whom lives views asked o → is_tenant t (told_whom o) ≡ is_tenant t (whose whom o)
names_of t (Some u) lives views asked o is = ap (is_tenant t) (whom_asked u (lives u) asked o is)
names_of t None lives views asked o is = refl

names_own : (t : ℕ) (lives : Lives) (views : List View) (s : Step) (o : Outcome) → IsOutcome lives views s o → is_tenant t (told_whom o) ≡ is_own t s o
names_own t lives views s o is = names_of t (named_in s) lives views (asked_in s) o is

-- and is what the tenant is told alone
taken_known : (t : ℕ) (taken : Bool) (section : SectionData) (past : List Own) (step : Own) (o : Outcome) → IsTakenOrNot taken t section past true step o →
    o ≡ named t (if taken then Answered (answer section past step) else NotTaken other_policies)
taken_known t true section past step o is = is
taken_known t false section past step o is = is

answered_known : (t : ℕ) (section : Option SectionData) (past : List Own) (known : Bool) (step : OwnStep) (o : Outcome) → known ≡ true → IsAnswered t section past known step o → o ≡ named t (said_by section past step)
answered_known t None past known step o sure is = is
answered_known t (Some section) past known step o sure is =
    let is' : IsAnswered t (Some section) past true step o = rw sure at is in
    taken_known t (is_taken section step) section past step.step o is'

asked_known : (t : ℕ) (life : Life) (asked : Asked) (o : Outcome) → life.known ≡ true → IsAnswerTo t life asked o → o ≡ named t (said life asked)
asked_known t life (Piped step) o sure is = answered_known t life.section life.past life.known step o sure is
asked_known t life (Comes section) o sure is = is

named_tells : (t u : ℕ) (lives : Lives) (asked : Asked) (o : Outcome) → (lives t).known ≡ true → IsAnswerTo u (lives u) asked o → eqb u t ≡ true → o ≡ named t (said (lives t) asked)
named_tells t u lives asked o sure is test =
    let same : u ≡ t = grind (arith, nat_tests) in
    asked_known t (lives t) asked o sure (rw same at is)

turn_tells : (t : ℕ) (lives : Lives) (step : OwnStep) (picked : Option ℕ) (o : Outcome) → (lives t).known ≡ true → IsTurned lives step picked o → is_tenant t (told_whom o) ≡ true → o ≡ named t (said (lives t) (Piped step))
turn_tells t lives step None o sure is holds = let never : is_tenant t (told_whom o) ≡ false = rw is refl in absurd (cc)
turn_tells t lives step (Some u) o sure is holds =
    let whom = whom_asked u (lives u) (Piped step) o is in
    let test : eqb u t ≡ true = rw whom at holds in
    named_tells t u lives (Piped step) o sure is test

tells_of : (t : ℕ) (whom : Option ℕ) (lives : Lives) (views : List View) (asked : Asked) (o : Outcome) → (lives t).known ≡ true → IsOutcomeOf whom lives views asked o → is_tenant t (whose whom o) ≡ true → o ≡ named t (said (lives t) asked)
tells_of t (Some u) lives views asked o sure is holds = named_tells t u lives asked o sure is holds
tells_of t None lives views (Piped step) o sure is holds = turn_tells t lives step is.0 o sure is.2 holds
tells_of t None lives views (Comes section) o sure is holds = absurd is

tells_own : (t : ℕ) (lives : Lives) (views : List View) (s : Step) (o : Outcome) → (lives t).known ≡ true → IsOutcome lives views s o → is_own t s o ≡ true → o ≡ named t (said (lives t) (asked_in s))
tells_own t lives views s o sure is holds = tells_of t (named_in s) lives views (asked_in s) o sure is holds

-- whether it is the counters
pub reports-named : (t : ℕ) (said : Answer) → reports (named t said) ≡ is_report said
reports-named t (Answered (replies.Reply reply)) = refl
reports-named t (Answered (replies.Job ticket payload)) = refl
reports-named t (Answered replies.Worked) = refl
reports-named t (Answered replies.Done) = refl
reports-named t (Answered (replies.Report text)) = refl
reports-named t (Answered replies.UnknownTicket) = refl
reports-named t (Answered replies.NotEmpty) = refl
reports-named t (NotTaken number) = refl

Run-alone : (ss : List Step) (os : List Outcome) (lives : Lives) (old new : List View) (t : ℕ) → ShardRuns ss old os new → ShardStands lives old → (lives t).known ≡ true →
    told_to t os ≡ map (named t) (alone (lives t) (own_steps t ss os))
Run-alone [] [] lives old new t run stands sure = refl
Run-alone [] (o ∷ os) lives old new t run stands sure = absurd run
Run-alone (s ∷ ss) [] lives old new t run stands sure = absurd run
Run-alone (s ∷ ss) (o ∷ os) lives old new t run stands sure = by_own (is_own t s o) refl (Run-alone ss os (after s o lives) run.0 new t run.2 next.1 (known_after s o lives t sure))
  where
    next : IsOutcome lives old s o × ShardStands (after s o lives) run.0
    next = run.1.by_own_steps.stands lives stands

    by_own : (b : Bool) → is_own t s o ≡ b → told_to t os ≡ map (named t) (alone (after s o lives t) (own_steps t ss os)) →
        told_to t (o ∷ os) ≡ map (named t) (alone (lives t) (own_steps t (s ∷ ss) (o ∷ os)))
    by_own true e rest =
        let names : is_tenant t (told_whom o) ≡ true = names_own t lives old s o next.0 ∙ e in
        let first = tells_own t lives old s o sure next.0 e in
        let reported : reports o ≡ is_report (said (lives t) (asked_in s)) = ap reports first ∙ reports-named t (said (lives t) (asked_in s)) in
        let life : after s o lives t ≡ lived (asked_in s) (is_report (said (lives t) (asked_in s))) (lives t) = rw e (ap (λ b. lived (asked_in s) b (lives t)) reported) in
        let rest' = rest ∙ ap (λ (l : Life). map (named t) (alone l (own_steps t ss os))) life in
        rw (names, e) (ap (λ x. x ∷ told_to t os) first ∙ ap (λ xs. named t (said (lives t) (asked_in s)) ∷ xs) rest')
    by_own false e rest =
        let names : is_tenant t (told_whom o) ≡ false = names_own t lives old s o next.0 ∙ e in
        let rest' : told_to t os ≡ map (named t) (alone (lives t) (own_steps t ss os)) = rw e at rest in
        rw (names, e) rest'

pub each_alone : (steps : List Step) (old : List View) (outcomes : List Outcome) (new : List View) → ShardRuns steps old outcomes new → EachAlone steps old outcomes
each_alone steps old outcomes new run = λ lives stands t sure. Run-alone steps outcomes lives old new t run stands sure

pub own_steps_decide : OwnStepsDecide
own_steps_decide = λ life steps. (
  alone life steps,
  λ t told is.
      let told_is : told_to t is.outcomes ≡ map (named t) (alone (is.lives t) (own_steps t is.all_steps is.outcomes)) =
      Run-alone is.all_steps is.outcomes is.lives is.old is.new t is.runs is.stands (ap (λ (l : Life). l.known) is.life_is ∙ is.is_known) in
      sym is.told_is ∙ rw (is.life_is, is.steps_are) at told_is,
)

-- memory was refused before the first step
pub stopped_at_start : (steps : List Step) (views : List View) → IsStopped steps views [] views
stopped_at_start steps views = record {
  middle = views;
  runs = refl;
  by_own_steps = by_own_steps [] views [] views refl;
  each_alone = each_alone [] views [] views refl;
  whose = None;
  refused = (inl refl, refl);
  stands = λ lives stands. stands;
}

-- memory was refused at a step
pub stopped_at : (steps : List Step) (old middle new : List View) (outcomes : List Outcome) (i : ℕ) (step : Step) → length outcomes ≡ i → i < length steps → step ≡ get_or steps i step →
    ShardRuns (take i steps) old outcomes middle → ShardRefuses step middle new → IsStopped steps old outcomes new
stopped_at steps old middle new outcomes i step count within is runs (inl lost) =
    let runs' : ShardRuns (take (length outcomes) steps) old outcomes middle = rw count runs in
    record {
      middle = middle;
      runs = runs';
      by_own_steps = by_own_steps (take (length outcomes) steps) old outcomes middle runs';
      each_alone = each_alone (take (length outcomes) steps) old outcomes middle runs';
      whose = Some lost.0;
      refused = rw (count, slice_get_read steps (length steps) i step refl within is) lost.1;
      stands = λ lives stands. lost.1.stands (after_all (take (length outcomes) steps) outcomes lives) (stands_after (take (length outcomes) steps) old outcomes middle runs' lives stands);
    }
stopped_at steps old middle new outcomes i step count within is runs (inr kept_out) =
    let runs' : ShardRuns (take (length outcomes) steps) old outcomes middle = rw count runs in
    record {
      middle = middle;
      runs = runs';
      by_own_steps = by_own_steps (take (length outcomes) steps) old outcomes middle runs';
      each_alone = each_alone (take (length outcomes) steps) old outcomes middle runs';
      whose = None;
      refused = (inr (rw (count, slice_get_read steps (length steps) i step refl within is) kept_out.0), kept_out.1);
      stands = λ lives stands. rw kept_out.1 (stands_after (take (length outcomes) steps) old outcomes middle runs' lives stands);
    }
