-- What the others are told where some calls were refused memory.
use Rattle.std.proofs.Common.{◌≡◌, ◌≢◌, inl, inr, ℕ, ◌+◌, ◌≤◌, List, [], ◌∷◌, ◌++◌, length, map, Bool, true, false, eqb, cond, Option, Some, None, refl, sym, ap, ◌∙◌, subst, arith}
use Rattle.std.specs.Prelude.{if◌then◌else◌, Result, Ok, Err}
use Rattle.std.proofs.lemmas.Bool.Decides.{nat_tests}
use Rattle.tail_settings.specs.Section.{SectionData}
use Rattle.tenant_shard.specs.declared.step.Step.{Step}
use Rattle.tenant_shard.specs.declared.step.Outcome.{Outcome}
use Rattle.tenant_shard.specs.View.{View}
use Rattle.tenant_shard.specs.Lives.{Life, new_life, gone, Lives, ShardStands}
use Rattle.tenant_shard.specs.Run.{lived, lived_by, after}
use Rattle.tenant_shard.specs.Outcomes.{OwnStep, Asked, Piped, Comes, asked_in, named_in, is_taken, named, told_whom, is_tenant, whose, is_own, has_left, is_report, reports}
use Rattle.tenant_shard.specs.Alone.{said, alone, own_steps, told_to}
use Rattle.tenant_shard.specs.Refusal.{IsAskedFor, without}
use Rattle.tenant_shard.proofs.Wholes.{reports-named, each_alone}
use Rattle.machine_hub.specs.Runs.{Runs, IsLossOf, RunsWithLosses, entries_in, lost_in, losses}
use Rattle.shard_machine.specs.declared.step.Call.{Call}
use Rattle.shard_machine.specs.declared.step.Call.TheVariants as calls
use Rattle.shard_machine.specs.declared.step.LoggedStep.{LoggedStep}
use Rattle.shard_machine.specs.Drawing.{StepIsRefused, IsLost}
use Rattle.shard_machine.specs.MachineState.{MachineState, AsksFor, MachineDoes}
use Rattle.shard_machine.specs.Run.{Logged, steps_of, outcomes_of}
use Rattle.shared_hub.specs.Logs.{IsSpared, named_by, MayCost, AreCosts}

-- a tenant is told what its life alone says of its own steps
abbrev pub IsAlone : ℕ → Life → List Logged → Type 0
IsAlone t life es = told_to t (outcomes_of es) ≡ map (named t) (alone life (own_steps t (steps_of es) (outcomes_of es)))

-- ---- a step more at the front

first_is : (o other : Outcome) (os others : List Outcome) → o ∷ os ≡ other ∷ others → o ≡ other
first_is o other os others same = cc

one_more : (t : ℕ) (life : Life) (asked : Asked) (o : Outcome) (os : List Outcome) (own : List Asked) (told mine : Bool)
    → cond told (o ∷ []) [] ≡ map (named t) (alone life (if mine then asked ∷ [] else []))
    → os ≡ map (named t) (alone (if mine then lived asked (reports o) life else life) own)
    → cond told (o ∷ os) os ≡ map (named t) (alone life (if mine then asked ∷ own else own))
one_more t life asked o os own true true one rest =
    let first : o ≡ named t (said life asked) = first_is o (named t (said life asked)) [] [] one in
    let reported : reports o ≡ is_report (said life asked) = ap reports first ∙ reports-named t (said life asked) in
    let tail : os ≡ map (named t) (alone (lived asked (is_report (said life asked)) life) own) = subst (λ b. os ≡ map (named t) (alone (lived asked b life) own)) reported rest in
    (λ i. first i ∷ tail i)
one_more t life asked o os own true false one rest = absurd (cc)
one_more t life asked o os own false true one rest = absurd (cc)
one_more t life asked o os own false false one rest = rest

alone_more : (t : ℕ) (lives : Lives) (e : Logged) (es : List Logged) → IsAlone t (lives t) (e ∷ []) → IsAlone t (after e.step.step e.outcome lives t) es → IsAlone t (lives t) (e ∷ es)
alone_more t lives e es one rest =
    one_more t (lives t) (asked_in e.step.step) e.outcome (told_to t (outcomes_of es)) (own_steps t (steps_of es) (outcomes_of es)) (is_tenant t (told_whom e.outcome)) (is_own t e.step.step e.outcome) one rest

-- ---- what is known of a tenant stays so

known_if : (b : Bool) (one other : Life) → one.known ≡ true → other.known ≡ true → ◌≡◌ {A = Bool} (if b then one else other).known true
known_if true one other here there = here
known_if false one other here there = there

known_by : (section : Option SectionData) (step : OwnStep) (reported : Bool) (life : Life) → life.known ≡ true → (lived_by section step reported life).known ≡ true
known_by None step reported life known = known
known_by (Some section) step reported life known =
    known_if (is_taken section step) (if has_left step.step reported then gone else record life { past = step.step ∷ life.past }) life
    (known_if (has_left step.step reported) gone (record life { past = step.step ∷ life.past }) refl known) known

lived_known : (asked : Asked) (reported : Bool) (life : Life) → life.known ≡ true → (lived asked reported life).known ≡ true
lived_known (Piped step) reported life known = known_by life.section step reported life known
lived_known (Comes section) reported life known = known_if life.used life (new_life (Some section)) known refl

after_known : (t : ℕ) (lives : Lives) (e : Logged) → (lives t).known ≡ true → (after e.step.step e.outcome lives t).known ≡ true
after_known t lives e known =
    known_if (is_own t e.step.step e.outcome) (lived (asked_in e.step.step) (reports e.outcome) (lives t)) (lives t) (lived_known (asked_in e.step.step) (reports e.outcome) (lives t) known) known

-- ---- calls that were refused memory

-- what happened, with the tenants at most whom want of memory hit
pub record Spares (hs : List (Result Logged Call)) (old : List View) : Type 0 where
  pub hit : List ℕ
  pub costs : AreCosts (lost_in hs) hit
  pub few : length hit ≤ losses hs
  pub alone_is : (lives : Lives) → ShardStands lives old → (t : ℕ) → (lives t).known ≡ true → IsSpared t hit → IsAlone t (lives t) (entries_in hs)

not_same : (u t : ℕ) → u ≢ t → eqb u t ≡ false
not_same u t apart = by (eqb u t) refl
  where
    by : (b : Bool) → eqb u t ≡ b → eqb u t ≡ false
    by true at = let same : u ≡ t = grind (arith, nat_tests) in absurd (apart same)
    by false at = at

-- whose step it was that nobody was told of
abbrev hit_by : Option ℕ → List ℕ → List ℕ
hit_by None hit = hit
hit_by (Some u) hit = u ∷ hit

few_hit : (o : Option ℕ) (hit : List ℕ) (n : ℕ) → length hit ≤ n → length (hit_by o hit) ≤ n + 1
few_hit None hit n few = omega (arith, few)
few_hit (Some u) hit n few = omega (arith, few)

spared_rest : (o : Option ℕ) (hit : List ℕ) (t : ℕ) → IsSpared t (hit_by o hit) → IsSpared t hit × (is_tenant t o ≡ false)
spared_rest None hit t spared = (spared, refl)
spared_rest (Some u) hit t spared = (spared.1, not_same u t spared.0)

-- a tenant whose life is the same is told the same
alone_along : (t : ℕ) (lives lives' : Lives) (es : List Logged) → lives' t ≡ lives t → IsAlone t (lives' t) es → IsAlone t (lives t) es
alone_along t lives lives' es same alone_is = subst (λ (life : Life). IsAlone t life es) same alone_is

-- a call's step names whom the call names
names : (call : Call) (made : LoggedStep) → AsksFor call made → named_in made.step ≡ named_by call
names (calls.Step step) made asked = ap named_in asked.0
names (calls.Answer tenant now ticket answer) made asked = ap named_in asked.1

-- a step is the tenant's that it names, by what was kept or by whom its outcome names
cost_of : (whom : Option ℕ) (u : ℕ) (asked : Asked) (views : List View) → IsAskedFor whom u asked views → MayCost whom u
cost_of None u asked views is = tt
cost_of (Some other) u (Piped step) views is = is.0
cost_of (Some other) u (Comes section) views is = absurd is

cost_by : (whom : Option ℕ) (o : Outcome) (u : ℕ) → whose whom o ≡ Some u → MayCost whom u
cost_by None o u is = tt
cost_by (Some other) o u is = cc

costs_more : (call : Call) (lost : List Call) (o : Option ℕ) (hit : List ℕ) → ((u : ℕ) → o ≡ Some u → MayCost (named_by call) u) → AreCosts lost hit → AreCosts (call ∷ lost) (hit_by o hit)
costs_more call lost None hit may rest = inl rest
costs_more call lost (Some u) hit may rest = inr (u, hit, refl, may u refl, rest)

-- nothing has changed, and nobody was hit
spares_none : (hs : List (Result Logged Call)) (call : Call) (old new : List View) → new ≡ old → Spares hs new → Spares (Err call ∷ hs) old
spares_none hs call old new same rest =
    let back = subst (Spares hs) same rest in
    let fewer : length back.hit ≤ losses hs + 1 = omega (arith, back.few) in
    record { hit = back.hit; costs = inl back.costs; few = fewer; alone_is = back.alone_is }

spares_refusal : (hs : List (Result Logged Call)) (call : Call) (made : LoggedStep) (old new : List View) → AsksFor call made → StepIsRefused made.step old new → Spares hs new → Spares (Err call ∷ hs) old
spares_refusal hs call made old new asked (inl (inl (u, r))) rest =
    let fewer : length (u ∷ rest.hit) ≤ losses hs + 1 = omega (arith, rest.few) in
    let may : MayCost (named_by call) u = subst (λ whom. MayCost whom u) (names call made asked) (cost_of (named_in made.step) u (asked_in made.step) old r.whose) in
    record {
      hit = u ∷ rest.hit;
      costs = inr (u, rest.hit, refl, may, rest.costs);
      few = fewer;
      alone_is = λ lives stands t known spared.
          let test : eqb t u ≡ false = not_same t u (λ same. spared.0 (sym same)) in
          let still : without u lives t ≡ lives t = ap (λ (b : Bool). if b then record (lives t) { known = false } else lives t) test in
          alone_along t lives (without u lives) (entries_in hs) still (rest.alone_is (without u lives) (r.stands lives stands) t (ap (λ (life : Life). life.known) still ∙ known) spared.1);
    }
spares_refusal hs call made old new asked (inl (inr n)) rest = spares_none hs call old new n.1 rest
spares_refusal hs call made old new asked (inr k) rest = spares_none hs call old new k.1 rest

spares_loss : (hs : List (Result Logged Call)) (call : Call) (old next : MachineState) → IsLossOf AsksFor MachineDoes IsLost call old next → Spares hs next.views → Spares (Err call ∷ hs) old.views
spares_loss hs call old next (inl same) rest = spares_none hs call old.views next.views (ap (λ (w : MachineState). w.views) same) rest
spares_loss hs call old next (inr (inl lost)) rest = spares_refusal hs call lost.made old.views next.views lost.asked lost.shard rest
spares_loss hs call old next (inr (inr made)) rest =
    let s = made.0.step in
    let o = made.1 in
    let who = whose (named_in s) o in
    record {
      hit = hit_by who rest.hit;
      costs = costs_more call (lost_in hs) who rest.hit (λ u is. subst (λ whom. MayCost whom u) (names call made.0 made.2) (cost_by (named_in s) o u is)) rest.costs;
      few = few_hit who rest.hit (losses hs) rest.few;
      alone_is = λ lives stands t known spared.
          let left = spared_rest who rest.hit t spared in
          let next_stands = (made.3.shard.by_own_steps.stands lives stands).1 in
          let still : after s o lives t ≡ lives t = ap (λ (b : Bool). if b then lived (asked_in s) (reports o) (lives t) else lives t) left.1 in
          alone_along t lives (after s o lives) (entries_in hs) still (rest.alone_is (after s o lives) next_stands t (ap (λ (life : Life). life.known) still ∙ known) left.0);
    }

pub spares : (hs : List (Result Logged Call)) (old new : MachineState) → RunsWithLosses AsksFor MachineDoes IsLost old hs new → Spares hs old.views
spares [] old new later_run = record { hit = []; costs = refl; few = omega arith; alone_is = λ lives stands t known spared. refl }
spares (Err call ∷ hs) old new later_run = spares_loss hs call old later_run.0 later_run.1 (spares hs later_run.0 new later_run.2)
spares (Ok e ∷ hs) old new later_run =
    let rest = spares hs later_run.0 new later_run.2 in
    let does = later_run.1.shard in
    record {
      hit = rest.hit;
      costs = rest.costs;
      few = rest.few;
      alone_is = λ lives stands t known spared.
          let next = (does.by_own_steps.stands lives stands).1 in
          alone_more t lives e (entries_in hs)
          (each_alone (e.step.step ∷ []) old.views (e.outcome ∷ []) later_run.0.views (later_run.0.views, does, refl) lives stands t known)
          (rest.alone_is (after e.step.step e.outcome lives) next t (after_known t lives e known) spared);
    }

-- the run before, and what happened later
abbrev pub behind : List Logged → List (Result Logged Call) → List (Result Logged Call)
behind [] hs = hs
behind (e ∷ es) hs = Ok e ∷ behind es hs

pub run_and_later : (es : List Logged) (hs : List (Result Logged Call)) (old middle new : MachineState) → Runs MachineDoes old es middle → RunsWithLosses AsksFor MachineDoes IsLost middle hs new → RunsWithLosses AsksFor MachineDoes IsLost old (behind es hs) new
run_and_later [] hs old middle new run later_run = subst (λ (w : MachineState). RunsWithLosses AsksFor MachineDoes IsLost w hs new) (sym run) later_run
run_and_later (e ∷ es) hs old middle new run later_run = (run.0, run.1, run_and_later es hs run.0 middle new run.2 later_run)

pub entries_behind : (es : List Logged) (hs : List (Result Logged Call)) → entries_in (behind es hs) ≡ es ++ entries_in hs
entries_behind [] hs = refl
entries_behind (e ∷ es) hs = ap (λ l. e ∷ l) (entries_behind es hs)

pub lost_behind : (es : List Logged) (hs : List (Result Logged Call)) → lost_in (behind es hs) ≡ lost_in hs
lost_behind [] hs = refl
lost_behind (e ∷ es) hs = lost_behind es hs

pub losses_behind : (es : List Logged) (hs : List (Result Logged Call)) → losses (behind es hs) ≡ losses hs
losses_behind [] hs = refl
losses_behind (e ∷ es) hs = losses_behind es hs
