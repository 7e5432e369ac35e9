use Rattle.std.proofs.Common.{◌≡◌, ◌==◌, ℕ, zero, suc, ◌<◌, true, false, [], Option, Some, None, refl, sym, ap, subst, ◌∙◌, arith, inl, inr}
use Rattle.std.specs.Prelude.{if◌then◌else◌}
use Rattle.std.proofs.lemmas.Bool.{ne_eqb}
use Rattle.tenant_rules.specs.Own as own
use Rattle.tenant_shard.specs.declared.step.Outcome.{Outcome}
use Rattle.tenant_shard.specs.declared.step.Outcome.TheVariants.{Job, Idle}
use Rattle.tenant_shard.specs.declared.step.Step.{Step}
use Rattle.tenant_shard.specs.declared.step.Step.TheVariants.{Post, Turn}
use Rattle.tenant_shard.specs.Lives.{Lives, new_life}
use Rattle.tenant_shard.specs.Outcomes.{OwnStep, plain, Piped, asked_in, told_whom, is_own, reports}
use Rattle.tenant_shard.specs.Pick.{ready_by, ready_at}
use Rattle.shard_agenda.specs.Pick.{NotAfter, IsPick}
use Rattle.tenant_shard.specs.Run.{IsAnswerTo, IsTurned, IsNext, lived, after}
use Rattle.collector_tests.specs.Parts.{body}
use Rattle.collector_tests.specs.ShardExamples.{prepared, taken, two, posted}
use Rattle.collector_tests.proofs.OnLiterals.{pipelines_on_literals}
use Rattle.collector_tests.proofs.Small.{some_same, never, later, is_refusal}
use Rattle.collector_tests.proofs.definitions.runs_of_shards.Goals as goal

-- ---- who never was a member

-- a step of another tenant changes nothing of a tenant's life
untouched : (step : Step) (outcome : Outcome) (lives : Lives) (tenant : ℕ) → is_own tenant step outcome ≡ false → after step outcome lives tenant ≡ lives tenant
untouched step outcome lives tenant apart = ap (λ b. if b then lived (asked_in step) (reports outcome) (lives tenant) else lives tenant) apart

apart : (tenant n : ℕ) → tenant < 2 → (tenant == suc (suc n)) ≡ false
apart tenant n few = ne_eqb tenant (suc (suc n)) (λ e. omega (arith, e))

third_posted : (n : ℕ) → posted (suc (suc n)) ≡ new_life None
third_posted n =
    untouched (Post 500 (prepared 1 18 34)) (taken 1) (after (Post 0 (prepared 0 17 33)) (taken 0) two) (suc (suc n)) (apart 1 n (omega arith))
    ∙ untouched (Post 0 (prepared 0 17 33)) (taken 0) two (suc (suc n)) (apart 0 n (omega arith))

never_ready : (lives : Lives) (tenant moment : ℕ) → lives tenant ≡ new_life None → ready_at lives [] tenant ≡ Some moment → ⊥
never_ready lives tenant moment none h = never moment (sym (ap (λ life. ready_by life None) none) ∙ h)

third_told : (n : ℕ) (step : OwnStep) (outcome : Outcome) → IsTurned posted step (Some (suc (suc n))) outcome → told_whom outcome ≡ Some (suc (suc n))
third_told n step outcome turned = ap told_whom (subst (λ life. IsAnswerTo (suc (suc n)) life (Piped step) outcome) (third_posted n) turned)

-- ---- what comes next

posted_1_first : (tenant moment : ℕ) → ready_at posted [] tenant ≡ Some moment → NotAfter 1500 1 moment tenant
unfolding pipelines_on_literals
posted_1_first zero moment h = inl (omega (arith, some_same 2000 moment h))
posted_1_first (suc zero) moment h = inr (some_same 1500 moment h, omega arith)
posted_1_first (suc (suc n)) moment h = absurd (never_ready posted (suc (suc n)) moment (third_posted n) h)

job_at_2000 : IsNext posted (Turn 2000) (Job 1 1 (body 18 34))
unfolding pipelines_on_literals
job_at_2000 = (Some 1, (1500, refl, omega arith, posted_1_first), refl)

not_idle : (picked : Option ℕ) → IsPick (ready_at posted []) 1500 picked → IsTurned posted (plain (own.Turn 1500)) picked Idle → ⊥
unfolding pipelines_on_literals
not_idle None pick turned = let less : 1500 < 1500 = pick 1 1500 refl in omega (arith, less)
not_idle (Some zero) pick turned = never 0 (ap told_whom turned)
not_idle (Some (suc zero)) pick turned = never 1 (ap told_whom turned)
not_idle (Some (suc (suc n))) pick turned = never (suc (suc n)) (third_told n (plain (own.Turn 1500)) Idle turned)

not_0_first : (picked : Option ℕ) → IsPick (ready_at posted []) 2000 picked → IsTurned posted (plain (own.Turn 2000)) picked (Job 0 1 (body 17 33)) → ⊥
unfolding pipelines_on_literals
not_0_first None pick turned = never 0 (sym (ap told_whom turned))
not_0_first (Some zero) pick turned = later pick.0 0 1500 1 (omega (arith, some_same 2000 pick.0 pick.1)) (pick.3 1 1500 refl)
not_0_first (Some (suc zero)) pick turned = omega (arith, some_same 0 1 (ap told_whom turned))
not_0_first (Some (suc (suc n))) pick turned = omega (arith, some_same 0 (suc (suc n)) (third_told n (plain (own.Turn 2000)) (Job 0 1 (body 17 33)) turned))

pub returns-clause-nexts : goal.returns-clause-nexts
unfolding pipelines_on_literals
returns-clause-nexts c = record {
  own_refused = λ h. let same : true ≡ false = ap is_refusal h in cc;
  idle_though_ready = λ h. not_idle h.0 h.1 h.2;
}

-- ---- a run

-- the job of tenant 1 was handed out
abbrev handed : Lives
handed = after (Turn 2000) (Job 1 1 (body 18 34)) posted

third_handed : (n : ℕ) → handed (suc (suc n)) ≡ new_life None
third_handed n = untouched (Turn 2000) (Job 1 1 (body 18 34)) posted (suc (suc n)) (apart 1 n (omega arith)) ∙ third_posted n

handed_0_first : (tenant moment : ℕ) → ready_at handed [] tenant ≡ Some moment → NotAfter 2000 0 moment tenant
unfolding pipelines_on_literals
handed_0_first zero moment h = inr (some_same 2000 moment h, omega arith)
handed_0_first (suc zero) moment h = absurd (never moment h)
handed_0_first (suc (suc n)) moment h = absurd (never_ready handed (suc (suc n)) moment (third_handed n) h)

last_job : IsNext handed (Turn 2000) (Job 0 1 (body 17 33))
unfolding pipelines_on_literals
last_job = (Some 0, (2000, refl, omega arith, handed_0_first), refl)

pub returns-clause-four_steps : goal.returns-clause-four_steps
unfolding pipelines_on_literals
returns-clause-four_steps c = record {
  run = (refl, (refl, (job_at_2000, (last_job, tt))));
  other_order = λ h. let third = h.1.1.0 in not_0_first third.0 third.1 third.2;
  one_less = λ h. h.1.1.1;
}

pub returns-clause-each_is_told : goal.returns-clause-each_is_told
unfolding pipelines_on_literals
returns-clause-each_is_told c = record {
  steps_of_0 = refl;
  alone_0 = refl;
  told_to_0 = refl;
  named_0 = refl;
  steps_of_1 = refl;
  told_to_1 = refl;
}
