-- A step with its word.
use Rattle.std.proofs.Common.{◌≡◌, ℕ, List, ◌⊎◌, inl, inr, Option, Some, None, is_some, refl, sym, ap, ◌∙◌, subst}
use Rattle.std.proofs.lemmas.Bool.{cases_eq}
use Rattle.std.specs.Prelude.{option_map, ◌≢◌}
use Rattle.rand_pcg.specs.Lcg.{Lcg}
use Rattle.send_retry.specs.declared.answer.Answer.{Answer}
use Rattle.send_retry.specs.Class.{answer_view}
use Rattle.tenant_rules.specs.Own as own
use Rattle.shard_machine.specs.Jitter.{next_word, moved, TenantGenerator, generator_of, IsDraw}
use Rattle.tenant_shard.specs.declared.step.Step.{Step}
use Rattle.tenant_shard.specs.declared.step.Step.TheVariants as steps
use Rattle.tenant_shard.specs.declared.step.Outcome.{Outcome}
use Rattle.tenant_shard.specs.declared.step.Outcome.TheVariants.{Refused}
use Rattle.tenant_shard.specs.View.{View, kept_of}
use Rattle.tenant_shard.specs.Outcomes.{plain, asked_in, not_member}
use Rattle.tenant_shard.specs.Follows.{refusal_number, ShardFollows}
use Rattle.tenant_shard.specs.Chain.{ShardDoes}
use Rattle.shard_machine.specs.declared.step.WordSource.{WordSource}
use Rattle.shard_machine.specs.declared.step.WordSource.TheVariants as word
use Rattle.shard_machine.specs.declared.step.LoggedStep.{LoggedStep}
use Rattle.shard_machine.specs.Drawing.{IsReady, StepIsRefused}
use Rattle.shard_machine.specs.MachineState.{MachineState, GeneratorsGoOn, GeneratorsMove, MachineDoes, AreMembers}
use Rattle.shard_machine.proofs.Members.{members_at_refusal, are_still, with_same_words, no_member, never_comes}

-- who gets no word has no generator
pub no_generator : (o : Option Lcg) → option_map next_word o ≡ None → o ≡ None
no_generator None e = refl
no_generator (Some g) e = absurd (cc)

-- ---- a draw

still_some : (o : Option Lcg) → is_some (option_map moved o) ≡ is_some o
still_some None = refl
still_some (Some g) = refl

draw_stays : (t : ℕ) (drawn : Option ℕ) (old new : List TenantGenerator) → IsDraw t old drawn new → (tenant : ℕ) → is_some (generator_of tenant new) ≡ is_some (generator_of tenant old)
draw_stays t drawn old new d tenant = by (cases_eq tenant t)
  where
    by : (tenant ≡ t) ⊎ (tenant ≢ t) → is_some (generator_of tenant new) ≡ is_some (generator_of tenant old)
    by (inl same) = ap (λ x. is_some (generator_of x new)) same ∙ ap is_some d.own ∙ still_some (generator_of t old) ∙ ap (λ x. is_some (generator_of x old)) (sym same)
    by (inr apart) = ap is_some (d.others tenant apart)

same_stays : (old new : List TenantGenerator) → new ≡ old → (tenant : ℕ) → is_some (generator_of tenant new) ≡ is_some (generator_of tenant old)
same_stays old new same tenant = ap (λ w. is_some (generator_of tenant w)) same

ready_stays : (w : WordSource) (step : Step) (old new : List TenantGenerator) → IsReady w step old new → (tenant : ℕ) → is_some (generator_of tenant new) ≡ is_some (generator_of tenant old)
ready_stays word.Caller step old new ready = same_stays old new ready
ready_stays word.Generator (steps.Post now prepared) old new ready = absurd ready
ready_stays word.Generator (steps.Turn now) old new ready = absurd ready
ready_stays word.Generator (steps.Answer other now ticket drawn answer) old new ready = draw_stays other (Some drawn) old new ready
ready_stays word.Generator (steps.Report other now) old new ready = absurd ready
ready_stays word.Generator (steps.Drain other now) old new ready = absurd ready
ready_stays word.Generator (steps.Add other section) old new ready = absurd ready
ready_stays word.Generator (steps.Retire other now) old new ready = absurd ready
ready_stays word.Nobody (steps.Post now prepared) old new ready = absurd ready
ready_stays word.Nobody (steps.Turn now) old new ready = absurd ready
ready_stays word.Nobody (steps.Answer other now ticket drawn answer) old new ready = same_stays old new ready.2
ready_stays word.Nobody (steps.Report other now) old new ready = absurd ready
ready_stays word.Nobody (steps.Drain other now) old new ready = absurd ready
ready_stays word.Nobody (steps.Add other section) old new ready = absurd ready
ready_stays word.Nobody (steps.Retire other now) old new ready = absurd ready

pub members_ready : (w : WordSource) (step : Step) (old new : List TenantGenerator) (views : List View) → AreMembers old views → IsReady w step old new → AreMembers new views
members_ready w step old new views are ready = are_still old new views views are (ready_stays w step old new ready) (λ tenant. refl)

-- ---- what is left of a step that was refused memory

pub members_refused : (step : Step) (words words' : List TenantGenerator) (views views' : List View) → AreMembers words views → words' ≡ words → StepIsRefused step views views' → AreMembers words' views'
members_refused step words words' views views' are same refused = with_same_words words words' views views' are same (members_at_refusal step views views' refused)

-- ---- a step with its word

-- an answer to the job of a tenant that is no member
not_a_member : (tenant now ticket drawn : ℕ) (answer : Answer) (outcome : Outcome) (views views' : List View) → kept_of tenant views ≡ None → ShardFollows (steps.Answer tenant now ticket drawn answer) views outcome views' → outcome ≡ Refused tenant not_member
not_a_member tenant now ticket drawn answer outcome views views' none (inl n) = n.outcome_is ∙ ap (λ k. Refused tenant (refusal_number k)) none
not_a_member tenant now ticket drawn answer outcome views views' none (inr (inl m)) =
    let same : tenant ≡ m.0 = m.1.whose.0 in
    let there : kept_of tenant views ≡ Some m.1.before = ap (λ t. kept_of t views) same ∙ m.1.was in
    absurd (cc)
not_a_member tenant now ticket drawn answer outcome views views' none (inr (inr a)) =
    absurd (never_comes (asked_in (steps.Answer tenant now ticket drawn answer)) (plain (own.Answer now ticket drawn (answer_view answer))) a.1.whose.section refl a.1.whose.comes)

words_move : (w : WordSource) (step : Step) (outcome : Outcome) (old middle new : List TenantGenerator) (views views' : List View) → AreMembers old views → IsReady w step old middle → ShardFollows step views outcome views' → GeneratorsGoOn step outcome middle new
    → GeneratorsMove w step outcome old new
words_move word.Caller step outcome old middle new views views' are ready follows goes = subst (λ words. GeneratorsGoOn step outcome words new) ready goes
words_move word.Generator (steps.Post now prepared) outcome old middle new views views' are ready follows goes = absurd ready
words_move word.Generator (steps.Turn now) outcome old middle new views views' are ready follows goes = absurd ready
words_move word.Generator (steps.Answer other now ticket drawn answer) outcome old middle new views views' are ready follows goes = subst (λ words. IsDraw other old (Some drawn) words) (sym goes) ready
words_move word.Generator (steps.Report other now) outcome old middle new views views' are ready follows goes = absurd ready
words_move word.Generator (steps.Drain other now) outcome old middle new views views' are ready follows goes = absurd ready
words_move word.Generator (steps.Add other section) outcome old middle new views views' are ready follows goes = absurd ready
words_move word.Generator (steps.Retire other now) outcome old middle new views views' are ready follows goes = absurd ready
words_move word.Nobody (steps.Post now prepared) outcome old middle new views views' are ready follows goes = absurd ready
words_move word.Nobody (steps.Turn now) outcome old middle new views views' are ready follows goes = absurd ready
words_move word.Nobody (steps.Answer other now ticket drawn answer) outcome old middle new views views' are ready follows goes =
    (ready.0, ready.1, goes ∙ ready.2, not_a_member other now ticket drawn answer outcome views views' (no_member old views other are ready.1) follows)
words_move word.Nobody (steps.Report other now) outcome old middle new views views' are ready follows goes = absurd ready
words_move word.Nobody (steps.Drain other now) outcome old middle new views views' are ready follows goes = absurd ready
words_move word.Nobody (steps.Add other section) outcome old middle new views views' are ready follows goes = absurd ready
words_move word.Nobody (steps.Retire other now) outcome old middle new views views' are ready follows goes = absurd ready

pub machine_does : (old : MachineState) (made : LoggedStep) (outcome : Outcome) (new : MachineState) (middle : List TenantGenerator) → AreMembers old.words old.views → IsReady made.word made.step old.words middle → ShardDoes made.step old.views outcome new.views
    → GeneratorsGoOn made.step outcome middle new.words → MachineDoes old made outcome new
machine_does old made outcome new middle are ready does goes = record {
  shard = does;
  words = words_move made.word made.step outcome old.words middle new.words old.views new.views are ready does.from_state goes;
}

pub still_ready : (w : WordSource) (step : Step) (old middle new : List TenantGenerator) → IsReady w step old middle → new ≡ middle → IsReady w step old new
still_ready w step old middle new ready same = subst (λ words. IsReady w step old words) (sym same) ready
