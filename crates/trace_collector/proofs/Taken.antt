-- What a step that names a tenant is answered: what its tenant's pipeline alone answers.
use Rattle.std.proofs.Common.{◌≡◌, ◌≢◌, ◌==◌, ◌%◌, ℕ, true, false, List, ◌∷◌, ◌++◌, replicate, Option, Some, refl, ap, sym, ◌∙◌, arith, inl, inr}
use Rattle.std.specs.Option.{is_some}
use Rattle.std.proofs.lemmas.Bool.{ne_eqb}
use Rattle.std.proofs.lemmas.Bool.Decides.{nat_tests}
use Rattle.std.specs.Cmp.{IsEquivalence, on_equiv}
use Rattle.std.specs.Cmp.Lexicographic.{nat_list_eq_equiv, lists_equiv}
use Rattle.otlp_parts.specs.Texts.{invalid_in}
use Rattle.tail_settings.specs.Policy.{PolicyData}
use Rattle.tail_settings.specs.Section.{SectionData}
use Rattle.tail_settings.specs.Settings.{SettingsData, section_at}
use Rattle.tenant_rules.specs.declared.reply.Reply.{Reply}
use Rattle.tenant_rules.specs.declared.reply.StepReply.{StepReply}
use Rattle.tenant_rules.specs.declared.reply.StepReply.TheVariants as replies
use Rattle.tenant_rules.specs.Arrivals.{Arrival}
use Rattle.tenant_rules.specs.Own.{Own, clock, drained}
use Rattle.tenant_rules.specs.Own as own
use Rattle.tenant_rules.specs.Intake.{verdict, intake}
use Rattle.tenant_rules.specs.Answers.{answer, reply_of}
use Rattle.otlp_prepare.specs.Arrivals.{arrivals_of}
use Rattle.prepared_body.specs.Equal.{policy_parts, policy_eq, same_policies}
use Rattle.tenant_pipeline.specs.Prepared.{invalid_arrival}
use Rattle.tenant_shard.specs.declared.step.Outcome.{Outcome}
use Rattle.tenant_shard.specs.Outcomes.{OwnStep, is_taken, Answered, named}
use Rattle.tenant_shard.specs.Run.{IsTakenOrNot, IsAnswered}
use Rattle.trace_collector.specs.Outcomes.{name_at, outcome_text, told_text}
use Rattle.trace_collector.specs.Answered.{section_in, recorded, IsStep, IsSteppedFor, posted}
use Rattle.trace_collector.specs.Law.{ValuesAreTaken}

policies_equiv : IsEquivalence policy_eq
policies_equiv = on_equiv policy_parts (lists_equiv (lists_equiv nat_list_eq_equiv))

pub own_policies : (policies : List PolicyData) → same_policies policies policies ≡ true
own_policies policies = (lists_equiv policies_equiv).refl policies

own_section : (settings : SettingsData) (tenant : ℕ) (section : SectionData) → section_at settings tenant ≡ Some section → section_in settings (tenant % settings.global.shards) tenant ≡ Some section
own_section settings tenant section is =
    let test : (tenant % settings.global.shards == tenant % settings.global.shards) ≡ true = grind (arith, nat_tests) in
    rw test is

-- the outcome of a step that reaches the pipeline
pub piped_told : (tenant : ℕ) (section : SectionData) (found : Option SectionData) (past : List Own) (step : OwnStep) (o : Outcome) → found ≡ Some section → is_taken section step ≡ true
    → IsAnswered tenant found past true step o → o ≡ named tenant (Answered (answer section past step.step))
piped_told tenant section found past step o is taken answered =
    let reached : IsTakenOrNot (is_taken section step) tenant section past true step.step o = rw is at answered in
    let told : IsTakenOrNot true tenant section past true step.step o = rw taken at reached in
    told

pub joins : (section : SectionData) (found : Option SectionData) (past : List Own) (step : OwnStep) → found ≡ Some section → is_taken section step ≡ true
    → recorded found step past ≡ step.step ∷ past
joins section found past step is taken = rw (is, taken) refl

-- an outcome's line
pub named_text : (settings : SettingsData) (shard number : ℕ) (said : StepReply) → outcome_text settings shard (named number (Answered said)) ≡ told_text (name_at settings number) said
named_text settings shard number (replies.Reply reply) = refl
named_text settings shard number (replies.Job ticket payload) = refl
named_text settings shard number replies.Worked = refl
named_text settings shard number replies.Done = refl
named_text settings shard number (replies.Report report) = refl
named_text settings shard number replies.UnknownTicket = refl
named_text settings shard number replies.NotEmpty = refl

-- the outcome of a step that names a member
pub stepped_outcome : (settings : SettingsData) (pasts later : ℕ → List Own) (tenant : ℕ) (section : SectionData) (step : OwnStep) (outcome : Outcome) (line : Option (List ℕ))
    → section_at settings tenant ≡ Some section → is_taken section step ≡ true → IsStep settings pasts (tenant % settings.global.shards) (Some tenant) step outcome line later
    → outcome ≡ named tenant (Answered (answer section (pasts tenant) step.step))
stepped_outcome settings pasts later tenant section step outcome line is taken stepped =
    piped_told tenant section _ (pasts tenant) step outcome (own_section settings tenant section is) taken stepped.0

pub stepped_told : (settings : SettingsData) (pasts later : ℕ → List Own) (tenant : ℕ) (section : SectionData) (step : OwnStep) (line : Option (List ℕ)) → section_at settings tenant ≡ Some section
    → is_taken section step ≡ true → IsSteppedFor settings pasts tenant step line later
    → (line ≡ Some (told_text (name_at settings tenant) (answer section (pasts tenant) step.step))) × (later tenant ≡ step.step ∷ pasts tenant)
stepped_told settings pasts later tenant section step line is taken stepped =
    let found = own_section settings tenant section is in
    let test : (tenant == tenant) ≡ true = grind (arith, nat_tests) in (
      stepped.1.1 ∙ ap (λ o. Some (outcome_text settings (tenant % settings.global.shards) o)) (piped_told tenant section _ (pasts tenant) step stepped.0 found taken stepped.1.0)
          ∙ ap (λ l. Some l) (named_text settings (tenant % settings.global.shards) tenant (answer section (pasts tenant) step.step)),
      ap (λ pasts'. pasts' tenant) stepped.1.2 ∙ rw test (joins section _ (pasts tenant) step found taken),
    )

-- it leaves the others' pasts
pub stepped_others : (settings : SettingsData) (pasts later : ℕ → List Own) (tenant : ℕ) (step : OwnStep) (line : Option (List ℕ)) (other : ℕ) → other ≢ tenant
    → IsSteppedFor settings pasts tenant step line later → later other ≡ pasts other
stepped_others settings pasts later tenant step line other apart stepped =
    let is_not : (tenant == other) ≡ false = ne_eqb tenant other (λ e. apart (sym e)) in
    ap (λ f. f other) stepped.1.2 ∙ rw is_not refl

post_reply : (section : SectionData) (past : List Own) (moment : ℕ) (arrivals : List Arrival)
    → (reply : Reply) × (answer section past (own.Post moment arrivals) ≡ replies.Reply reply)
unfolding answer
post_reply section past moment arrivals =
    (reply_of (verdict section (is_some (drained past)) (clock (own.Post moment arrivals ∷ past)) arrivals (intake section past)), refl)

pub values_are_taken : ValuesAreTaken
values_are_taken settings pasts later tenant name moment body line (inl h) =
    let told = stepped_told settings pasts later tenant h.0 (posted moment tenant h.0 h.1) line h.2 (own_policies h.0.tail_sampling.policies) h.4 in
    let reply = post_reply h.0 (pasts tenant) moment (arrivals_of h.1 ++ replicate (invalid_in h.1) invalid_arrival) in
    inl (h.0, h.1, h.2, h.3, reply.0, reply.1, told.0 ∙ ap (λ said. Some (told_text (name_at settings tenant) said)) reply.1, told.1)
values_are_taken settings pasts later tenant name moment body line (inr h) = inr h
