-- A shard whose tenants draw their words from generators of their own, as a state machine: what a call asks for, and
-- which steps lead from one state to another. This project's own rule.
use Rattle.std.specs.Prelude.{◌≡◌, ◌≢◌, ℕ, Bool, true, false, List, Option, Some, None, option_map, is_some}
use Rattle.rand_pcg.specs.Lcg.{Lcg}
use Rattle.tail_settings.specs.Section.{SectionData}
use Rattle.tail_settings.specs.Settings.{SettingsData}
use Rattle.shard_machine.specs.Jitter.{start, TenantGenerator, generator_of, IsDraw, IsSeeded, IsRemoved}
use Rattle.tenant_shard.specs.declared.step.Step.{Step}
use Rattle.tenant_shard.specs.declared.step.Step.TheVariants as steps
use Rattle.tenant_shard.specs.declared.step.Outcome.{Outcome}
use Rattle.tenant_shard.specs.declared.step.Outcome.TheVariants.{Done, Refused}
use Rattle.tenant_shard.specs.View.{View, kept_of}
use Rattle.tenant_shard.specs.Outcomes.{not_member, reports}
use Rattle.tenant_shard.specs.Chain.{ShardDoes}
use Rattle.tenant_shard.specs.Table.{section_of}
use Rattle.shard_machine.specs.declared.step.Call.{Call}
use Rattle.shard_machine.specs.declared.step.Call.TheVariants as calls
use Rattle.shard_machine.specs.declared.step.WordSource.{WordSource}
use Rattle.shard_machine.specs.declared.step.WordSource.TheVariants as word
use Rattle.shard_machine.specs.declared.step.LoggedStep.{LoggedStep}

-- a shard, by what is kept of each member and by the generators of its tenants
pub record MachineState : Type 0 where
  pub views : List View
  pub words : List TenantGenerator

-- a call names a step, but for an answer's word
abbrev pub AsksFor : Call → LoggedStep → Type 0
AsksFor (calls.Step step) made = (made.step ≡ step) × (made.word ≡ word.Caller)
AsksFor (calls.Answer tenant now ticket answer) made =
    (drawn : ℕ) × (made.step ≡ steps.Answer tenant now ticket drawn answer) × (made.word ≢ word.Caller)

-- whether a tenant that comes is let in
abbrev pub lets_in : Outcome → Bool
lets_in (Done tenant) = true
lets_in _ = false

-- a tenant comes: where it was let in it has a generator, at the start of its seed, and had none before
abbrev pub ComesIn : ℕ → ℕ → Bool → List TenantGenerator → List TenantGenerator → Type 0
ComesIn tenant seed true old new = (generator_of tenant old ≡ None) × IsSeeded tenant seed old new
ComesIn tenant seed false old new = new ≡ old

-- a tenant is to go: where it was told its counters, so that it has gone, its generator has gone too
abbrev pub Retires : ℕ → Bool → List TenantGenerator → List TenantGenerator → Type 0
Retires tenant true old new = IsRemoved tenant old new
Retires tenant false old new = new ≡ old

-- generators come and go with their tenants, and no other step changes any
abbrev pub GeneratorsGoOn : Step → Outcome → List TenantGenerator → List TenantGenerator → Type 0
GeneratorsGoOn (steps.Add tenant section) outcome old new = ComesIn tenant section.seed (lets_in outcome) old new
GeneratorsGoOn (steps.Retire tenant now) outcome old new = Retires tenant (reports outcome) old new
GeneratorsGoOn _ outcome old new = new ≡ old

-- a step with the caller's word, if it has one, moves no generator. Else the step is an answer: its word is the next of
-- its tenant's own generator, and no other one moves; or its tenant has no generator, since it is no member, and is
-- refused so
abbrev pub GeneratorsMove : WordSource → Step → Outcome → List TenantGenerator → List TenantGenerator → Type 0
GeneratorsMove word.Caller step outcome old new = GeneratorsGoOn step outcome old new
GeneratorsMove word.Generator (steps.Answer tenant now ticket drawn answer) outcome old new =
    IsDraw tenant old (Some drawn) new
GeneratorsMove word.Nobody (steps.Answer tenant now ticket drawn answer) outcome old new =
    (drawn ≡ 0) × (generator_of tenant old ≡ None) × (new ≡ old) × (outcome ≡ Refused tenant not_member)
GeneratorsMove _ _ outcome old new = ⊥

-- a step was done
pub record MachineDoes (old : MachineState) (made : LoggedStep) (outcome : Outcome) (new : MachineState) : Type 0 where
  pub shard : ShardDoes made.step old.views outcome new.views
  pub words : GeneratorsMove made.word made.step outcome old.words new.words

-- just the members have generators
abbrev pub AreMembers : List TenantGenerator → List View → Type 0
AreMembers words views = (tenant : ℕ) → is_some (generator_of tenant words) ≡ is_some (kept_of tenant views)

-- a generator at the start that a section gives, where there is one
abbrev pub started : Option SectionData → Option Lcg
started section = option_map (λ s. start s.seed) section

-- each member of the table has a generator, at the start of its own seed, and nobody else has one
abbrev pub AreSeeded : SettingsData → List ℕ → List TenantGenerator → Type 0
AreSeeded settings members words = (tenant : ℕ) →
    generator_of tenant words ≡ started (section_of settings members tenant)
