-- What the log of such a machine is: a run of the shard, in which each tenant's drawn words are the first of its own
-- generator. This project's own rule.
use Rattle.std.specs.Prelude.{◌≡◌, ℕ, List, [], ◌∷◌, map, length, Option, Some, None, if◌then◌else◌, ◌==◌, ◌&&◌}
use Rattle.std.specs.Option.{option_or}
use Rattle.tail_settings.specs.Section.{SectionData, section_view}
use Rattle.rand_pcg.specs.Lcg.{Lcg}
use Rattle.machine_hub.specs.declared.entry.Entry.{Entry}
use Rattle.machine_hub.specs.Runs.{Runs}
use Rattle.shard_machine.specs.Jitter.{first_words, generator_of}
use Rattle.tenant_shard.specs.declared.step.Step.{Step}
use Rattle.tenant_shard.specs.declared.step.Step.TheVariants as steps
use Rattle.tenant_shard.specs.declared.step.Outcome.{Outcome}
use Rattle.tenant_shard.specs.Chain.{ShardRuns}
use Rattle.shard_machine.specs.declared.step.WordSource.{WordSource}
use Rattle.shard_machine.specs.declared.step.WordSource.TheVariants as word
use Rattle.shard_machine.specs.declared.step.LoggedStep.{LoggedStep}
use Rattle.shard_machine.specs.MachineState.{MachineState, MachineDoes, lets_in, started}

-- an entry of the log
abbrev pub Logged : Type 0
Logged = Entry LoggedStep Outcome

-- the steps of a log, as the shard did them
abbrev pub steps_of : List Logged → List Step
steps_of es = map (λ e. e.step.step) es

-- their outcomes
abbrev pub outcomes_of : List Logged → List Outcome
outcomes_of es = map (λ e. e.outcome) es

-- the tenant's word before those that follow, where it was drawn from its generator
abbrev pub with_word : ℕ → WordSource → Step → List ℕ → List ℕ
with_word tenant word.Generator (steps.Answer other now ticket drawn answer) rest =
    if other == tenant then drawn ∷ rest else rest
with_word tenant _ _ rest = rest

-- the words that were drawn for a tenant, in their order
abbrev pub drawn_for : ℕ → List Logged → List ℕ
drawn_for tenant [] = []
drawn_for tenant (e ∷ es) = with_word tenant e.step.word e.step.step (drawn_for tenant es)

-- a run of the machine is a run of the shard
abbrev pub RunsAreShardRuns : Type 0
RunsAreShardRuns = (old new : MachineState) (es : List Logged) → Runs MachineDoes old es new →
    ShardRuns (steps_of es) old.views (outcomes_of es) new.views

-- the section with which a step let a tenant in, where it did
abbrev pub came_by : ℕ → Step → Outcome → Option SectionData
came_by tenant (steps.Add other section) outcome =
    if other == tenant && lets_in outcome then Some (section_view section) else None
came_by tenant _ outcome = None

-- the section with which a tenant was let in first, where it was
abbrev pub section_in : ℕ → List Logged → Option SectionData
section_in tenant [] = None
section_in tenant (e ∷ es) = option_or (came_by tenant e.step.step e.outcome) (section_in tenant es)

-- words are the first of this generator; there are none where there is none
abbrev pub AreFirstWords : Option Lcg → List ℕ → Type 0
AreFirstWords None words = words ≡ []
AreFirstWords (Some g) words = words ≡ first_words (length words) g

-- in it the words that were drawn for a tenant are the first of its own generator: of the one that it had before, or,
-- where it had none, of the one that it got when it was let in, which starts from its seed
abbrev pub WordsAreInOrder : Type 0
WordsAreInOrder = (tenant : ℕ) (old new : MachineState) (es : List Logged) → Runs MachineDoes old es new →
    AreFirstWords (option_or (generator_of tenant old.words) (started (section_in tenant es))) (drawn_for tenant es)
