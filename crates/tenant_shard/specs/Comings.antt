-- Who may come into a shard. This project's own rule.
use Rattle.std.specs.Prelude.{◌≡◌, ℕ, Bool, true, false, List, [], ◌∷◌, Some, None, ◌==◌}
use Rattle.tail_settings.specs.declared.section.Section.{Section}
use Rattle.tail_settings.specs.Section.{section_view}
use Rattle.tenant_rules.specs.State.{state}
use Rattle.tenant_shard.specs.declared.step.Step.{Step}
use Rattle.tenant_shard.specs.declared.step.Step.TheVariants as steps
use Rattle.tenant_shard.specs.declared.step.Outcome.{Outcome}
use Rattle.tenant_shard.specs.declared.step.Outcome.TheVariants.{Done, Refused}
use Rattle.tenant_shard.specs.View.{View, kept_of, was_of}
use Rattle.tenant_shard.specs.Outcomes.{number_used}
use Rattle.tenant_shard.specs.Chain.{ShardDoes, ShardRuns}

-- whether a step lets the tenant come
abbrev pub adds : ℕ → Step → Bool
adds tenant (steps.Post now prepared) = false
adds tenant (steps.Turn now) = false
adds tenant (steps.Answer other now ticket word answer) = false
adds tenant (steps.Report other now) = false
adds tenant (steps.Drain other now) = false
adds tenant (steps.Add other section) = other == tenant
adds tenant (steps.Retire other now) = false

-- each time the tenant comes it is refused, since its number was used
abbrev pub IsNeverLetIn : ℕ → List Step → List Outcome → Type 0
IsNeverLetIn tenant [] outcomes = Unit
IsNeverLetIn tenant (step ∷ steps) [] = Unit
IsNeverLetIn tenant (step ∷ steps) (outcome ∷ outcomes) =
    (adds tenant step ≡ true → outcome ≡ Refused tenant number_used) × IsNeverLetIn tenant steps outcomes

-- a number that is or was a member's is never used again: it is not let in in any run, and is no member after it where
-- it was none before
abbrev pub NeverAgain : Type 0
NeverAgain = (steps : List Step) (old : List View) (outcomes : List Outcome) (new : List View)
    → ShardRuns steps old outcomes new → (tenant : ℕ) → was_of tenant old ≡ true
    → IsNeverLetIn tenant steps outcomes × (kept_of tenant old ≡ None → kept_of tenant new ≡ None)

-- who never was a member and comes is let in with its section, whatever else is in the shard
abbrev pub AlwaysWelcome : Type 0
AlwaysWelcome = (tenant : ℕ) (section : Section) (old : List View) (outcome : Outcome) (new : List View)
    → ShardDoes (steps.Add tenant section) old outcome new → was_of tenant old ≡ false
    → (outcome ≡ Done tenant) × (kept_of tenant new ≡ Some (state (section_view section) []))
