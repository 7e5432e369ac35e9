-- What a run has done that stopped because memory was refused. This project's own rule.
use Rattle.std.specs.Prelude.{◌≡◌, ◌⊎◌, ℕ, List, [], take, length, Option, Some, None, slice_get}
use Rattle.tenant_shard.specs.declared.step.Step.{Step}
use Rattle.tenant_shard.specs.declared.step.Outcome.{Outcome}
use Rattle.tenant_shard.specs.View.{View}
use Rattle.tenant_shard.specs.Lives.{Lives, ShardStands}
use Rattle.tenant_shard.specs.Run.{after_all}
use Rattle.tenant_shard.specs.Chain.{ShardRuns, RunsByOwnSteps}
use Rattle.tenant_shard.specs.Alone.{EachAlone}
use Rattle.tenant_shard.specs.Refusal.{IsRefused, IsNewcomer, without}

-- the next step is that of a new tenant
abbrev pub IsNewcomersNext : Option Step → List View → Type 0
IsNewcomersNext None old = ⊥
IsNewcomersNext (Some step) old = (tenant : ℕ) × IsNewcomer tenant step old

-- what was refused: room for the outcomes, before the first step, or a new tenant, and nothing has changed; or a step
-- of this member's
abbrev pub WasRefused : Option ℕ → Option Step → List Outcome → List View → List View → Type 0
WasRefused None next outcomes old new = ((outcomes ≡ []) ⊎ IsNewcomersNext next old) × (new ≡ old)
WasRefused (Some tenant) None outcomes old new = ⊥
WasRefused (Some tenant) (Some step) outcomes old new = IsRefused tenant step old new

-- the lives without what is known of a tenant, if there is one
abbrev pub without_any : Option ℕ → Lives → Lives
without_any None lives = lives
without_any (Some tenant) lives = without tenant lives

-- the outcomes are a run of the steps before the refused one, from what was kept before to what that step left changed,
-- and the shard stands for the lives after it, but for the refused step's member
pub record IsStopped (steps : List Step) (old : List View) (outcomes : List Outcome) (new : List View) : Type 0 where
  pub middle : List View
  pub runs : ShardRuns (take (length outcomes) steps) old outcomes middle
  pub by_own_steps : RunsByOwnSteps (take (length outcomes) steps) old outcomes
  pub each_alone : EachAlone (take (length outcomes) steps) old outcomes
  pub whose : Option ℕ
  pub refused : WasRefused whose (slice_get steps (length outcomes)) outcomes middle new
  pub stands : (lives : Lives) → ShardStands lives old →
      ShardStands (without_any whose (after_all (take (length outcomes) steps) outcomes lives)) new
