-- A run: one chain of what is kept, each step from what the one before it left. All that is promised of a run follows
-- from the chain. This project's own rule.
use Rattle.std.specs.Prelude.{◌≡◌, ℕ, List, [], ◌∷◌}
use Rattle.tenant_shard.specs.declared.step.Step.{Step}
use Rattle.tenant_shard.specs.declared.step.Outcome.{Outcome}
use Rattle.tenant_shard.specs.View.{View, StaysOf}
use Rattle.tenant_shard.specs.Lives.{Lives, ShardStands}
use Rattle.tenant_shard.specs.Run.{AllKnown, Run, ShardSteps, after_all}
use Rattle.tenant_shard.specs.Follows.{ShardFollows}

-- the steps are done one after the other, each as `Does` says, from what the one before it left
abbrev pub Chain : (Step → List View → Outcome → List View → Type 0)
    → List Step → List View → List Outcome → List View → Type 0
Chain Does [] old [] new = new ≡ old
Chain Does (step ∷ steps) old (outcome ∷ outcomes) new =
    (middle : List View) × Does step old outcome middle × Chain Does steps middle outcomes new
Chain Does [] old (outcome ∷ outcomes) new = ⊥
Chain Does (step ∷ steps) old [] new = ⊥

-- a step was done: as the lives say that the shard stands for, and, whether or not own steps are known, by what was
-- kept before it
pub record ShardDoes (step : Step) (old : List View) (outcome : Outcome) (new : List View) : Type 0 where
  pub by_own_steps : ShardSteps step old outcome new
  pub from_state : ShardFollows step old outcome new

-- the shard did these steps
abbrev pub ShardRuns : List Step → List View → List Outcome → List View → Type 0
ShardRuns = Chain ShardDoes

-- where every member's own steps are known, the outcomes are those that these say: what is kept doesn't count
abbrev pub RunsByOwnSteps : List Step → List View → List Outcome → Type 0
RunsByOwnSteps steps old outcomes =
    (lives : Lives) → ShardStands lives old → AllKnown lives → Run lives steps outcomes

-- whatever lives the shard stood for, it stands for them with the steps of the run
abbrev pub StandsAfter : List Step → List View → List Outcome → List View → Type 0
StandsAfter steps old outcomes new =
    (lives : Lives) → ShardStands lives old → ShardStands (after_all steps outcomes lives) new

-- the same is kept of every tenant, and the same numbers are used
abbrev pub KeepSame : List View → List View → Type 0
KeepSame views views' = (tenant : ℕ) → StaysOf tenant views views'

-- what is kept before a run decides its outcomes and what is kept after it: whose turn each one is, and what each
-- tenant is told, also a member whose own steps are not known
abbrev pub KeptDecides : Type 0
KeptDecides = (steps : List Step) (old old' : List View) (outcomes outcomes' : List Outcome) (new new' : List View)
    → KeepSame old old' → Chain ShardFollows steps old outcomes new → Chain ShardFollows steps old' outcomes' new'
    → (outcomes' ≡ outcomes) × KeepSame new new'
