-- What a tenant and its shard wait for, and how full the tenant is. This project's own rule.
use Rattle.std.specs.Prelude.{◌≡◌, ℕ, Bool, true, false, List, Option, Some, None}
use Rattle.shard_agenda.specs.Pick.{IsNext}
use Rattle.tail_settings.specs.Section.{SectionData}
use Rattle.tenant_rules.specs.Own.{Own}
use Rattle.tenant_rules.specs.State.{State, state}
use Rattle.tenant_pipeline.specs.declared.usage.Usage.{Usage}
use Rattle.tenant_pipeline.specs.Present.{usage_of, no_usage}
use Rattle.tenant_shard.specs.declared.waiting.Waiting.{Waiting}
use Rattle.tenant_shard.specs.View.{View, kept_of}
use Rattle.tenant_shard.specs.Empty.{is_empty}
use Rattle.tenant_shard.specs.Lives.{Lives, ShardStands}
use Rattle.tenant_shard.specs.Pick.{ready_in, ready_at}

-- how full a tenant is, and how full it may be, by what is kept of it; that of nobody where it is no member
abbrev pub usage_in : Option State → Usage
usage_in None = no_usage
usage_in (Some kept) = usage_of kept

-- whether the tenant holds no spans, how full it is, when it is ready next, and when the first of all members is, by
-- what is kept
pub record IsWaiting (views : List View) (tenant : ℕ) (waiting : Waiting) : Type 0 where
  pub emptiness : waiting.is_empty ≡ is_empty (kept_of tenant views)
  pub usage_is : waiting.usage ≡ usage_in (kept_of tenant views)
  pub tenant_is_ready : waiting.tenant_ready ≡ ready_in views tenant
  pub shard_is_ready : IsNext (ready_in views) waiting.shard_ready

-- how full a tenant is by its own steps, or by what is kept of it where these are not known
abbrev pub usage_after : Option SectionData → List Own → Bool → Usage → Usage
usage_after None past known seen = no_usage
usage_after (Some section) past true seen = usage_of (state section past)
usage_after (Some section) past false seen = seen

-- the same by its life
abbrev pub usage_at : Lives → List View → ℕ → Usage
usage_at lives views tenant =
    usage_after (lives tenant).section (lives tenant).past (lives tenant).known (usage_in (kept_of tenant views))

-- whatever lives a shard stands for, the usage and the moments are those that these say
pub record IsToldByLives (lives : Lives) (views : List View) (tenant : ℕ) (waiting : Waiting) : Type 0 where
  pub usage_is : waiting.usage ≡ usage_at lives views tenant
  pub tenant_is_ready : waiting.tenant_ready ≡ ready_at lives views tenant
  pub shard_is_ready : IsNext (ready_at lives views) waiting.shard_ready

-- of each that is told
abbrev pub LivesTellWhatWaits : Type 0
LivesTellWhatWaits = (lives : Lives) (views : List View) (tenant : ℕ) (waiting : Waiting) → ShardStands lives views
    → IsWaiting views tenant waiting → IsToldByLives lives views tenant waiting
