-- When each tenant of a shard is ready. Whom a turn goes to then is `IsPick` of shard_agenda. This project's own rule.
use Rattle.std.specs.Prelude.{ℕ, Bool, true, false, List, Option, Some, None, option_and_then}
use Rattle.tail_settings.specs.Section.{SectionData}
use Rattle.tenant_rules.specs.Own.{Own}
use Rattle.tenant_rules.specs.State.{state}
use Rattle.tenant_rules.specs.Ready.{ready}
use Rattle.tenant_shard.specs.View.{View, kept_of}
use Rattle.tenant_shard.specs.Lives.{Life, Lives}

-- when a tenant is next ready, by what is kept of it; never where it is no member
abbrev pub ready_in : List View → ℕ → Option ℕ
ready_in views tenant = option_and_then ready (kept_of tenant views)

-- the same by its own steps, or by what is kept of it where these are not known
abbrev pub ready_after : Option SectionData → List Own → Bool → Option ℕ → Option ℕ
ready_after None past known seen = None
ready_after (Some section) past true seen = ready (state section past)
ready_after (Some section) past false seen = seen

-- the same by its life
abbrev pub ready_by : Life → Option ℕ → Option ℕ
ready_by life seen = ready_after life.section life.past life.known seen

-- the same of each tenant
abbrev pub ready_at : Lives → List View → ℕ → Option ℕ
ready_at lives views tenant = ready_by (lives tenant) (ready_in views tenant)
