-- The members of a shard, by the settings and a list of numbers, and which numbers stand in which shard's. This
-- project's own rule.
use Rattle.std.specs.Prelude.{◌≡◌, ℕ, ◌%◌, ◌==◌, ◌∷◌, ◌++◌, List, [], map, filter, Option, None, if◌then◌else◌}
use Rattle.std.specs.List.{list_any}
use Rattle.tail_settings.specs.Section.{SectionData}
use Rattle.tail_settings.specs.Settings.{SettingsData, section_at}
use Rattle.tenant_shard.specs.Lives.{new_life, Lives, ShardStands}
use Rattle.tenant_shard.specs.View.{View}

-- a member is a tenant number of the table that stands in the list
abbrev pub section_of : SettingsData → List ℕ → ℕ → Option SectionData
section_of settings members tenant =
    if list_any (λ member. member == tenant) members then section_at settings tenant else None

-- a shard that was opened stands for no steps, and no other number was used than the members'
abbrev pub opened : SettingsData → List ℕ → Lives
opened settings members tenant = new_life (section_of settings members tenant)

-- a shard that was opened with some members, whichever these were, is opened with one more
abbrev pub OpensOneMore : SettingsData → ℕ → (old new : List View) → Type 0
OpensOneMore settings tenant old new = (earlier : List ℕ) → ShardStands (opened settings earlier) old
    → ShardStands (opened settings (earlier ++ tenant ∷ [])) new

-- in which of so many shards a tenant is: in that whose number its own leaves over
abbrev pub shard_of : ℕ → ℕ → ℕ
shard_of shards tenant = tenant % shards

-- the numbers of a shard's tenants
abbrev pub members_of : SettingsData → ℕ → List ℕ
members_of table shard =
    filter (λ number. shard_of table.global.shards number == shard) (map (λ tenant. tenant.number) table.tenants)

-- each tenant of the table is in one shard, with its own section. Nobody else is in any
abbrev pub EachInItsShard : Type 0
EachInItsShard = (table : SettingsData) (shard tenant : ℕ) →
    section_of table (members_of table shard) tenant
    ≡ (if shard_of table.global.shards tenant == shard then section_at table tenant else None)
