-- The lives that a shard stands for: who is a member with which section, who was one, and the own steps of each. They
-- are stored nowhere: a contract speaks of all that the shard stands for. This project's own rule.
use Rattle.std.specs.Prelude.{◌≡◌, ℕ, Bool, true, false, List, [], Option, Some, None, is_some}
use Rattle.tail_settings.specs.Section.{SectionData}
use Rattle.tenant_rules.specs.Own.{Own}
use Rattle.tenant_rules.specs.State.{State}
use Rattle.tenant_pipeline.specs.Steps.{StandsFor}
use Rattle.tenant_shard.specs.View.{View, kept_of, was_of}

-- what a run carries of one tenant from step to step
pub record Life : Type 0 where
  pub section : Option SectionData  -- a member's; no other tenant has one
  pub past : List Own  -- a member's own steps so far that reached its pipeline, the newest first
  pub known : Bool  -- whether they tell what is kept of it: not where one of them was refused memory
  pub used : Bool  -- whether it is or was a member

-- a member with this section, or a tenant that never was one, that has had no steps so far
abbrev pub new_life : Option SectionData → Life
new_life section = record { section = section; past = []; known = true; used = is_some section }

-- a tenant that was a member
abbrev pub gone : Life
gone = record { section = None; past = []; known = true; used = true }

-- the life of each tenant
abbrev pub Lives : Type 0
Lives = ℕ → Life

-- what is kept of a member is what its own steps leave, where they are known, and its section at least where they are
-- not; of others nothing is kept
abbrev pub MemberStands : Option SectionData → List Own → Bool → Option State → Type 0
MemberStands None past known None = Unit
MemberStands None past known (Some kept) = ⊥
MemberStands (Some section) past known None = ⊥
MemberStands (Some section) past true (Some kept) = StandsFor section past kept
MemberStands (Some section) past false (Some kept) = kept.section ≡ section

-- that, and whether it is or was a member
abbrev pub LifeStands : Life → Option State → Bool → Type 0
LifeStands life kept was = MemberStands life.section life.past life.known kept × (life.used ≡ was)

-- the shard stands for this life of each tenant
abbrev pub ShardStands : Lives → List View → Type 0
ShardStands lives views = (tenant : ℕ) → LifeStands (lives tenant) (kept_of tenant views) (was_of tenant views)
