-- The shards of a hub before their first steps. This project's own rule.
use Rattle.std.specs.Prelude.{◌≡◌, ℕ, List, map, length, Bool, Some, slice_get}
use Rattle.tail_settings.specs.Settings.{SettingsData}
use Rattle.tenant_shard.specs.Lives.{ShardStands}
use Rattle.tenant_shard.specs.Table.{opened, members_of}
use Rattle.machine_hub.specs.declared.view.Home.{Home}
use Rattle.shard_machine.specs.MachineState.{MachineState, AreSeeded}

-- a shard of these tenants with no steps so far, each with a generator at the start of its own seed
pub record IsFresh (table : SettingsData) (members : List ℕ) (shard : MachineState) : Type 0 where
  pub stands : ShardStands (opened table members) shard.views
  pub words : AreSeeded table members shard.words

-- each shard was that of its tenants at first, in the order of their numbers
pub record AreOpened (table : SettingsData) (homes : List (Home MachineState)) : Type 0 where
  pub count : length homes ≡ table.global.shards
  pub each : (shard : ℕ) (home : Home MachineState) → slice_get homes shard ≡ Some home →
      (home.number ≡ shard) × IsFresh table (members_of table shard) home.start

-- whether the shards' logs keep
abbrev pub kept : List (Home MachineState) → List Bool
kept homes = map (λ home. home.keeps) homes
