-- The own steps that a session's shards stand for. This project's own rule.
use Rattle.std.specs.Prelude.{◌≡◌, ℕ, List, ◌++◌, ◌%◌, Option, Some, length, nat_lt, slice_get, slice_set}
use Rattle.std.specs.Option.{is_some}
use Rattle.tail_settings.specs.declared.section.Section.{Section}
use Rattle.tail_settings.specs.Section.{section_view}
use Rattle.tail_settings.specs.Settings.{SettingsData, settings_view, section_at}
use Rattle.tenant_rules.specs.Own.{Own}
use Rattle.tenant_shard.specs.View.{View}
use Rattle.tenant_shard.specs.declared.step.Step.{Step}
use Rattle.tenant_shard.specs.declared.step.Step.TheVariants as steps
use Rattle.tenant_shard.specs.declared.step.Outcome.{Outcome}
use Rattle.tenant_shard.specs.Lives.{ShardStands}
use Rattle.tenant_shard.specs.Run.{ShardSteps}
use Rattle.replay_script.specs.Command.{CommandData}
use Rattle.replay_script.specs.Answer.{added_text}
use Rattle.trace_collector.specs.declared.shards.Shards.{Shards}
use Rattle.trace_collector.specs.Outcomes.{outcome_text, name_at}
use Rattle.trace_collector.specs.Answered.{lives_of, IsAnswered}
use Rattle.trace_collector.specs.Session.{Session}

-- each number that was given has its tenant: none has left
abbrev pub AllPresent : SettingsData → Type 0
AllPresent settings = (number : ℕ) → is_some (section_at settings number) ≡ nat_lt number settings.next

-- there are as many shards as the settings have, each standing for the own steps of its members
pub record AllStand (settings : SettingsData) (shards : List (List View)) (pasts : ℕ → List Own) : Type 0 where
  pub count : length shards ≡ settings.global.shards
  pub each : (shard : ℕ) (kept : List View) → slice_get shards shard ≡ Some kept
      → ShardStands (lives_of settings pasts shard) kept

-- the shards have these settings, and stand for these own steps
pub record StandFor (shards : Shards) (session : Session) : Type 0 where
  pub table : settings_view shards.settings ≡ session.table
  pub stand : AllStand session.table shards.shards.items session.pasts

-- whatever own steps the shards stand for, the command is answered by them, and the shards stand for those afterwards,
-- with the settings as they are then
pub record Answers (old : Shards) (command : CommandData) (line : Option (List ℕ)) (new : Shards) : Type 0 where
  pub answers : (session : Session) → StandFor old session
      → (later : Session) × IsAnswered session command line later × StandFor new later

-- a step of a shard was done, and its line appended
pub record IsDone (settings : SettingsData) (shard : ℕ) (step : Step) (old new : List (List View))
    (before behind : List ℕ) : Type 0 where
  pub outcome : Outcome
  pub kept : List View
  pub left : List View
  pub was : slice_get old shard ≡ Some kept
  pub steps : ShardSteps step kept outcome left
  pub is_now : new ≡ slice_set old shard left
  pub text : behind ≡ before ++ outcome_text settings shard outcome

-- a tenant of these settings joined its shard, and its line was appended
pub record Joins (settings : SettingsData) (tenant : ℕ) (old new : List (List View)) (before behind : List ℕ)
    : Type 0 where
  pub section : Section
  pub outcome : Outcome
  pub kept : List View
  pub left : List View
  pub own : section_at settings tenant ≡ Some (section_view section)
  pub was : slice_get old (tenant % settings.global.shards) ≡ Some kept
  pub steps : ShardSteps (steps.Add tenant section) kept outcome left
  pub is_now : new ≡ slice_set old (tenant % settings.global.shards) left
  pub text : behind ≡ before ++ added_text (name_at settings tenant) tenant
