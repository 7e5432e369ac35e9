use Rattle.std.proofs.Common.{◌≡◌, ℕ, List, length, Some}
use Rattle.std.specs.List.{slice_get}
use Rattle.tail_settings.specs.Settings.{settings_view}
use Rattle.tenant_shard.specs.View.{View}
use Rattle.tenant_shard.specs.Lives.{ShardStands}
use Rattle.trace_collector.specs.Answered.{lives_of}
use Rattle.trace_collector.specs.Session.{no_steps}
use Rattle.trace_collector.proofs.shards.Shards.open.Given as goal

abbrev pub invariant-loop-shard : goal.invariant-loop-shard
invariant-loop-shard l = record {
  count : length l.shards.items ≡ l.shard;
  each : (place : ℕ) (kept : List View) → slice_get l.shards.items place ≡ Some kept → ShardStands (lives_of (settings_view l.settings) no_steps place) kept;
}
