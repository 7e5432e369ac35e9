use Rattle.std.proofs.Common.{◌≡◌, ◌≤◌, length, take, vec_len}
use Rattle.std.specs.Prelude.{vec_capacity}
use Rattle.tenant_shard.specs.Chain.{ShardRuns}
use Rattle.tenant_shard.specs.Whole.{AllCounted, AllWithin}
use Rattle.tenant_shard.proofs.shard.Shard.run.Given as goal

abbrev pub invariant-loop-step : goal.invariant-loop-step
invariant-loop-step l = record {
  runs : ShardRuns (take l.step-index l.steps) l.fn.self l.outcomes.items l.self;
  count : vec_len l.outcomes ≡ l.step-index;
  room : length l.steps ≤ vec_capacity l.outcomes;
  counted : AllCounted l.self;
  within : AllWithin l.self;
}
