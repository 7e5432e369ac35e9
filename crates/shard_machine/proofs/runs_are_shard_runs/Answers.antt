use Rattle.shard_machine.proofs.Runs.{shard_runs}
use Rattle.shard_machine.proofs.runs_are_shard_runs.Goals as goal

pub returns : goal.returns
returns c = shard_runs
