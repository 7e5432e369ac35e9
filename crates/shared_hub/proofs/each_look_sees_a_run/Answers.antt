use Rattle.shared_hub.proofs.Closing.{sees_a_run}
use Rattle.shared_hub.proofs.each_look_sees_a_run.Goals as goal

pub returns : goal.returns
returns c = sees_a_run c.runs_are_shard_runs.ensures c.words_are_in_order.ensures
