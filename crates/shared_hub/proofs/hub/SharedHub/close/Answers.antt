use Rattle.shared_hub.proofs.Closing.{are_logged, are_one_run, are_one_history}
use Rattle.shared_hub.proofs.hub.SharedHub.close.Goals as goal

pub returns-in-Ok-clause-logs : goal.returns-in-Ok-clause-logs
returns-in-Ok-clause-logs g c = λ table opens. are_logged c.runs_are_shard_runs.ensures c.words_are_in_order.ensures table c.args.keeper.homes c.args.callers.items c.in-Ok.shards.items c.in-Ok.ensures.runs opens

pub returns-in-Ok-clause-one_run : goal.returns-in-Ok-clause-one_run
returns-in-Ok-clause-one_run g c = λ table opens. are_one_run c.runs_are_shard_runs.ensures c.words_are_in_order.ensures table c.args.keeper.homes c.args.callers.items c.in-Ok.shards.items c.in-Ok.ensures.runs opens

pub returns-in-Ok-clause-one_history : goal.returns-in-Ok-clause-one_history
returns-in-Ok-clause-one_history g c = λ table opens. are_one_history table c.args.keeper.homes c.args.callers.items c.in-Ok.shards.items c.in-Ok.ensures.runs c.in-Ok.ensures.histories opens
