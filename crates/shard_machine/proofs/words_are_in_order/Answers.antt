use Rattle.shard_machine.proofs.Runs.{words_in_order}
use Rattle.shard_machine.proofs.words_are_in_order.Goals as goal

pub returns : goal.returns
returns c = words_in_order
