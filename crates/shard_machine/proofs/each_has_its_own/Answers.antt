use Rattle.shard_machine.proofs.Words.{own_words}
use Rattle.shard_machine.proofs.each_has_its_own.Goals as goal

pub returns : goal.returns
returns c = own_words
