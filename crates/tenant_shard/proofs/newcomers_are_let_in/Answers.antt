use Rattle.tenant_shard.proofs.Comers.{always_welcome}
use Rattle.tenant_shard.proofs.newcomers_are_let_in.Goals as goal

pub returns : goal.returns
returns c = always_welcome
