use Rattle.tenant_shard.proofs.Comers.{never_again}
use Rattle.tenant_shard.proofs.no_number_is_used_again.Goals as goal

pub returns : goal.returns
returns c = never_again
