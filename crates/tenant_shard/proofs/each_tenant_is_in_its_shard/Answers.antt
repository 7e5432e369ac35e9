use Rattle.tenant_shard.proofs.Tenants.{in_its_shard}
use Rattle.tenant_shard.proofs.each_tenant_is_in_its_shard.Goals as goal

pub returns : goal.returns
returns c = in_its_shard
