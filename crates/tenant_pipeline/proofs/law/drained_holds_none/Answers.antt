use Rattle.tenant_pipeline.proofs.AfterDrain.{drained_holds_none}
use Rattle.tenant_pipeline.proofs.law.drained_holds_none.Goals as goal

pub returns : goal.returns
returns c = drained_holds_none
