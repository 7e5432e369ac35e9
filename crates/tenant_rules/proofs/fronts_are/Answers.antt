use Rattle.tenant_rules.proofs.FrontsAre.{fronts_are}
use Rattle.tenant_rules.proofs.fronts_are.Goals as goal

pub returns : goal.returns
returns c = fronts_are
