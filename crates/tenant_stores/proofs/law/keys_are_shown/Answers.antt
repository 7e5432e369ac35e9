use Rattle.tenant_stores.proofs.Keys.{keys_are_shown}
use Rattle.tenant_stores.proofs.law.keys_are_shown.Goals as goal

pub returns : goal.returns
returns g c = keys_are_shown g.row.N.Denot
