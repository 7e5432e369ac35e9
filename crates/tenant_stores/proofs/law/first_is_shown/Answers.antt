use Rattle.tenant_stores.proofs.Rooms.{first_is_shown}
use Rattle.tenant_stores.proofs.law.first_is_shown.Goals as goal

pub returns : goal.returns
returns g c = first_is_shown g.row.N.Denot
