use Rattle.tenant_stores.proofs.Rooms.{lengths_are}
use Rattle.tenant_stores.proofs.law.lengths_are.Goals as goal

pub returns : goal.returns
returns g c = lengths_are g.row.N.Denot
