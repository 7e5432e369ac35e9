use Rattle.tenant_stores.proofs.Rooms.{room_is_made}
use Rattle.tenant_stores.proofs.law.room_is_made.Goals as goal

pub returns : goal.returns
returns g c = room_is_made g.row.N.Denot
