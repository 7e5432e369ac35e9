use Rattle.tenant_stores.specs.Part.{part}
use Rattle.tenant_stores.proofs.Seats.{seat_shows}
use Rattle.tenant_stores.proofs.stores.Stores.latest_row.Goals as goal

pub returns-clause-shows : goal.returns-clause-shows
returns-clause-shows g c = λ n pending held sound. seat_shows n pending held (part c.args.tenant c.args.self.now) c.args.trace sound
