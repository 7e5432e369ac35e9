use Rattle.tenant_stores.proofs.Sounds.{empty_sound}
use Rattle.tenant_stores.proofs.stores.Stores.new.Goals as goal

pub returns : goal.returns
returns g c = λ tenant. empty_sound _ (c.new.ensures tenant) (c.new-2.ensures tenant) (c.new-3.ensures.rows tenant) (c.new-3.ensures.latest_rows tenant)
