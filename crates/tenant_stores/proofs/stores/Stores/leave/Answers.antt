use Rattle.std.proofs.Common.{refl}
use Rattle.tenant_stores.proofs.Parts.{part_by}
use Rattle.tenant_stores.proofs.stores.Stores.leave.Goals as goal

pub returns-clause-others_unchanged : goal.returns-clause-others_unchanged
returns-clause-others_unchanged g c = λ other ne. part_by _ _ _ _ _ _ _ _ (c.take.ensures.others_unchanged other ne) (c.release_all.ensures.others_unchanged other ne) refl refl
