use Rattle.std.proofs.Common.{◌∙◌, refl}
use Rattle.tenant_shard.specs.Members.{views}
use Rattle.tenant_shard.proofs.Frame.{kept_gap, kept_place}
use Rattle.tenant_shard.proofs.Gones.{kept_behind}
use Rattle.tenant_shard.proofs.shard.Shard.is_empty.Goals as goal

pub returns-in-Ok : goal.returns-in-Ok
returns-in-Ok c =
    let stores = c.self.inside.stores in
    let ms = c.self.inside.members.items in
    let place = rw c.deref.ensures.value at c.in-Ok.ensures.found in
    let kept = kept_behind c.args.tenant (views stores ms) c.self.inside.gone.items ∙ kept_place c.args.tenant stores ms c.in-Ok.i c.index.result.now place.1 c.index.ensures in
    rw (← c.self.view_is) (rw kept c.is_empty.ensures)

pub returns-in-Err : goal.returns-in-Err
returns-in-Err c =
    let stores = c.self.inside.stores in
    let ms = c.self.inside.members.items in
    let gap = rw c.deref.ensures.value at c.in-Err.ensures.absent in
    let none = kept_behind c.args.tenant (views stores ms) c.self.inside.gone.items ∙ kept_gap c.args.tenant stores ms c.in-Err.field-0 c.self.invariant.whole.order gap.1 in
    rw (← c.self.view_is) (rw none refl)
