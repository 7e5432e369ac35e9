use Rattle.std.proofs.Common.{◌∙◌, refl, sym, subst}
use Rattle.tenant_pipeline.specs.declared.pipeline.Pipeline.{Pipeline}
use Rattle.tenant_pipeline.specs.Invariant.{PipelineInvariant}
use Rattle.tenant_pipeline.specs.StateIn.{part_in}
use Rattle.tenant_shard.specs.Members.{views}
use Rattle.tenant_shard.proofs.Frame.{held_at, kept_gap, kept_place}
use Rattle.tenant_shard.proofs.Gones.{kept_behind}
use Rattle.tenant_shard.proofs.shard.Shard.usage.Goals as goal

pub returns-in-Ok : goal.returns-in-Ok
returns-in-Ok c =
    let stores = c.self.inside.stores in
    let ms = c.self.inside.members.items in
    let own = c.index.result.now in
    let place = rw c.deref.ensures.value at c.in-Ok.ensures.found in
    let kept = kept_behind c.args.tenant (views stores ms) c.self.inside.gone.items ∙ kept_place c.args.tenant stores ms c.in-Ok.i own place.1 c.index.ensures in
    let held = subst (λ (m : Pipeline). PipelineInvariant m stores) (sym c.index.ensures) (held_at c.args.tenant stores ms c.in-Ok.i own place.1 c.self.invariant.whole.held) in
    rw (← c.self.view_is) (rw kept (c.usage.ensures (part_in own stores) held))

pub returns-in-Err : goal.returns-in-Err
returns-in-Err c =
    let stores = c.self.inside.stores in
    let ms = c.self.inside.members.items in
    let gap = rw c.deref.ensures.value at c.in-Err.ensures.absent in
    let none = kept_behind c.args.tenant (views stores ms) c.self.inside.gone.items ∙ kept_gap c.args.tenant stores ms c.in-Err.field-0 c.self.invariant.whole.order gap.1 in
    rw (← c.self.view_is) (rw (none, c.none.ensures) refl)
