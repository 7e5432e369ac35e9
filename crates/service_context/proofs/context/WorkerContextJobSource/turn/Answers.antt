use Rattle.std.proofs.Common.{refl}
use Rattle.service_context.specs.Work.{made, refused}
use Rattle.service_context.proofs.context.WorkerContextJobSource.turn.Goals as goal

pub returns-in-Idle : goal.returns-in-Idle
returns-in-Idle g c =
    let turned = made c.in-Ok.outcome c.in-Ok._receipt c.in-Ok.ensures.call c.turn_result-turned.ensures in
    (c.note_due.ensures.shard, rw c.note_due.ensures.caller turned)

pub returns-in_default : goal.returns-in_default
returns-in_default g c = (refl, made c.in-Ok.outcome c.in-Ok._receipt c.in-Ok.ensures.call c.turn_result-turned.ensures)

pub returns-in-Err : goal.returns-in-Err
returns-in-Err g c = (refl, refused c.in-Err.ensures.on_refusal refl)
