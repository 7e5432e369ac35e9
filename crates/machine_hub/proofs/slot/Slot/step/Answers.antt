use Rattle.std.proofs.Common.{◌∙◌}
use Rattle.crossbeam_queue.specs.Passes.{view as known}
use Rattle.machine_hub.proofs.Stepping.{stepped_by, stopped_by, seat_stands, seat_remains, step_of, refusal_of}
use Rattle.machine_hub.proofs.slot.Slot.step.Goals as goal

pub put_stepped-requires-clause-machine : goal.put_stepped-requires-clause-machine
put_stepped-requires-clause-machine g c κs within =
    stepped_by _ _ _ c.args.call (known c.me.inside.pass) _ c.take-machine.result _ _ _ c.take-machine.ensures.1 c.me.invariant.1 c.apply.ensures.same c.in-Ok.ensures.made

pub put_stopped-requires-clause-machine : goal.put_stopped-requires-clause-machine
put_stopped-requires-clause-machine g c κs within =
    stopped_by _ _ _ c.args.call (known c.me.inside.pass) _ c.take-machine.result _ c.take-machine.ensures.1 c.me.invariant.1 c.apply.ensures.same c.in-Err.ensures.on_refusal c.apply.ensures.asked c.in-Err.ensures.lost

pub invariant_of-me : goal.invariant_of-me
invariant_of-me g c =
    let i = c.me.invariant in
    let p = c.put_stepped.ensures in
    let t = c.take-machine.ensures in
    let k = seat_stands _ _ _ c.args.call (known c.me.inside.pass) (known c.take-machine.new.pass) (known c.put_stepped.new.pass) c.take-machine.result c.apply.new.self _ _ t.1 p.1 i.1 i.3 c.in-Ok.ensures.made in
    (p.0.2 ∙ t.0.2 ∙ i.0, k.0, k.1, k.2)

pub returns-in-Ok-clause-made : goal.returns-in-Ok-clause-made
returns-in-Ok-clause-made g c =
    let p = c.put_stepped.ensures in
    let t = c.take-machine.ensures in
    step_of _ _ _ c.args.call c.me.inside.pass.table_id c.put_stepped.new.pass.table_id (known c.me.inside.pass) (known c.take-machine.new.pass) (known c.put_stepped.new.pass) _ c.take-machine.result c.apply.new.self _ _
    c.me.view_is (p.0.0 ∙ t.0.0) c.me.invariant.1 t.1 p.1 c.in-Ok.ensures.made

pub invariant_of-me-in-Err : goal.invariant_of-me-in-Err
invariant_of-me-in-Err g c =
    let i = c.me.invariant in
    let p = c.put_stopped.ensures in
    let t = c.take-machine.ensures in
    let k = seat_remains _ _ _ c.args.call (known c.me.inside.pass) (known c.take-machine.new.pass) (known c.put_stopped.new.pass) c.take-machine.result c.apply.new.self t.1 p.1 i.1 i.3 c.apply.ensures.asked in
    (p.0.2 ∙ t.0.2 ∙ i.0, k.0, k.1, k.2)

pub returns-clause-on_refusal : goal.returns-clause-on_refusal
returns-clause-on_refusal g c =
    let p = c.put_stopped.ensures in
    let t = c.take-machine.ensures in
    refusal_of _ _ _ c.args.call c.me.inside.pass.table_id c.put_stopped.new.pass.table_id (known c.me.inside.pass) (known c.take-machine.new.pass) (known c.put_stopped.new.pass) _ c.take-machine.result c.apply.new.self
    c.me.view_is (p.0.0 ∙ t.0.0) c.me.invariant.1 t.1 p.1 c.in-Err.ensures.on_refusal.1 c.apply.ensures.asked c.in-Err.ensures.lost
