use Rattle.crossbeam_queue.specs.Passes.{view as known}
use Rattle.machine_hub.proofs.Stepping.{returned_by, told_so}
use Rattle.machine_hub.proofs.slot.Slot.ask.Goals as goal

pub put_back-requires-clause-machine : goal.put_back-requires-clause-machine
put_back-requires-clause-machine g c κs within = returned_by _ _ _ (known c.me.inside.pass) _ _ c.take-machine.ensures.1 c.me.invariant.1

pub returns-clause-answer : goal.returns-clause-answer
returns-clause-answer g c =
    told_so _ _ _ g.M.Machine.reads c.args.question.now c.me.inside.pass.table_id (known c.me.inside.pass) _ _ c.take-machine.result _ c.me.view_is c.me.invariant.1 c.take-machine.ensures.1 c.tell-answer.ensures c.stopped-late.ensures
