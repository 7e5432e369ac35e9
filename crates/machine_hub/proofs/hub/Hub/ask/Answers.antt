use Rattle.machine_hub.proofs.Steps.{told_on}
use Rattle.machine_hub.proofs.hub.Hub.ask.Goals as goal

pub returns-clause-answer : goal.returns-clause-answer
returns-clause-answer g c = told_on _ _ _ g.M.Machine.reads _ _ _ _ _ _ _ c.me.view_is c.requires.same_hub c.requires.shard c.index_mut-seat.ensures.value c.ask.ensures.answer
