use Rattle.service_runtime.specs.Receiving.{Rounds}
use Rattle.service_runtime.proofs.receiving.receive_all.Given as goal

abbrev pub invariant-rounds : goal.invariant-rounds
invariant-rounds g l = Rounds g.D.Reception.looks g.D.Reception.takes g.D.Reception.serves g.D.Reception.rests l.fn.reception l.reception
