use Rattle.service_runtime.proofs.Put.{Front}
use Rattle.service_runtime.proofs.output.try_write.Given as goal

abbrev pub invariant-tries : goal.invariant-tries
invariant-tries g l = Front (g.W.Write.contents l.fn.output) (g.W.Write.contents l.output) l.fn.text l.rest
