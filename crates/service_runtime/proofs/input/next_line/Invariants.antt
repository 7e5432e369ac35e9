use Rattle.service_runtime.proofs.Lines.{Reading}
use Rattle.service_runtime.proofs.input.next_line.Given as goal

abbrev pub invariant-bytes : goal.invariant-bytes
invariant-bytes g l = Reading (g.I.Read.remaining l.fn.input) (g.I.Read.remaining l.input) l.line.items
