use Rattle.std.proofs.Common.{take}
use Rattle.std.specs.List.{AllByRecursion}
use Rattle.otlp_read.proofs.typed.each_known.Given as goal

abbrev pub invariant-loop-value : goal.invariant-loop-value
invariant-loop-value g l = AllByRecursion (λ x. g.T.Typed.typed (g.T.Typed.view x)) (take l.value-index l.values)
