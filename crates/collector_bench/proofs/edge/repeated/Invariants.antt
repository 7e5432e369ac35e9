use Rattle.std.proofs.Common.{◌≡◌}
use Rattle.collector_bench.specs.Repeated.{repeated}
use Rattle.collector_bench.proofs.edge.repeated.Given as goal

abbrev pub invariant-each : goal.invariant-each
invariant-each l = l.text.items ≡ repeated l.message l._round
