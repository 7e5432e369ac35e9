use Rattle.std.proofs.Common.{◌<◌}
use Rattle.otlp_trace.specs.Data.{RequestData}
use Rattle.otlp_read.specs.Value.{IsValue}
use Rattle.collector_bench.proofs.codec.read_rounds.Given as goal

-- once it was read, the body has a value
abbrev pub invariant-each : goal.invariant-each
invariant-each l = 0 < l._round → (v : RequestData) × IsValue l.body v
