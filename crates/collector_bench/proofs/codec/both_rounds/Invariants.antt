use Rattle.std.proofs.Common.{◌≡◌, ◌<◌}
use Rattle.otlp_trace.specs.Data.{RequestData}
use Rattle.otlp_trace.specs.Text.{request_text}
use Rattle.otlp_read.specs.Value.{IsValue}
use Rattle.collector_bench.proofs.codec.both_rounds.Given as goal

-- what was written last is the text of the body's value
abbrev pub invariant-each : goal.invariant-each
invariant-each l = 0 < l._round → (v : RequestData) × IsValue l.body v × (l.text.items ≡ request_text v)
