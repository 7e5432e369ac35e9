use Rattle.std.proofs.Common.{◌≡◌, ◌<◌}
use Rattle.otlp_trace.specs.Text.{request_text}
use Rattle.otlp_trace.specs.View.{request_view}
use Rattle.collector_bench.proofs.codec.write_rounds.Given as goal

-- what was written last is the request's text
abbrev pub invariant-each : goal.invariant-each
invariant-each l = 0 < l._round → l.text.items ≡ request_text (request_view l.request)
