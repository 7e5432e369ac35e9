use Rattle.std.proofs.Common.{◌≡◌, take}
use Rattle.std.specs.List.{sum_by}
use Rattle.otlp_trace.specs.View.{scope_spans_view}
use Rattle.collector_bench.specs.Round.{spans_of_scope, in_64_bits}
use Rattle.collector_bench.proofs.round.resource_spans_len.Given as goal

-- the spans so far are counted
abbrev pub invariant-loop-scope : goal.invariant-loop-scope
invariant-loop-scope l = l.len ≡ in_64_bits (sum_by (λ scope. spans_of_scope (scope_spans_view scope)) (take l.scope-index l.resource.scope_spans))
