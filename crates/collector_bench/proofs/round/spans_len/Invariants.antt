use Rattle.std.proofs.Common.{◌≡◌, take}
use Rattle.std.specs.List.{sum_by}
use Rattle.otlp_trace.specs.View.{resource_spans_view}
use Rattle.collector_bench.specs.Round.{spans_of_resource, in_64_bits}
use Rattle.collector_bench.proofs.round.spans_len.Given as goal

-- the spans so far are counted
abbrev pub invariant-loop-resource : goal.invariant-loop-resource
invariant-loop-resource l = l.len ≡ in_64_bits (sum_by (λ resource. spans_of_resource (resource_spans_view resource)) (take l.resource-index l.request.resource_spans))
