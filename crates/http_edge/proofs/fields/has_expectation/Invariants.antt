use Rattle.std.proofs.Common.{◌≡◌, map, take}
use Rattle.std.specs.List.{list_any}
use Rattle.httparse.specs.Spans.{header_bytes}
use Rattle.http_edge.specs.Fields.{is_expectation}
use Rattle.http_edge.proofs.fields.has_expectation.Given as goal

abbrev pub invariant-loop-span : goal.invariant-loop-span
invariant-loop-span l = l.found ≡ list_any is_expectation (map (header_bytes l.bytes) (take l.span-index l.spans))
