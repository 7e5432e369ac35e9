use Rattle.std.proofs.Common.{◌≡◌, map, take}
use Rattle.httparse.specs.Spans.{header_bytes}
use Rattle.http_edge.specs.Fields.{field}
use Rattle.http_edge.specs.Stages.{single_of}
use Rattle.http_edge.proofs.fields.field.Given as goal

abbrev pub invariant-loop-span : goal.invariant-loop-span
invariant-loop-span l = single_of l.found ≡ field l.name (map (header_bytes l.bytes) (take l.span-index l.spans))
