use Rattle.std.proofs.Common.{◌≡◌, ◌++◌, map, length}
use Rattle.std.specs.Vec.Iter.{into_iter_items, into_iter_len}
use Rattle.otlp_parts.specs.Parts.{resource_parts_view}
use Rattle.otlp_parts.proofs.copies.copied_body.Given as goal

-- what was copied and what is left are the whole
abbrev pub invariant-loop-resource : goal.invariant-loop-resource
invariant-loop-resource l = record {
  whole : map resource_parts_view l.resources.items ++ map resource_parts_view (into_iter_items l.resource-iterator) ≡ map resource_parts_view l.fn.parts.resources.items;
  len : length (into_iter_items l.resource-iterator) ≡ into_iter_len l.resource-iterator;
}
