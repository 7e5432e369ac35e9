use Rattle.std.proofs.Common.{◌≡◌, map, length}
use Rattle.std.specs.Vec.Iter.{into_iter_items, into_iter_len}
use Rattle.otlp_parts.specs.Parts.{resource_parts_view}
use Rattle.otlp_prepare.specs.BodySpans.{KeepsGrouped}
use Rattle.otlp_prepare.proofs.Gathered.{AreAdding}
use Rattle.otlp_prepare.proofs.body_spans.add_resources.Given as goal

-- what was added and what is left are the whole
abbrev pub invariant-loop-group : goal.invariant-loop-group
invariant-loop-group l = record {
  adding : AreAdding l.fn.policies (map resource_parts_view l.fn.groups.items) (map resource_parts_view (into_iter_items l.group-iterator))
      l.fn.found.origins.items l.fn.found.parts.items l.found.origins.items l.found.parts.items;
  grouped : KeepsGrouped l.fn.found.origins.items l.found.origins.items;
  len : length (into_iter_items l.group-iterator) ≡ into_iter_len l.group-iterator;
}
