use Rattle.std.proofs.Common.{[], map, length}
use Rattle.std.specs.Prelude.{reverse}
use Rattle.otlp_parts.specs.Parts.{resource_parts_view}
use Rattle.prepared_body.specs.Arrivals.{AreGrouped}
use Rattle.otlp_prepare.proofs.Gathered.{AreAdding}
use Rattle.otlp_prepare.proofs.body_spans.found_in.Given as goal

-- what was added and what is left, in order, are the whole
abbrev pub invariant-pieces : goal.invariant-pieces
invariant-pieces l = record {
  adding : AreAdding l.fn.policies (map resource_parts_view l.fn.body.resources.items) (map resource_parts_view (reverse l.left.items))
      [] [] l.found.origins.items l.found.parts.items;
  grouped : AreGrouped l.found.origins.items;
}

abbrev pub decreases-pieces : goal.decreases-pieces
decreases-pieces l = length l.left.items
