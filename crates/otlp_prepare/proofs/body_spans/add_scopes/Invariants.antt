use Rattle.std.proofs.Common.{◌≡◌, List, map, length}
use Rattle.std.specs.List.{AllByRecursion}
use Rattle.std.specs.Vec.Iter.{into_iter_items, into_iter_len}
use Rattle.otlp_parts.specs.Parts.{scope_parts_view}
use Rattle.span_pool.specs.Stored.{bytes_of}
use Rattle.tail_settings.specs.Policy.{PolicyData}
use Rattle.otlp_prepare.specs.BodySpans.{AreFound, IsAround, IsScopeRead, KeepsGroup}
use Rattle.otlp_prepare.proofs.Adding.{IsAdding}
use Rattle.otlp_prepare.proofs.body_spans.add_scopes.Given as goal

-- what was added and what is left are the whole, and what is left was read
abbrev pub invariant-loop-scope : goal.invariant-loop-scope
invariant-loop-scope l = record {
  adding : (policies : List PolicyData) → IsAround policies l.outer.resource l.outer.bits → AreFound policies l.fn.found.origins.items l.fn.found.parts.items
      → IsAdding policies (record { resource = l.outer.resource; schema_url = bytes_of l.outer.schema_url; scopes = map scope_parts_view l.fn.scopes.items })
      (map scope_parts_view (into_iter_items l.scope-iterator)) l.fn.found.origins.items l.fn.found.parts.items l.found.origins.items l.found.parts.items;
  grouped : KeepsGroup l.outer.first l.outer.resource l.outer.schema_url l.fn.found.origins.items l.found.origins.items;
  read : AllByRecursion IsScopeRead (map scope_parts_view (into_iter_items l.scope-iterator));
  len : length (into_iter_items l.scope-iterator) ≡ into_iter_len l.scope-iterator;
}
