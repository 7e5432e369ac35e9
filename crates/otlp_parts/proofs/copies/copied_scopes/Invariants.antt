use Rattle.std.proofs.Common.{◌≡◌, ◌++◌, map, length}
use Rattle.std.specs.Vec.Iter.{into_iter_items, into_iter_len}
use Rattle.otlp_parts.specs.Parts.{scope_parts_view}
use Rattle.otlp_parts.proofs.copies.copied_scopes.Given as goal

-- what was copied and what is left are the whole
abbrev pub invariant-loop-scope : goal.invariant-loop-scope
invariant-loop-scope l = record {
  whole : map scope_parts_view l.copies.items ++ map scope_parts_view (into_iter_items l.scope-iterator) ≡ map scope_parts_view l.fn.scopes.items;
  len : length (into_iter_items l.scope-iterator) ≡ into_iter_len l.scope-iterator;
}
