use Rattle.std.proofs.Common.{◌≡◌, ◌++◌, map, length}
use Rattle.std.specs.Vec.Iter.{into_iter_items, into_iter_len}
use Rattle.otlp_prepare.specs.BodySpans.{noted}
use Rattle.otlp_prepare.proofs.notes.noted_here.Given as goal

-- the spans that were noted and those that are left are the whole
abbrev pub invariant-loop-part : goal.invariant-loop-part
invariant-loop-part l = record {
  whole : l.spans.items ++ map (noted l.fn.policies) (into_iter_items l.part-iterator) ≡ map (noted l.fn.policies) l.fn.parts.items;
  len : length (into_iter_items l.part-iterator) ≡ into_iter_len l.part-iterator;
}
