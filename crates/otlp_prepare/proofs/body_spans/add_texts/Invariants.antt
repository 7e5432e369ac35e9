use Rattle.std.proofs.Common.{◌≡◌, ◌++◌, map, length}
use Rattle.std.specs.List.{AllByRecursion}
use Rattle.std.specs.Vec.Iter.{into_iter_items, into_iter_len}
use Rattle.otlp_read.specs.RoundTrip.{IsShort}
use Rattle.otlp_prepare.specs.BodySpans.{part_with, IsValidRead}
use Rattle.otlp_prepare.proofs.body_spans.add_texts.Given as goal

-- what was added and what is left are the whole, and what is left was read
abbrev pub invariant-loop-text : goal.invariant-loop-text
invariant-loop-text l = record {
  whole : l.parts.items ++ map (part_with l.bits l.origin) (into_iter_items l.text-iterator) ≡ l.fn.parts.items ++ map (part_with l.bits l.origin) l.fn.texts.items;
  read : AllByRecursion IsValidRead (into_iter_items l.text-iterator);
  short : AllByRecursion IsShort (into_iter_items l.text-iterator) → AllByRecursion IsShort l.fn.texts.items;
  len : length (into_iter_items l.text-iterator) ≡ into_iter_len l.text-iterator;
}
