use Rattle.std.proofs.Common.{◌≡◌, ◌++◌, length}
use Rattle.std.specs.Vec.Iter.{into_iter_items, into_iter_len}
use Rattle.otlp_parts.proofs.copies.copied_texts.Given as goal

-- what was copied and what is left are the whole
abbrev pub invariant-loop-text : goal.invariant-loop-text
invariant-loop-text l = record {
  whole : l.copies.items ++ into_iter_items l.text-iterator ≡ l.fn.texts.items;
  len : length (into_iter_items l.text-iterator) ≡ into_iter_len l.text-iterator;
}
