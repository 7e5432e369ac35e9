use Rattle.std.proofs.Common.{◌↔◌, length}
use Rattle.span_view.specs.Facts.{AreText}
use Rattle.span_view.specs.Reading.{attributes_in}
use Rattle.span_view.proofs.text.are_text.Given as goal

abbrev pub invariant-attributes : goal.invariant-attributes
invariant-attributes l = AreText (attributes_in l.number l.left) ↔ AreText (attributes_in l.number l.text)

abbrev pub decreases-attributes : goal.decreases-attributes
decreases-attributes l = length l.left
