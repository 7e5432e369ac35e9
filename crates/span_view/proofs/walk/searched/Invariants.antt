use Rattle.std.proofs.Common.{◌≡◌, ◌≤◌, length}
use Rattle.span_view.specs.Fields.{told}
use Rattle.span_view.specs.Reading.{fields_of}
use Rattle.span_view.proofs.walk.searched.Given as goal

abbrev pub invariant-fields : goal.invariant-fields
invariant-fields l = record {
  same : told (fields_of l.left) ≡ told (fields_of l.text);
  within : length l.left ≤ length l.text;
}

abbrev pub decreases-fields : goal.decreases-fields
decreases-fields l = length l.left
