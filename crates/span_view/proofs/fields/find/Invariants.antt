use Rattle.std.proofs.Common.{◌≡◌, ◌≤◌, length}
use Rattle.span_view.specs.Reading.{fields_of, held}
use Rattle.span_view.proofs.fields.find.Given as goal

abbrev pub invariant-fields : goal.invariant-fields
invariant-fields l = record {
  same : held l.number l.kind (fields_of l.left) ≡ held l.number l.kind (fields_of l.text);
  within : length l.left ≤ length l.text;
}

abbrev pub decreases-fields : goal.decreases-fields
decreases-fields l = length l.left
