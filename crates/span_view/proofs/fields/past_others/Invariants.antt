use Rattle.std.proofs.Common.{◌≡◌, ◌≤◌, length}
use Rattle.pb_wire.specs.declared.field.WireType.{WireType}
use Rattle.span_view.specs.Reading.{fields_of, held}
use Rattle.span_view.proofs.fields.past_others.Given as goal

abbrev pub invariant-fields : goal.invariant-fields
invariant-fields l = record {
  same : (kind : WireType) → held l.number kind (fields_of l.text) ≡ held l.number kind (fields_of l.left);
  within : length l.left ≤ length l.text;
}

abbrev pub decreases-fields : goal.decreases-fields
decreases-fields l = length l.left
