use Rattle.std.proofs.Common.{◌≡◌, ◌==◌, ℕ, false, length}
use Rattle.pb_wire.specs.declared.field.WireType.TheVariants as types
use Rattle.span_view.specs.Reading.{fields_of, held}
use Rattle.span_view.proofs.fields.past_bytes.Given as goal

abbrev pub invariant-fields : goal.invariant-fields
invariant-fields l = (other : ℕ) → (l.number == other) ≡ false
    → held other types.Bytes (fields_of l.text) ≡ held other types.Bytes (fields_of l.left)

abbrev pub decreases-fields : goal.decreases-fields
decreases-fields l = length l.left
