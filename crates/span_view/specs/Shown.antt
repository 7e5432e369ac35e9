-- What a borrowed attribute stands for, without where it lies in memory. This project's own rule.
use Rattle.std.specs.Prelude.{List, ℕ}
use Rattle.std.specs.Borrow.{Bor}
use Rattle.span_view.specs.Facts.{ValueFact, unset, string, boolean, int, double, array, kvlist, bytes, AttributeFact}
use Rattle.span_view.specs.declared.value.ValueRef.{ValueRef}
use Rattle.span_view.specs.declared.value.ValueRef.TheVariants as values

-- a value, with the bytes that a borrowed one points to
abbrev pub value_shown : ValueRef → ValueFact
value_shown values.Unset = unset
value_shown (values.String text) = string text.now
value_shown (values.Bool b) = boolean b
value_shown (values.Int z) = int z
value_shown (values.Double bits) = double bits.0
value_shown values.Array = array
value_shown values.KeyValueList = kvlist
value_shown (values.Bytes bs) = bytes bs.now

-- a key and a value, with the bytes that they point to
abbrev pub attribute_shown : Bor (List ℕ) × ValueRef → AttributeFact
attribute_shown attribute = record { key = attribute.0.now; value = value_shown attribute.1 }
