-- What the fields of a span and its resource tell policies, one after the other: of OTLP 1.x's trace.proto the fields 7
-- to 9 and 15 of Span, and of resource.proto the field 1 of Resource.
use Rattle.std.specs.Prelude.{ℕ, ℤ, pos, ◌==◌, if◌then◌else◌, List, [], ◌∷◌, ◌++◌, map, Option, Some, None}
use Rattle.std.specs.Borrow.{Bor}
use Rattle.std.specs.Int.{w64, from_le_bytes}
use Rattle.pb_wire.specs.Grammar.{Datum, Eight, Bytes, Entry}
use Rattle.span_view.specs.Facts.{AttributeFact}
use Rattle.span_view.specs.Reading.{fields_of, attribute_in, attributes_in, code_in}
use Rattle.span_view.specs.declared.walk.SpanField.{SpanField}
use Rattle.span_view.specs.declared.walk.SpanField.TheVariants as shown

-- what one field tells
pub data FieldFact : Type 0 where
  start : ℕ → FieldFact
  end : ℕ → FieldFact
  status : ℤ → FieldFact
  attribute : AttributeFact → FieldFact

-- what the field of this number tells in a Span, if anything
abbrev pub told_by : ℕ → Datum → Option FieldFact
told_by n (Eight bs) =
    if n == 7 then Some (start (from_le_bytes w64 bs))
    else if n == 8 then Some (end (from_le_bytes w64 bs))
    else None
told_by n (Bytes bs) =
    if n == 9 then Some (attribute (attribute_in bs))
    else if n == 15 then Some (status (code_in bs))
    else None
told_by n _ = None

-- what a field tells, if anything, before others
abbrev pub told_and : Option FieldFact → List FieldFact → List FieldFact
told_and None others = others
told_and (Some fact) others = fact ∷ others

-- what the fields of a Span tell
abbrev pub told : List Entry → List FieldFact
told [] = []
told (e ∷ es) = told_and (told_by e.number e.value) (told es)

-- what the texts of a span and its resource tell
abbrev pub told_of : List ℕ → List ℕ → List FieldFact
told_of span resource = told (fields_of span) ++ map attribute (attributes_in 1 resource)

-- ---- what was told of one thing: what was told first, or the default that proto3 gives a field that isn't there

-- the start
abbrev pub first_start : List FieldFact → ℕ
first_start [] = 0
first_start (start n ∷ facts) = n
first_start (_ ∷ facts) = first_start facts

-- the end
abbrev pub first_end : List FieldFact → ℕ
first_end [] = 0
first_end (end n ∷ facts) = n
first_end (_ ∷ facts) = first_end facts

-- the status
abbrev pub first_status : List FieldFact → ℤ
first_status [] = pos 0
first_status (status code ∷ facts) = code
first_status (_ ∷ facts) = first_status facts

-- all attributes
abbrev pub attributes_told : List FieldFact → List AttributeFact
attributes_told [] = []
attributes_told (attribute a ∷ facts) = a ∷ attributes_told facts
attributes_told (_ ∷ facts) = attributes_told facts

-- ---- what the code hands on

-- a field that tells something
abbrev pub field_shown : SpanField → FieldFact
field_shown (shown.Start n) = start n
field_shown (shown.End n) = end n
field_shown (shown.Status code) = status code
field_shown (shown.Attribute a) = attribute a

-- what was found first in a span's text, and what the fields behind it tell
abbrev pub found_told : Option (SpanField × Bor (List ℕ)) → List FieldFact
found_told None = []
found_told (Some found) = field_shown found.0 ∷ told (fields_of found.1.now)
