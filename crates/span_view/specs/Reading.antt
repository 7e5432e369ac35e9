-- The facts that two texts tell: a span's and its resource's. Fields stand as the Protocol Buffers encoding guide has
-- them (https://protobuf.dev/programming-guides/encoding/); their numbers are those of OTLP 1.x's trace.proto,
-- common.proto and resource.proto.
use Rattle.std.specs.Prelude.{ℕ, zero, suc, ℤ, Bool, true, false, not, ◌&&◌, ◌==◌, ◌%◌, ◌^◌, if◌then◌else◌}
use Rattle.std.specs.Prelude.{List, [], ◌∷◌, ◌++◌, length, map, Option, Some, None, Result, Ok, Err}
use Rattle.std.specs.Borrow.{Bor}
use Rattle.std.specs.Int.{w32, w64, cast_signed, from_le_bytes}
use Rattle.pb_wire.specs.declared.field.WireFault.{WireFault}
use Rattle.pb_wire.specs.declared.field.WireType.{WireType}
use Rattle.pb_wire.specs.declared.field.WireType.TheVariants as types
use Rattle.pb_wire.specs.declared.field.Value.{Value}
use Rattle.pb_wire.specs.declared.field.Field.{Field}
use Rattle.pb_wire.specs.Grammar.{Datum, Varint, Eight, Bytes, Four, Group, datum, Entry, entry}
use Rattle.pb_wire.specs.Reading.{next_at}
use Rattle.span_view.specs.Facts.{ValueFact, unset, string, boolean, int, double, array, kvlist, bytes}
use Rattle.span_view.specs.Facts.{AttributeFact, SpanFacts}

-- the first field, and then others of the rest; nothing where no field begins
abbrev pub fields_from : (List ℕ → List Entry) → Result (Option (Entry × List ℕ)) WireFault → List Entry
fields_from others (Ok (Some first)) = first.0 ∷ others first.1
fields_from others (Ok None) = []
fields_from others (Err fault) = []

-- the fields of a text from its front, at most so many
unfoldable pub fields_in : ℕ → List ℕ → List Entry
fields_in zero text = []
fields_in (suc n) text = fields_from (fields_in n) (next_at 0 text)

-- all of them, up to the text's end or to where no field begins; each takes a byte at least, so there are no more than
-- bytes
unfoldable pub fields_of : List ℕ → List Entry
fields_of text = fields_in (length text) text

-- the same from what is found first: a field and the rest
abbrev pub found_fields : Option (Field × Bor (List ℕ)) → List Entry
found_fields None = []
found_fields (Some found) = entry found.0 ∷ fields_of found.1.now

-- ---- fields of a number and wire type

-- whether a datum is of this wire type, a group's being that of its start
abbrev pub is_kind : WireType → Datum → Bool
is_kind types.Varint (Varint x) = true
is_kind types.Eight (Eight bs) = true
is_kind types.Bytes (Bytes bs) = true
is_kind types.Four (Four bs) = true
is_kind types.GroupStart (Group bs) = true
is_kind _ _ = false

-- whether a field has this number and wire type
abbrev pub has : ℕ → WireType → Entry → Bool
has n kind e = (e.number == n) && is_kind kind e.value

-- what the fields of this number and wire type hold, in order
abbrev pub held : ℕ → WireType → List Entry → List Datum
held n kind [] = []
held n kind (e ∷ es) = if has n kind e then e.value ∷ held n kind es else held n kind es

-- the same from a search: what the first one holds, and what those in the rest hold
abbrev pub found_held : ℕ → WireType → Option (Value × Bor (List ℕ)) → List Datum
found_held n kind None = []
found_held n kind (Some found) = datum found.0 ∷ held n kind (fields_of found.1.now)

-- ---- the first of them, or the default that proto3 gives a field that isn't there

-- bytes, or none
abbrev pub first_bytes : List Datum → List ℕ
first_bytes (Bytes bs ∷ ds) = bs
first_bytes _ = []

-- eight bytes as a number, least first, or 0
abbrev pub first_eight : List Datum → ℕ
first_eight (Eight bs ∷ ds) = from_le_bytes w64 bs
first_eight _ = 0

-- a varint, or 0
abbrev pub first_varint : List Datum → ℕ
first_varint (Varint x ∷ ds) = x
first_varint _ = 0

-- all of them that are bytes
abbrev pub all_bytes : List Datum → List (List ℕ)
all_bytes [] = []
all_bytes (Bytes bs ∷ ds) = bs ∷ all_bytes ds
all_bytes (_ ∷ ds) = all_bytes ds

-- ---- messages

-- the member of AnyValue's oneof that a field of this number says; unset where it says none
abbrev pub member : ℕ → Datum → ValueFact
member n (Varint x) =
    if n == 2 then boolean (not (x == 0))
    else if n == 3 then int (cast_signed w64 x)
    else unset
member n (Eight bs) = if n == 4 then double bs else unset
member n (Bytes bs) =
    if n == 1 then string bs
    else if n == 5 then array
    else if n == 6 then kvlist
    else if n == 7 then bytes bs
    else unset
member n _ = unset

-- what the first field says; in canonical text the chosen member stands first
abbrev pub first_member : List Entry → ValueFact
first_member [] = unset
first_member (e ∷ es) = member e.number e.value

-- the value that an AnyValue's text says
abbrev pub value_in : List ℕ → ValueFact
value_in text = first_member (fields_of text)

-- the attribute that a KeyValue's text says
abbrev pub attribute_in : List ℕ → AttributeFact
attribute_in text = record {
  key = first_bytes (held 1 types.Bytes (fields_of text));
  value = value_in (first_bytes (held 2 types.Bytes (fields_of text)));
}

-- the attributes in a text's fields of this number
abbrev pub attributes_in : ℕ → List ℕ → List AttributeFact
attributes_in n text = map attribute_in (all_bytes (held n types.Bytes (fields_of text)))

-- the same from a search: the text of the first one, and the rest
abbrev pub found_attributes : ℕ → Option (Bor (List ℕ) × Bor (List ℕ)) → List AttributeFact
found_attributes n None = []
found_attributes n (Some found) = attribute_in found.0.now ∷ attributes_in n found.1.now

-- the code that a Status' text says, an enum, so 32 bits in two's complement; 0, UNSET, where it says none
abbrev pub code_in : List ℕ → ℤ
code_in text = cast_signed w32 (first_varint (held 3 types.Varint (fields_of text)) % 2 ^ 32)

-- the facts that a Span's text and its Resource's tell
abbrev pub facts_of : List ℕ → List ℕ → SpanFacts
facts_of span resource = record {
  trace_id = first_bytes (held 1 types.Bytes (fields_of span));
  span_id = first_bytes (held 2 types.Bytes (fields_of span));
  start_time_unix_nano = first_eight (held 7 types.Eight (fields_of span));
  end_time_unix_nano = first_eight (held 8 types.Eight (fields_of span));
  status = code_in (first_bytes (held 15 types.Bytes (fields_of span)));
  attributes = attributes_in 9 span ++ attributes_in 1 resource;
}
