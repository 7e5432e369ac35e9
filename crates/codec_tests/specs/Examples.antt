-- What the definitions say of small texts and values. "The guide" is the Protocol Buffers encoding guide
-- (https://protobuf.dev/programming-guides/encoding/); "by hand" is worked out from its rules and the field numbers of
-- opentelemetry-proto. Bytes stand in hexadecimal. A line that ends in → ⊥ says that the relation doesn't hold there.
-- `pos n` is n.
use Rattle.std.specs.Prelude.{◌≡◌, ℕ, ℤ, ◌-◌, ◌^◌, pos, List, [], ◌∷◌, Ok, codes}
use Rattle.pb_wire.specs.declared.field.WireType.TheVariants as types
use Rattle.pb_wire.specs.Grammar.{Datum, Varint, Eight, Bytes, Four, Group, Entry}
use Rattle.pb_wire.specs.Text.{varint_text, tag_text, bytes_text, field_text}
use Rattle.otlp_trace.specs.Data.{any_value, array, StatusData, SpanData, RequestData}
use Rattle.otlp_trace.specs.Examples.{example_resource, example_resource_bytes, example_scope, example_scope_bytes, example_span, example_span_bytes, example_request, example_bytes}
use Rattle.otlp_trace.specs.Text.{resource_text, scope_text, span_text, request_text}
use Rattle.otlp_read.specs.AnyValue.{no_array}
use Rattle.otlp_trace.specs.Defaults.{no_span, no_scope_spans, no_resource_spans}
use Rattle.otlp_read.specs.Value.{span_known, value_of}
use Rattle.otlp_read.specs.Nested.{Kept, NestedAny, NestedRequest}
use Rattle.otlp_read.specs.Typed.{TypedStatus}

-- ---- what the writers append

-- the field of this number and value
abbrev pub field_of : ℕ → Datum → Entry
field_of number value = record { number = number; value = value }

-- the guide's field 1 with 150
abbrev pub one_fifty : List ℕ
one_fifty = 0x08 ∷ 0x96 ∷ 0x01 ∷ []

-- "testing"
abbrev pub letters : List ℕ
letters = 0x74 ∷ 0x65 ∷ 0x73 ∷ 0x74 ∷ 0x69 ∷ 0x6e ∷ 0x67 ∷ []

-- the guide's minus two, in ten bytes: as a number of 64 bits it is 2^64 - 2
abbrev pub minus_two : List ℕ
minus_two = 0xfe ∷ 0xff ∷ 0xff ∷ 0xff ∷ 0xff ∷ 0xff ∷ 0xff ∷ 0xff ∷ 0xff ∷ 0x01 ∷ []

-- what the guide's group 8:!{1: 2 3: {"foo"}} holds
abbrev pub content : List ℕ
content = 0x08 ∷ 0x02 ∷ 0x1a ∷ 0x03 ∷ 0x66 ∷ 0x6f ∷ 0x6f ∷ []

-- the group, its bytes by hand
abbrev pub group : List ℕ
group = 0x43 ∷ 0x08 ∷ 0x02 ∷ 0x1a ∷ 0x03 ∷ 0x66 ∷ 0x6f ∷ 0x6f ∷ 0x44 ∷ []

-- what the writers append
pub record Written : Type 0 where
  pub number : varint_text 150 ≡ 0x96 ∷ 0x01 ∷ []
  pub negative : varint_text (2 ^ 64 - 2) ≡ minus_two
  pub tag : tag_text 2 types.Bytes ≡ 0x12 ∷ []
  pub string : bytes_text letters ≡ 0x07 ∷ letters
  pub varint_field : field_text (field_of 1 (Varint 150)) ≡ one_fifty
  pub bytes_field : field_text (field_of 3 (Bytes one_fifty)) ≡ 0x1a ∷ 0x03 ∷ one_fifty
  pub eight_field : field_text (field_of 6 (Eight (200 ∷ 0 ∷ 0 ∷ 0 ∷ 0 ∷ 0 ∷ 0 ∷ 0 ∷ [])))
      ≡ 0x31 ∷ 0xc8 ∷ 0 ∷ 0 ∷ 0 ∷ 0 ∷ 0 ∷ 0 ∷ 0 ∷ []
  pub four_field : field_text (field_of 6 (Four (200 ∷ 0 ∷ 0 ∷ 0 ∷ []))) ≡ 0x35 ∷ 0xc8 ∷ 0 ∷ 0 ∷ 0 ∷ []
  pub group_field : field_text (field_of 8 (Group content)) ≡ group

-- ---- the example trace of opentelemetry-proto

-- the example trace has its bytes
pub record ExampleTrace : Type 0 where
  pub resource : resource_text example_resource ≡ example_resource_bytes
  pub scope : scope_text example_scope ≡ example_scope_bytes
  pub span : span_text example_span ≡ example_span_bytes
  pub whole : request_text example_request ≡ example_bytes
  -- and is read of them
  pub read : value_of example_bytes ≡ Ok example_request

-- ---- what has to hold so that a text that was written reads back

-- the request that has this span alone
abbrev pub request_of : SpanData → RequestData
request_of span = record {
  resource_spans = record no_resource_spans {
    scope_spans = record no_scope_spans {
      spans = span ∷ [];
    } ∷ [];
  } ∷ [];
}

abbrev pub status_of : List ℕ → ℤ → StatusData
status_of message code = record { message = message; code = code; unknown = [] }

pub record Conditions : Type 0 where
  -- A span, whose own depth is 3, may keep 1 as a number. It may not keep 6 as a number, which is its kind, nor half
  -- a field.
  pub kept : Kept span_known 97 (0x08 ∷ 0x05 ∷ [])
  pub known : Kept span_known 97 (0x30 ∷ 0x02 ∷ []) → ⊥
  pub cut : Kept span_known 97 (0x08 ∷ []) → ⊥
  pub in_a_request : NestedRequest (request_of (record no_span { unknown = 0x08 ∷ 0x05 ∷ [] }))
  -- a value at depth 99 may be an array, and one at depth 100 may not
  pub room : NestedAny 2 (any_value (array no_array) [])
  pub no_room : NestedAny 1 (any_value (array no_array) []) → ⊥
  -- a code of 32 bits and a message of UTF-8
  pub typed : TypedStatus (status_of (codes "m") (pos 2))
  pub too_great : TypedStatus (status_of [] (pos (2 ^ 31))) → ⊥
  pub no_text : TypedStatus (status_of (0xff ∷ []) (pos 0)) → ⊥
