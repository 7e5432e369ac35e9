-- Canonical text (proto3 encoding): known fields by rising number, numbers as short as they can be, what has its proto3
-- default left out, members of a oneof and embedded messages always written, repeated fields in order, and then the
-- fields that aren't known, as they were spelled. Numbers and types of fields are those of opentelemetry-proto, tags
-- and values those of the Protocol Buffers encoding guide (https://protobuf.dev/programming-guides/encoding/).
use Rattle.std.specs.Prelude.{ℕ, ℤ, Bool, ◌==◌, if◌then◌else◌, List, [], ◌∷◌, ◌++◌, length, Option, Some, None, option_map}
use Rattle.std.specs.Int.{w32, w64, cast_unsigned, to_le_bytes}
use Rattle.pb_wire.specs.declared.field.WireType.TheVariants as types
use Rattle.pb_wire.specs.Text.{varint_text, tag_text, bytes_text}
use Rattle.otlp_trace.specs.Data.{AnyValueData, any_value, KindData, unset, string, boolean, int, double, array, kvlist, bytes, ArrayValueData, array_value, AnyValues, no_values, a_value, KeyValueListData, key_value_list, KeyValueData, bare_key, key_value, KeyValues, no_key_values, a_key_value, ResourceData, ScopeData, StatusData, EventData, LinkData, SpanData, ScopeSpansData, ResourceSpansData, RequestData, PartialSuccessData, ResponseData}

-- ---- fields that are always written: a tag of number n, and the value

-- a number as a varint
abbrev pub number_field : ℕ → ℕ → List ℕ
number_field n x = tag_text n types.Varint ++ varint_text x

-- bytes behind their length: a string, bytes, an embedded message
abbrev pub bytes_field : ℕ → List ℕ → List ℕ
bytes_field n bs = tag_text n types.Bytes ++ bytes_text bs

-- eight bytes as they are: fixed64, double
abbrev pub eight_field : ℕ → List ℕ → List ℕ
eight_field n bs = tag_text n types.Eight ++ bs

-- four bytes as they are: fixed32
abbrev pub four_field : ℕ → List ℕ → List ℕ
four_field n bs = tag_text n types.Four ++ bs

-- ---- fields that are left out at their proto3 default

-- this text, or none where the bytes are none
abbrev pub unless_empty : List ℕ → List ℕ → List ℕ
unless_empty bs text = if length bs == 0 then [] else text

-- this text, or none where the number is 0
abbrev pub unless_zero : ℕ → List ℕ → List ℕ
unless_zero x text = if x == 0 then [] else text

-- bytes, or a string's
abbrev pub some_bytes : ℕ → List ℕ → List ℕ
some_bytes n bs = unless_empty bs (bytes_field n bs)

-- a number with no sign
abbrev pub some_number : ℕ → ℕ → List ℕ
some_number n x = unless_zero x (number_field n x)

-- a number with a sign, a negative one in ten bytes
abbrev pub some_signed : ℕ → ℤ → List ℕ
some_signed n z = some_number n (cast_unsigned w64 z)

-- a number in eight bytes, least byte first
abbrev pub some_eight : ℕ → ℕ → List ℕ
some_eight n x = unless_zero x (eight_field n (to_le_bytes w64 x))

-- a number in four bytes, least byte first
abbrev pub some_four : ℕ → ℕ → List ℕ
some_four n x = unless_zero x (four_field n (to_le_bytes w32 x))

-- the text of an embedded message, where there is one
abbrev pub embedded : ℕ → Option (List ℕ) → List ℕ
embedded n None = []
embedded n (Some text) = bytes_field n text

-- messages of a repeated field, each written by text
abbrev pub repeated : {A : Type 0} → ℕ → (A → List ℕ) → List A → List ℕ
repeated n text [] = []
repeated n text (x ∷ xs) = bytes_field n (text x) ++ repeated n text xs

-- ---- attribute values

-- a bool is the number 0 or 1
abbrev pub bit : Bool → ℕ
bit b = if b then 1 else 0

abbrev mutual
  -- AnyValue: the member of the oneof that is chosen, and then what was kept
  pub any_text : AnyValueData → List ℕ
  any_text (any_value kind unknown) = kind_text kind ++ unknown

  -- the member that is chosen, also where it is empty or 0
  pub kind_text : KindData → List ℕ
  kind_text unset = []
  kind_text (string bs) = bytes_field 1 bs
  kind_text (boolean b) = number_field 2 (bit b)
  kind_text (int z) = number_field 3 (cast_unsigned w64 z)
  kind_text (double bs) = eight_field 4 bs
  kind_text (array a) = bytes_field 5 (array_text a)
  kind_text (kvlist l) = bytes_field 6 (list_text l)
  kind_text (bytes bs) = bytes_field 7 bs

  -- ArrayValue
  pub array_text : ArrayValueData → List ℕ
  array_text (array_value vs unknown) = values_text vs ++ unknown

  -- its values, one after another
  pub values_text : AnyValues → List ℕ
  values_text no_values = []
  values_text (a_value v vs) = bytes_field 1 (any_text v) ++ values_text vs

  -- KeyValueList
  pub list_text : KeyValueListData → List ℕ
  list_text (key_value_list ps unknown) = key_values_text ps ++ unknown

  -- KeyValue: a value that is there is written, one with no member too
  pub key_value_text : KeyValueData → List ℕ
  key_value_text (bare_key key unknown) = some_bytes 1 key ++ unknown
  key_value_text (key_value key v unknown) = some_bytes 1 key ++ (bytes_field 2 (any_text v) ++ unknown)

  -- the pairs of a list, one after another
  pub key_values_text : KeyValues → List ℕ
  key_values_text no_key_values = []
  key_values_text (a_key_value p ps) = bytes_field 1 (key_value_text p) ++ key_values_text ps

-- ---- messages

-- Resource
abbrev pub resource_text : ResourceData → List ℕ
resource_text r =
    repeated 1 key_value_text r.attributes ++ (some_number 2 r.dropped_attributes_count ++ r.unknown)

-- InstrumentationScope
abbrev pub scope_text : ScopeData → List ℕ
scope_text s =
    some_bytes 1 s.name ++ (some_bytes 2 s.version
    ++ (repeated 3 key_value_text s.attributes ++ (some_number 4 s.dropped_attributes_count ++ s.unknown)))

-- Status
abbrev pub status_text : StatusData → List ℕ
status_text s = some_bytes 2 s.message ++ (some_signed 3 s.code ++ s.unknown)

-- Span.Event
abbrev pub event_text : EventData → List ℕ
event_text e =
    some_eight 1 e.time_unix_nano ++ (some_bytes 2 e.name
    ++ (repeated 3 key_value_text e.attributes ++ (some_number 4 e.dropped_attributes_count ++ e.unknown)))

-- Span.Link
abbrev pub link_text : LinkData → List ℕ
link_text l =
    some_bytes 1 l.trace_id ++ (some_bytes 2 l.span_id ++ (some_bytes 3 l.trace_state
    ++ (repeated 4 key_value_text l.attributes ++ (some_number 5 l.dropped_attributes_count
    ++ (some_four 6 l.flags ++ l.unknown)))))

-- a span's ids and names
abbrev pub span_names_text : SpanData → List ℕ
span_names_text s =
    some_bytes 1 s.trace_id ++ (some_bytes 2 s.span_id ++ (some_bytes 3 s.trace_state
    ++ (some_bytes 4 s.parent_span_id ++ some_bytes 5 s.name)))

-- its kind and times
abbrev pub span_times_text : SpanData → List ℕ
span_times_text s =
    some_signed 6 s.kind ++ (some_eight 7 s.start_time_unix_nano ++ some_eight 8 s.end_time_unix_nano)

-- its attributes, events and links, with how many were left out
abbrev pub span_lists_text : SpanData → List ℕ
span_lists_text s =
    repeated 9 key_value_text s.attributes ++ (some_number 10 s.dropped_attributes_count
    ++ (repeated 11 event_text s.events ++ (some_number 12 s.dropped_events_count
    ++ (repeated 13 link_text s.links ++ some_number 14 s.dropped_links_count))))

-- its status, its flags and what isn't known
abbrev pub span_end_text : SpanData → List ℕ
span_end_text s = embedded 15 (option_map status_text s.status) ++ (some_four 16 s.flags ++ s.unknown)

-- Span
abbrev pub span_text : SpanData → List ℕ
span_text s = span_names_text s ++ (span_times_text s ++ (span_lists_text s ++ span_end_text s))

-- a scope spans of these texts: the scope's, where there is one, and the fields of its spans
abbrev pub scope_spans_of : Option (List ℕ) → List ℕ → List ℕ → List ℕ
scope_spans_of scope spans schema_url = embedded 1 scope ++ (spans ++ some_bytes 3 schema_url)

-- ScopeSpans
abbrev pub scope_spans_text : ScopeSpansData → List ℕ
scope_spans_text s = scope_spans_of (option_map scope_text s.scope) (repeated 2 span_text s.spans) s.schema_url

-- a resource spans of these texts: the resource's, where there is one, and the fields of its scope spans
abbrev pub resource_spans_of : Option (List ℕ) → List ℕ → List ℕ → List ℕ
resource_spans_of resource scope_spans schema_url = embedded 1 resource ++ (scope_spans ++ some_bytes 3 schema_url)

-- ResourceSpans
abbrev pub resource_spans_text : ResourceSpansData → List ℕ
resource_spans_text r =
    resource_spans_of (option_map resource_text r.resource) (repeated 2 scope_spans_text r.scope_spans) r.schema_url

-- ExportTraceServiceRequest
abbrev pub request_text : RequestData → List ℕ
request_text r = repeated 1 resource_spans_text r.resource_spans

-- ExportTracePartialSuccess
abbrev pub partial_success_text : PartialSuccessData → List ℕ
partial_success_text p = some_signed 1 p.rejected_spans ++ some_bytes 2 p.error_message

-- ExportTraceServiceResponse
abbrev pub response_text : ResponseData → List ℕ
response_text r = embedded 1 (option_map partial_success_text r.partial_success)

-- the status of a refused request (google.rpc.Status), with its message alone
abbrev pub refusal_text : List ℕ → List ℕ
refusal_text message = some_bytes 2 message
