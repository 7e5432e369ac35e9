-- What a view tells of a span and its resource: what sampling policies ask. The messages and their fields are those of
-- OTLP 1.x's trace.proto, common.proto and resource.proto (https://github.com/open-telemetry/opentelemetry-proto).
use Rattle.std.specs.Prelude.{ℕ, ℤ, pos, Bool, List, [], ◌++◌, map, Option, Some, None}
use Rattle.std.specs.List.{AllByRecursion}
use Rattle.std.specs.Str.{IsUtf8}
use Rattle.otlp_trace.specs.Data.{AnyValueData, KindData, KeyValueData, ResourceData, StatusData, SpanData}
use Rattle.otlp_trace.specs.Data as otlp

-- the kind of an attribute's value, a member of common.proto's AnyValue, and what it holds where it holds no further
-- values
pub data ValueFact : Type 0 where
  unset : ValueFact
  string : List ℕ → ValueFact
  boolean : Bool → ValueFact
  int : ℤ → ValueFact
  double : List ℕ → ValueFact  -- its eight bytes, least first
  array : ValueFact
  kvlist : ValueFact
  bytes : List ℕ → ValueFact

-- an attribute, of common.proto's KeyValue: the bytes of its key, and its value
pub record AttributeFact : Type 0 where
  pub key : List ℕ
  pub value : ValueFact

-- what is told of a span: fields of trace.proto's Span, the code of its Status, and its attributes with its resource's
pub record SpanFacts : Type 0 where
  pub trace_id : List ℕ
  pub span_id : List ℕ
  pub start_time_unix_nano : ℕ
  pub end_time_unix_nano : ℕ
  pub status : ℤ
  pub attributes : List AttributeFact

-- ---- the facts of a span and its resource

-- a member of AnyValue, without the values in an array or a list of keys
abbrev pub kind_fact : KindData → ValueFact
kind_fact otlp.unset = unset
kind_fact (otlp.string bs) = string bs
kind_fact (otlp.boolean b) = boolean b
kind_fact (otlp.int z) = int z
kind_fact (otlp.double bs) = double bs
kind_fact (otlp.array a) = array
kind_fact (otlp.kvlist l) = kvlist
kind_fact (otlp.bytes bs) = bytes bs

-- a value, without the fields that it has kept
abbrev pub value_fact : AnyValueData → ValueFact
value_fact (otlp.any_value kind unknown) = kind_fact kind

-- an attribute as a message has it; a key without a value has an unset one
abbrev pub key_value_fact : KeyValueData → AttributeFact
key_value_fact (otlp.bare_key key unknown) = record { key = key; value = unset }
key_value_fact (otlp.key_value key v unknown) = record { key = key; value = value_fact v }

-- the code of a status; a missing one is UNSET, which trace.proto's StatusCode numbers 0
abbrev pub status_fact : Option StatusData → ℤ
status_fact None = pos 0
status_fact (Some status) = status.code

-- the attributes of a resource; a missing one has none
abbrev pub resource_attributes : Option ResourceData → List KeyValueData
resource_attributes None = []
resource_attributes (Some resource) = resource.attributes

-- the facts of a span and its resource: the span's attributes come first, and each occurrence of a key counts
abbrev pub facts : SpanData → Option ResourceData → SpanFacts
facts s r = record {
  trace_id = s.trace_id;
  span_id = s.span_id;
  start_time_unix_nano = s.start_time_unix_nano;
  end_time_unix_nano = s.end_time_unix_nano;
  status = status_fact s.status;
  attributes = map key_value_fact s.attributes ++ map key_value_fact (resource_attributes r);
}

-- ---- what is text is UTF-8, as proto3 asks of every `string` field

-- a value is UTF-8 where it is a string
abbrev pub IsValueText : ValueFact → Type 0
IsValueText (string bs) = IsUtf8 bs
IsValueText _ = Unit {0}

-- an attribute's key is UTF-8, and so is its value where that is a string
pub record IsAttributeText (a : AttributeFact) : Type 0 where
  pub key : IsUtf8 a.key
  pub value : IsValueText a.value

-- the same of each attribute
abbrev pub AreText : List AttributeFact → Type 0
AreText attributes = AllByRecursion IsAttributeText attributes
