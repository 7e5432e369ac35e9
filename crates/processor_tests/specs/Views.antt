-- What the definitions of views say of small spans and texts. Texts are by hand, in hexadecimal, from the Protocol
-- Buffers encoding guide (https://protobuf.dev/programming-guides/encoding/) and the field numbers of
-- opentelemetry-proto. A line that ends in → ⊥ says that the relation doesn't hold there. `pos n` is n, and `negsuc n`
-- is minus n minus 1.
use Rattle.std.specs.Prelude.{◌≡◌, ℕ, pos, negsuc, true, List, [], ◌∷◌, ◌++◌, Some, None, codes}
use Rattle.pb_wire.specs.Grammar.{Varint, Bytes}
use Rattle.otlp_trace.specs.Data.{KeyValueData, KindData, any_value, bare_key, key_value, ResourceData, SpanData}
use Rattle.otlp_trace.specs.Data as otlp
use Rattle.otlp_trace.specs.Defaults.{no_span}
use Rattle.span_view.specs.Facts.{unset, string, boolean, array, bytes, ValueFact}
use Rattle.span_view.specs.Facts.{AttributeFact, SpanFacts, facts, AreText}
use Rattle.span_view.specs.Reading.{facts_of}
use Rattle.span_view.specs.Canonical.{NotInSpan, IsSpanText, IsResourceText}

abbrev pub attribute : List ℕ → ValueFact → AttributeFact
attribute key value = record { key = key; value = value }

-- what is told where nothing stands: empty ids, 0, UNSET
abbrev pub nothing : SpanFacts
nothing = record {
  trace_id = [];
  span_id = [];
  start_time_unix_nano = 0;
  end_time_unix_nano = 0;
  status = pos 0;
  attributes = [];
}

-- ---- a span and its resource

-- an attribute with this member, and nothing kept
abbrev pub with_value : List ℕ → KindData → KeyValueData
with_value key kind = key_value key (any_value kind []) []

-- ids of a byte or two, times 5 and 262, attributes "k" and "e", of which "e" has no value, an ERROR with the message
-- "m", and kept 1: 9
abbrev pub small_span : SpanData
small_span = record no_span {
  trace_id = 1 ∷ 2 ∷ [];
  span_id = 3 ∷ [];
  name = codes "n";
  start_time_unix_nano = 5;
  end_time_unix_nano = 262;
  attributes = with_value (codes "k") (otlp.string (codes "v")) ∷ bare_key (codes "e") [] ∷ [];
  status = Some (record { message = codes "m"; code = pos 2; unknown = [] });
  unknown = 0x08 ∷ 0x09 ∷ [];
}

abbrev pub small_span_text : List ℕ
small_span_text =
    0x0a ∷ 0x02 ∷ 0x01 ∷ 0x02
    ∷ 0x12 ∷ 0x01 ∷ 0x03
    ∷ 0x2a ∷ 0x01 ∷ 0x6e
    ∷ 0x39 ∷ 0x05 ∷ 0x00 ∷ 0x00 ∷ 0x00 ∷ 0x00 ∷ 0x00 ∷ 0x00 ∷ 0x00
    ∷ 0x41 ∷ 0x06 ∷ 0x01 ∷ 0x00 ∷ 0x00 ∷ 0x00 ∷ 0x00 ∷ 0x00 ∷ 0x00
    ∷ 0x4a ∷ 0x08 ∷ 0x0a ∷ 0x01 ∷ 0x6b ∷ 0x12 ∷ 0x03 ∷ 0x0a ∷ 0x01 ∷ 0x76
    ∷ 0x4a ∷ 0x03 ∷ 0x0a ∷ 0x01 ∷ 0x65
    ∷ 0x7a ∷ 0x05 ∷ 0x12 ∷ 0x01 ∷ 0x6d ∷ 0x18 ∷ 0x02
    ∷ 0x08 ∷ 0x09 ∷ []

-- "k" once more, and three attributes left out
abbrev pub small_resource : ResourceData
small_resource = record {
  attributes = with_value (codes "k") (otlp.boolean true) ∷ [];
  dropped_attributes_count = 3;
  unknown = [];
}

abbrev pub small_resource_text : List ℕ
small_resource_text = 0x0a ∷ 0x07 ∷ 0x0a ∷ 0x01 ∷ 0x6b ∷ 0x12 ∷ 0x02 ∷ 0x10 ∷ 0x01 ∷ 0x10 ∷ 0x03 ∷ []

-- the small span's attributes
abbrev pub own_attributes : List AttributeFact
own_attributes = attribute (codes "k") (string (codes "v")) ∷ attribute (codes "e") unset ∷ []

-- with the resource's behind them
abbrev pub small_facts : SpanFacts
small_facts = record {
  trace_id = 1 ∷ 2 ∷ [];
  span_id = 3 ∷ [];
  start_time_unix_nano = 5;
  end_time_unix_nano = 262;
  status = pos 2;
  attributes = own_attributes ++ attribute (codes "k") (boolean true) ∷ [];
}

-- minus two in 64 bits, in ten bytes
abbrev pub minus_two : List ℕ
minus_two = 0xfe ∷ 0xff ∷ 0xff ∷ 0xff ∷ 0xff ∷ 0xff ∷ 0xff ∷ 0xff ∷ 0xff ∷ 0x01 ∷ []

-- a span with an attribute "a", the array [1]
abbrev pub span_of_array : SpanData
span_of_array =
    let one = otlp.a_value (any_value (otlp.int (pos 1)) []) otlp.no_values in
    record no_span { attributes = with_value (codes "a") (otlp.array (otlp.array_value one [])) ∷ [] }

pub record Told : Type 0 where
  -- of the messages, and of their texts
  pub of_messages : facts small_span (Some small_resource) ≡ small_facts
  pub of_texts : facts_of small_span_text small_resource_text ≡ small_facts
  -- neither status nor resource
  pub of_none : facts no_span None ≡ nothing
  -- a status with a message alone, and one of minus two
  -- an array tells nothing of its members
  pub of_array : facts span_of_array None ≡ record nothing { attributes = attribute (codes "a") array ∷ [] }
  -- the first of two trace ids, behind the number 1 as a varint; and nothing behind a place where no field begins

-- ---- canonical texts

pub record CanonicalTexts : Type 0 where
  pub span : IsSpanText small_span_text small_span
  pub resource : IsResourceText small_resource_text (Some small_resource)
  pub none : IsResourceText [] None
  -- a number in a byte more than needed, and bytes where there is no resource
  pub longer : IsSpanText (0x30 ∷ 0x82 ∷ 0x00 ∷ []) (record no_span { kind = pos 2 }) → ⊥
  pub not_none : IsResourceText (0x10 ∷ 0x00 ∷ []) None → ⊥
  -- a view skips 1 as a number, and reads 1 as bytes
  pub skipped : NotInSpan 1 (Varint 9)
  pub read : NotInSpan 1 (Bytes []) → ⊥
  -- "ä" is UTF-8, a byte 0xff is not
  pub text : AreText (attribute (0xc3 ∷ 0xa4 ∷ []) unset ∷ [])
  pub no_key : AreText (attribute (0xff ∷ []) unset ∷ []) → ⊥
  pub no_string : AreText (attribute (codes "k") (string (0xff ∷ [])) ∷ []) → ⊥
  -- other bytes may be any
  pub any_bytes : AreText (attribute (codes "k") (bytes (0xff ∷ [])) ∷ [])
