-- The example trace: examples/trace.json of opentelemetry-proto
-- (https://github.com/open-telemetry/opentelemetry-proto), and its bytes by hand, in hexadecimal, from the numbers and
-- types of the fields in its .proto files and the Protocol Buffers encoding guide
-- (https://protobuf.dev/programming-guides/encoding/). Test crates try their definitions on it.
use Rattle.std.specs.Prelude.{ℕ, pos, List, [], ◌∷◌, ◌++◌, Some, None, codes}
use Rattle.otlp_trace.specs.Data.{any_value, string, KeyValueData, key_value, ResourceData, ScopeData, SpanData, RequestData}
use Rattle.otlp_trace.specs.Defaults.{no_resource, no_scope, no_span}

-- an attribute that is a string, with nothing kept
abbrev pub text_attribute : List ℕ → List ℕ → KeyValueData
text_attribute key text = key_value key (any_value (string text) []) []

-- the example's resource
abbrev pub example_resource : ResourceData
example_resource = record no_resource {
  attributes = text_attribute (codes "service.name") (codes "my.service") ∷ [];
}

-- its 30 bytes: the attribute has 28, and its value 12
abbrev pub example_resource_bytes : List ℕ
example_resource_bytes =
    0x0a ∷ 0x1c ∷ 0x0a ∷ 0x0c ∷ (codes "service.name" ++ (0x12 ∷ 0x0c ∷ 0x0a ∷ 0x0a ∷ codes "my.service"))

-- its scope
abbrev pub example_scope : ScopeData
example_scope = record no_scope {
  name = codes "my.library";
  version = codes "1.0.0";
  attributes = text_attribute (codes "my.scope.attribute") (codes "some scope attribute") ∷ [];
}

-- its 65 bytes: the attribute has 44, and its value 22
abbrev pub example_scope_bytes : List ℕ
example_scope_bytes =
    0x0a ∷ 0x0a ∷ (codes "my.library" ++ (0x12 ∷ 0x05 ∷ (codes "1.0.0"
    ++ (0x1a ∷ 0x2c ∷ 0x0a ∷ 0x12 ∷ (codes "my.scope.attribute"
    ++ (0x12 ∷ 0x16 ∷ 0x0a ∷ 0x14 ∷ codes "some scope attribute"))))))

-- 5B8EFFF798038103D269B633813FC60C, and the span ids EEE19B7EC3C1B174 and ..73
abbrev pub example_trace_id : List ℕ
example_trace_id =
    0x5b ∷ 0x8e ∷ 0xff ∷ 0xf7 ∷ 0x98 ∷ 0x03 ∷ 0x81 ∷ 0x03
    ∷ 0xd2 ∷ 0x69 ∷ 0xb6 ∷ 0x33 ∷ 0x81 ∷ 0x3f ∷ 0xc6 ∷ 0x0c ∷ []

-- the span's own id
abbrev pub example_span_id : List ℕ
example_span_id = 0xee ∷ 0xe1 ∷ 0x9b ∷ 0x7e ∷ 0xc3 ∷ 0xc1 ∷ 0xb1 ∷ 0x74 ∷ []

-- its parent's
abbrev pub example_parent : List ℕ
example_parent = 0xee ∷ 0xe1 ∷ 0x9b ∷ 0x7e ∷ 0xc3 ∷ 0xc1 ∷ 0xb1 ∷ 0x73 ∷ []

-- its span
abbrev pub example_span : SpanData
example_span = record no_span {
  trace_id = example_trace_id;
  span_id = example_span_id;
  parent_span_id = example_parent;
  name = codes "I'm a server span";
  kind = pos 2;
  start_time_unix_nano = 1544712660000000000;
  end_time_unix_nano = 1544712661000000000;
  attributes = text_attribute (codes "my.span.attr") (codes "some value") ∷ [];
}

-- Its 107 bytes. The times are 0x156febfae3594800 and 0x156febfb1ef41200, least byte first; the attribute has 28 bytes.
abbrev pub example_span_bytes : List ℕ
example_span_bytes =
    0x0a ∷ 0x10 ∷ (example_trace_id ++ (0x12 ∷ 0x08 ∷ (example_span_id ++ (0x22 ∷ 0x08 ∷ (example_parent
    ++ (0x2a ∷ 0x11 ∷ (codes "I'm a server span"
    ++ (0x30 ∷ 0x02
    ∷ 0x39 ∷ 0x00 ∷ 0x48 ∷ 0x59 ∷ 0xe3 ∷ 0xfa ∷ 0xeb ∷ 0x6f ∷ 0x15
    ∷ 0x41 ∷ 0x00 ∷ 0x12 ∷ 0xf4 ∷ 0x1e ∷ 0xfb ∷ 0xeb ∷ 0x6f ∷ 0x15
    ∷ 0x4a ∷ 0x1c ∷ 0x0a ∷ 0x0c ∷ (codes "my.span.attr" ++ (0x12 ∷ 0x0c ∷ 0x0a ∷ 0x0a ∷ codes "some value"))))))))))

-- the whole of it
abbrev pub example_request : RequestData
example_request = record {
  resource_spans = record {
    resource = Some example_resource;
    scope_spans = record { scope = Some example_scope; spans = example_span ∷ []; schema_url = [] } ∷ [];
    schema_url = [];
  } ∷ [];
}

-- 211 bytes of resource spans, of which 176 are the scope spans: d3 01 and b0 01
abbrev pub example_bytes : List ℕ
example_bytes =
    0x0a ∷ 0xd3 ∷ 0x01 ∷ 0x0a ∷ 0x1e ∷ (example_resource_bytes
    ++ (0x12 ∷ 0xb0 ∷ 0x01 ∷ 0x0a ∷ 0x41 ∷ (example_scope_bytes ++ (0x12 ∷ 0x6b ∷ example_span_bytes))))
