-- What the types of the code stand for: the data of the same message, without where it lies in memory. Messages are
-- those of opentelemetry-proto, as Data has them.
use Rattle.std.specs.Prelude.{ℕ, List, [], ◌∷◌, map, Option, Some, None, option_map, string_bytes}
use Rattle.otlp_trace.specs.Data.{AnyValueData, any_value, KindData, unset, string, boolean, int, double, array, kvlist, bytes, ArrayValueData, array_value, AnyValues, no_values, a_value, KeyValueListData, key_value_list, KeyValueData, bare_key, key_value, KeyValues, no_key_values, a_key_value, ResourceData, ScopeData, StatusData, EventData, LinkData, SpanData, ScopeSpansData, ResourceSpansData, RequestData, PartialSuccessData, ResponseData}
use Rattle.otlp_trace.specs.declared.value.AnyValue.{AnyValue}
use Rattle.otlp_trace.specs.declared.value.AnyValueKind.{AnyValueKind}
use Rattle.otlp_trace.specs.declared.value.ArrayValue.{ArrayValue}
use Rattle.otlp_trace.specs.declared.value.KeyValue.{KeyValue}
use Rattle.otlp_trace.specs.declared.value.KeyValueList.{KeyValueList}
use Rattle.otlp_trace.specs.declared.value.AnyValueKind.TheOpen.{AnyValue-F, AnyValueKind-F, ArrayValue-F, KeyValueList-F, KeyValue-F}
use Rattle.otlp_trace.specs.declared.value.AnyValueKind.TheFolds.{fold-AnyValue, fold-AnyValueKind, fold-ArrayValue, fold-KeyValueList, fold-KeyValue}
use Rattle.otlp_trace.specs.declared.message.Resource.{Resource}
use Rattle.otlp_trace.specs.declared.message.InstrumentationScope.{InstrumentationScope}
use Rattle.otlp_trace.specs.declared.message.ScopeSpans.{ScopeSpans}
use Rattle.otlp_trace.specs.declared.message.ResourceSpans.{ResourceSpans}
use Rattle.otlp_trace.specs.declared.message.ExportTraceServiceRequest.{ExportTraceServiceRequest}
use Rattle.otlp_trace.specs.declared.span.Status.{Status}
use Rattle.otlp_trace.specs.declared.span.Event.{Event}
use Rattle.otlp_trace.specs.declared.span.Link.{Link}
use Rattle.otlp_trace.specs.declared.span.Span.{Span}
use Rattle.otlp_trace.specs.declared.response.ExportTracePartialSuccess.{ExportTracePartialSuccess}
use Rattle.otlp_trace.specs.declared.response.ExportTraceServiceResponse.{ExportTraceServiceResponse}

-- ---- attribute values

-- They may hold others, so they are seen from the innermost value outwards. A type whose name ends in -F is one level
-- of the code's type, with the data of what lies inside in its place; a function whose name ends in _level turns it
-- into data, and the folds apply these.

-- a list of values as data
abbrev pub values_of : List AnyValueData → AnyValues
values_of [] = no_values
values_of (v ∷ vs) = a_value v (values_of vs)

-- a list of pairs as data
abbrev pub key_values_of : List KeyValueData → KeyValues
key_values_of [] = no_key_values
key_values_of (p ∷ ps) = a_key_value p (key_values_of ps)

-- a pair as data: an attribute without a value stays one without
abbrev pub key_value_of : List ℕ → Option AnyValueData → List ℕ → KeyValueData
key_value_of key None unknown = bare_key key unknown
key_value_of key (Some v) unknown = key_value key v unknown

-- one level of each type, with what is inside it already seen
abbrev pub any_level :
    AnyValue-F KindData AnyValueData ArrayValueData KeyValueData KeyValueListData → AnyValueData
any_level v = any_value v.kind v.unknown

-- the same of the member that is chosen
abbrev pub kind_level :
    AnyValueKind-F KindData AnyValueData ArrayValueData KeyValueData KeyValueListData → KindData
kind_level AnyValueKind-F.Unset = unset
kind_level (AnyValueKind-F.String s) = string (string_bytes s)
kind_level (AnyValueKind-F.Bool b) = boolean b
kind_level (AnyValueKind-F.Int z) = int z
kind_level (AnyValueKind-F.Double d) = double d.0
kind_level (AnyValueKind-F.Array a) = array a
kind_level (AnyValueKind-F.KeyValueList l) = kvlist l
kind_level (AnyValueKind-F.Bytes bs) = bytes bs

-- of an array
abbrev pub array_level :
    ArrayValue-F KindData AnyValueData ArrayValueData KeyValueData KeyValueListData → ArrayValueData
array_level a = array_value (values_of a.values.items) a.unknown

-- of a list of pairs
abbrev pub list_level :
    KeyValueList-F KindData AnyValueData ArrayValueData KeyValueData KeyValueListData → KeyValueListData
list_level l = key_value_list (key_values_of l.values.items) l.unknown

-- of a pair
abbrev pub key_value_level :
    KeyValue-F KindData AnyValueData ArrayValueData KeyValueData KeyValueListData → KeyValueData
key_value_level p = key_value_of (string_bytes p.key) p.value p.unknown

-- AnyValue
abbrev pub any_view : AnyValue → AnyValueData
any_view =
    fold-AnyValue KindData AnyValueData ArrayValueData KeyValueData KeyValueListData
    kind_level any_level array_level key_value_level list_level

-- which member is chosen
abbrev pub kind_view : AnyValueKind → KindData
kind_view =
    fold-AnyValueKind KindData AnyValueData ArrayValueData KeyValueData KeyValueListData
    kind_level any_level array_level key_value_level list_level

-- ArrayValue
abbrev pub array_view : ArrayValue → ArrayValueData
array_view =
    fold-ArrayValue KindData AnyValueData ArrayValueData KeyValueData KeyValueListData
    kind_level any_level array_level key_value_level list_level

-- KeyValueList
abbrev pub list_view : KeyValueList → KeyValueListData
list_view =
    fold-KeyValueList KindData AnyValueData ArrayValueData KeyValueData KeyValueListData
    kind_level any_level array_level key_value_level list_level

-- KeyValue
abbrev pub key_value_view : KeyValue → KeyValueData
key_value_view =
    fold-KeyValue KindData AnyValueData ArrayValueData KeyValueData KeyValueListData
    kind_level any_level array_level key_value_level list_level

-- ---- messages

-- Resource: each field is that of the same name, with what it holds viewed in turn
abbrev pub resource_view : Resource → ResourceData
resource_view r = record {
  attributes = map key_value_view r.attributes;
  dropped_attributes_count = r.dropped_attributes_count;
  unknown = r.unknown;
}

-- InstrumentationScope
abbrev pub scope_view : InstrumentationScope → ScopeData
scope_view s = record {
  name = string_bytes s.name;
  version = string_bytes s.version;
  attributes = map key_value_view s.attributes;
  dropped_attributes_count = s.dropped_attributes_count;
  unknown = s.unknown;
}

-- Status
abbrev pub status_view : Status → StatusData
status_view s = record { message = string_bytes s.message; code = s.code; unknown = s.unknown }

-- Span.Event
abbrev pub event_view : Event → EventData
event_view e = record {
  time_unix_nano = e.time_unix_nano;
  name = string_bytes e.name;
  attributes = map key_value_view e.attributes;
  dropped_attributes_count = e.dropped_attributes_count;
  unknown = e.unknown;
}

-- Span.Link
abbrev pub link_view : Link → LinkData
link_view l = record {
  trace_id = l.trace_id;
  span_id = l.span_id;
  trace_state = string_bytes l.trace_state;
  attributes = map key_value_view l.attributes;
  dropped_attributes_count = l.dropped_attributes_count;
  flags = l.flags;
  unknown = l.unknown;
}

-- Span
abbrev pub span_view : Span → SpanData
span_view s = record {
  trace_id = s.trace_id;
  span_id = s.span_id;
  trace_state = string_bytes s.trace_state;
  parent_span_id = s.parent_span_id;
  name = string_bytes s.name;
  kind = s.kind;
  start_time_unix_nano = s.start_time_unix_nano;
  end_time_unix_nano = s.end_time_unix_nano;
  attributes = map key_value_view s.attributes;
  dropped_attributes_count = s.dropped_attributes_count;
  events = map event_view s.events;
  dropped_events_count = s.dropped_events_count;
  links = map link_view s.links;
  dropped_links_count = s.dropped_links_count;
  status = option_map status_view s.status;
  flags = s.flags;
  unknown = s.unknown;
}

-- ScopeSpans
abbrev pub scope_spans_view : ScopeSpans → ScopeSpansData
scope_spans_view s = record {
  scope = option_map scope_view s.scope;
  spans = map span_view s.spans;
  schema_url = string_bytes s.schema_url;
}

-- ResourceSpans
abbrev pub resource_spans_view : ResourceSpans → ResourceSpansData
resource_spans_view r = record {
  resource = option_map resource_view r.resource;
  scope_spans = map scope_spans_view r.scope_spans;
  schema_url = string_bytes r.schema_url;
}

-- ExportTraceServiceRequest
abbrev pub request_view : ExportTraceServiceRequest → RequestData
request_view r = record { resource_spans = map resource_spans_view r.resource_spans }

-- ExportTracePartialSuccess
abbrev pub partial_success_view : ExportTracePartialSuccess → PartialSuccessData
partial_success_view p = record { rejected_spans = p.rejected_spans; error_message = string_bytes p.error_message }

-- ExportTraceServiceResponse
abbrev pub response_view : ExportTraceServiceResponse → ResponseData
response_view r = record { partial_success = option_map partial_success_view r.partial_success }
