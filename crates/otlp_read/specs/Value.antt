-- The value of a body, by the rules of the proto3 language guide and the encoding guide, and the field numbers of
-- opentelemetry-proto: a field that isn't repeated takes its last value, an embedded message that stands again is
-- merged, repeated fields keep their order, and each known string and message must itself be sound. Fields that aren't
-- known, and known ones with another wire type, are kept as they were spelled, but in a request, a resource spans, a
-- scope spans, a response and its partial success, where they are dropped.
use Rattle.std.specs.Prelude.{ℕ, ◌==◌, if◌then◌else◌, List, ◌++◌, Option, Some, None, unwrap_or, Result, Ok}
use Rattle.pb_wire.specs.Grammar.{Varint, Eight, Bytes, Four}
use Rattle.otlp_trace.specs.Data.{KeyValueData, ResourceData, ScopeData, StatusData, EventData, LinkData, SpanData, ScopeSpansData, ResourceSpansData, RequestData}
use Rattle.otlp_trace.specs.Defaults.{no_resource, no_scope, no_status, no_event, no_link, no_span, no_scope_spans, no_resource_spans, no_request}
use Rattle.otlp_read.specs.declared.fault.ReadFault.{ReadFault}
use Rattle.otlp_read.specs.AnyValue.{no_key_value, key_value_step}
use Rattle.otlp_read.specs.Numbers.{utf8, int32, uint32, fixed64, fixed32}
use Rattle.otlp_read.specs.Walk.{◌>>=◌, Step, Known, known_or_kept, known_or_dropped, read_with, with_another}
use Rattle.otlp_read.specs.Stands.{Makes, Stands}

-- ---- attributes, in which a reader has room for so many levels, as in each message below

-- one more attribute
abbrev pub with_attribute : ℕ → List KeyValueData → List ℕ → Result (List KeyValueData) ReadFault
with_attribute room others bs = with_another others (read_with key_value_step room no_key_value bs)

-- ---- a resource

-- a field that a resource doesn't know, behind those that it has kept
abbrev pub keep_resource : ResourceData → List ℕ → ResourceData
keep_resource r spelled = record r { unknown = r.unknown ++ spelled }

-- the fields of `Resource`, by number and wire type
abbrev pub resource_known : ℕ → Known ResourceData
resource_known room r n (Varint x) =
    if n == 2 then Some (Ok (record r { dropped_attributes_count = uint32 x })) else None
resource_known room r n (Bytes bs) =
    if n == 1 then Some (with_attribute room r.attributes bs >>= λ l. Ok (record r { attributes = l })) else None
resource_known room r n _ = None

-- a resource after one more field
abbrev pub resource_step : ℕ → Step ResourceData
resource_step room = known_or_kept (resource_known room) keep_resource

-- a resource that stands again is merged into the one that stands
abbrev pub merged_resource : ℕ → Option ResourceData → List ℕ → Result ResourceData ReadFault
merged_resource room old bs = read_with resource_step room (unwrap_or old no_resource) bs

-- ---- an instrumentation scope

-- a field that an instrumentation scope doesn't know, behind those that it has kept
abbrev pub keep_scope : ScopeData → List ℕ → ScopeData
keep_scope s spelled = record s { unknown = s.unknown ++ spelled }

-- the fields of `InstrumentationScope`, by number and wire type
abbrev pub scope_known : ℕ → Known ScopeData
scope_known room s n (Varint x) = if n == 4 then Some (Ok (record s { dropped_attributes_count = uint32 x })) else None
scope_known room s n (Bytes bs) =
    if n == 1 then Some (utf8 bs >>= λ text. Ok (record s { name = text }))
    else if n == 2 then Some (utf8 bs >>= λ text. Ok (record s { version = text }))
    else if n == 3 then Some (with_attribute room s.attributes bs >>= λ l. Ok (record s { attributes = l }))
    else None
scope_known room s n _ = None

-- an instrumentation scope after one more field
abbrev pub scope_step : ℕ → Step ScopeData
scope_step room = known_or_kept (scope_known room) keep_scope

-- a scope that stands again
abbrev pub merged_scope : ℕ → Option ScopeData → List ℕ → Result ScopeData ReadFault
merged_scope room old bs = read_with scope_step room (unwrap_or old no_scope) bs

-- ---- a span's status

-- a field that a span's status doesn't know, behind those that it has kept
abbrev pub keep_status : StatusData → List ℕ → StatusData
keep_status s spelled = record s { unknown = s.unknown ++ spelled }

-- the fields of `Status`, by number and wire type
abbrev pub status_known : Known StatusData
status_known s n (Varint x) = if n == 3 then Some (Ok (record s { code = int32 x })) else None
status_known s n (Bytes bs) = if n == 2 then Some (utf8 bs >>= λ text. Ok (record s { message = text })) else None
status_known s n _ = None

-- a span's status after one more field
abbrev pub status_step : ℕ → Step StatusData
status_step room = known_or_kept status_known keep_status

-- a status that stands again
abbrev pub merged_status : ℕ → Option StatusData → List ℕ → Result StatusData ReadFault
merged_status room old bs = read_with status_step room (unwrap_or old no_status) bs

-- ---- an event

-- a field that an event doesn't know, behind those that it has kept
abbrev pub keep_event : EventData → List ℕ → EventData
keep_event e spelled = record e { unknown = e.unknown ++ spelled }

-- the fields of `Span.Event`, by number and wire type
abbrev pub event_known : ℕ → Known EventData
event_known room e n (Varint x) = if n == 4 then Some (Ok (record e { dropped_attributes_count = uint32 x })) else None
event_known room e n (Eight bs) = if n == 1 then Some (Ok (record e { time_unix_nano = fixed64 bs })) else None
event_known room e n (Bytes bs) =
    if n == 2 then Some (utf8 bs >>= λ text. Ok (record e { name = text }))
    else if n == 3 then Some (with_attribute room e.attributes bs >>= λ l. Ok (record e { attributes = l }))
    else None
event_known room e n _ = None

-- an event after one more field
abbrev pub event_step : ℕ → Step EventData
event_step room = known_or_kept (event_known room) keep_event

-- one more event
abbrev pub with_event : ℕ → List EventData → List ℕ → Result (List EventData) ReadFault
with_event room others bs = with_another others (read_with event_step room no_event bs)

-- ---- a link

-- a field that a link doesn't know, behind those that it has kept
abbrev pub keep_link : LinkData → List ℕ → LinkData
keep_link l spelled = record l { unknown = l.unknown ++ spelled }

-- the fields of `Span.Link`, by number and wire type
abbrev pub link_known : ℕ → Known LinkData
link_known room l n (Varint x) = if n == 5 then Some (Ok (record l { dropped_attributes_count = uint32 x })) else None
link_known room l n (Four bs) = if n == 6 then Some (Ok (record l { flags = fixed32 bs })) else None
link_known room l n (Bytes bs) =
    if n == 1 then Some (Ok (record l { trace_id = bs }))
    else if n == 2 then Some (Ok (record l { span_id = bs }))
    else if n == 3 then Some (utf8 bs >>= λ text. Ok (record l { trace_state = text }))
    else if n == 4 then Some (with_attribute room l.attributes bs >>= λ ps. Ok (record l { attributes = ps }))
    else None
link_known room l n _ = None

-- a link after one more field
abbrev pub link_step : ℕ → Step LinkData
link_step room = known_or_kept (link_known room) keep_link

-- one more link
abbrev pub with_link : ℕ → List LinkData → List ℕ → Result (List LinkData) ReadFault
with_link room others bs = with_another others (read_with link_step room no_link bs)

-- ---- a span

-- a field that a span doesn't know, behind those that it has kept
abbrev pub keep_span : SpanData → List ℕ → SpanData
keep_span s spelled = record s { unknown = s.unknown ++ spelled }

-- the fields of `Span`, by number and wire type
abbrev pub span_known : ℕ → Known SpanData
span_known room s n (Varint x) =
    if n == 6 then Some (Ok (record s { kind = int32 x }))
    else if n == 10 then Some (Ok (record s { dropped_attributes_count = uint32 x }))
    else if n == 12 then Some (Ok (record s { dropped_events_count = uint32 x }))
    else if n == 14 then Some (Ok (record s { dropped_links_count = uint32 x }))
    else None
span_known room s n (Eight bs) =
    if n == 7 then Some (Ok (record s { start_time_unix_nano = fixed64 bs }))
    else if n == 8 then Some (Ok (record s { end_time_unix_nano = fixed64 bs }))
    else None
span_known room s n (Four bs) = if n == 16 then Some (Ok (record s { flags = fixed32 bs })) else None
span_known room s n (Bytes bs) =
    if n == 1 then Some (Ok (record s { trace_id = bs }))
    else if n == 2 then Some (Ok (record s { span_id = bs }))
    else if n == 3 then Some (utf8 bs >>= λ text. Ok (record s { trace_state = text }))
    else if n == 4 then Some (Ok (record s { parent_span_id = bs }))
    else if n == 5 then Some (utf8 bs >>= λ text. Ok (record s { name = text }))
    else if n == 9 then Some (with_attribute room s.attributes bs >>= λ l. Ok (record s { attributes = l }))
    else if n == 11 then Some (with_event room s.events bs >>= λ l. Ok (record s { events = l }))
    else if n == 13 then Some (with_link room s.links bs >>= λ l. Ok (record s { links = l }))
    else if n == 15 then Some (merged_status room s.status bs >>= λ x. Ok (record s { status = Some x }))
    else None
span_known room s n _ = None

-- a span after one more field
abbrev pub span_step : ℕ → Step SpanData
span_step room = known_or_kept (span_known room) keep_span

-- one more span
abbrev pub with_span : ℕ → List SpanData → List ℕ → Result (List SpanData) ReadFault
with_span room others bs = with_another others (read_with span_step room no_span bs)

-- ---- spans by scope and resource

-- the fields of `ScopeSpans`, by number and wire type
abbrev pub scope_spans_known : ℕ → Known ScopeSpansData
scope_spans_known room s n (Bytes bs) =
    if n == 1 then Some (merged_scope room s.scope bs >>= λ x. Ok (record s { scope = Some x }))
    else if n == 2 then Some (with_span room s.spans bs >>= λ l. Ok (record s { spans = l }))
    else if n == 3 then Some (utf8 bs >>= λ text. Ok (record s { schema_url = text }))
    else None
scope_spans_known room s n _ = None

-- a scope spans after one more field
abbrev pub scope_spans_step : ℕ → Step ScopeSpansData
scope_spans_step room = known_or_dropped (scope_spans_known room)

-- one more scope spans
abbrev pub with_scope_spans : ℕ → List ScopeSpansData → List ℕ → Result (List ScopeSpansData) ReadFault
with_scope_spans room others bs = with_another others (read_with scope_spans_step room no_scope_spans bs)

-- the fields of `ResourceSpans`, by number and wire type
abbrev pub resource_spans_known : ℕ → Known ResourceSpansData
resource_spans_known room r n (Bytes bs) =
    if n == 1 then Some (merged_resource room r.resource bs >>= λ x. Ok (record r { resource = Some x }))
    else if n == 2 then Some (with_scope_spans room r.scope_spans bs >>= λ l. Ok (record r { scope_spans = l }))
    else if n == 3 then Some (utf8 bs >>= λ text. Ok (record r { schema_url = text }))
    else None
resource_spans_known room r n _ = None

-- a resource spans after one more field
abbrev pub resource_spans_step : ℕ → Step ResourceSpansData
resource_spans_step room = known_or_dropped (resource_spans_known room)

-- one more resource spans
abbrev pub with_resource_spans : ℕ → List ResourceSpansData → List ℕ → Result (List ResourceSpansData) ReadFault
with_resource_spans room others bs = with_another others (read_with resource_spans_step room no_resource_spans bs)

-- ---- a request

-- the fields of `ExportTraceServiceRequest`, by number and wire type
abbrev pub request_known : ℕ → Known RequestData
request_known room r n (Bytes bs) =
    if n == 1 then Some (with_resource_spans room r.resource_spans bs >>= λ l. Ok (record r { resource_spans = l }))
    else None
request_known room r n _ = None

-- a request after one more field
abbrev pub request_step : ℕ → Step RequestData
request_step room = known_or_dropped (request_known room)

-- the value of a body, or the first fault that is met
abbrev pub value_of : List ℕ → Result RequestData ReadFault
value_of bytes = read_with request_step 101 no_request bytes

-- the body's fields make this request
abbrev pub IsValue : List ℕ → RequestData → Type 0
IsValue = Makes (request_step 100) 0 no_request

-- this fault stands in the body
abbrev pub IsFault : List ℕ → ReadFault → Type 0
IsFault = Stands (request_step 100) 0 no_request
