-- Messages of no fields, by the proto3 language guide (https://protobuf.dev/programming-guides/proto3/, default field
-- values): numbers are zero, texts are empty, no message stands, and nothing is kept. Readers begin with them.
use Rattle.std.specs.Prelude.{ℕ, pos, [], None}
use Rattle.otlp_trace.specs.Data.{ResourceData, ScopeData, StatusData, EventData, LinkData, SpanData, ScopeSpansData, ResourceSpansData, RequestData}

-- a resource of no fields
abbrev pub no_resource : ResourceData
no_resource = record { attributes = []; dropped_attributes_count = 0; unknown = [] }

-- an instrumentation scope of no fields
abbrev pub no_scope : ScopeData
no_scope = record { name = []; version = []; attributes = []; dropped_attributes_count = 0; unknown = [] }

-- a span's status of no fields
abbrev pub no_status : StatusData
no_status = record { message = []; code = pos 0; unknown = [] }

-- an event of no fields
abbrev pub no_event : EventData
no_event = record { time_unix_nano = 0; name = []; attributes = []; dropped_attributes_count = 0; unknown = [] }

-- a link of no fields
abbrev pub no_link : LinkData
no_link = record {
  trace_id = [];
  span_id = [];
  trace_state = [];
  attributes = [];
  dropped_attributes_count = 0;
  flags = 0;
  unknown = [];
}

-- a span of no fields
abbrev pub no_span : SpanData
no_span = record {
  trace_id = [];
  span_id = [];
  trace_state = [];
  parent_span_id = [];
  name = [];
  kind = pos 0;
  start_time_unix_nano = 0;
  end_time_unix_nano = 0;
  attributes = [];
  dropped_attributes_count = 0;
  events = [];
  dropped_events_count = 0;
  links = [];
  dropped_links_count = 0;
  status = None;
  flags = 0;
  unknown = [];
}

-- a scope spans of no fields
abbrev pub no_scope_spans : ScopeSpansData
no_scope_spans = record { scope = None; spans = []; schema_url = [] }

-- a resource spans of no fields
abbrev pub no_resource_spans : ResourceSpansData
no_resource_spans = record { resource = None; scope_spans = []; schema_url = [] }

-- a request of no fields
abbrev pub no_request : RequestData
no_request = record { resource_spans = [] }
