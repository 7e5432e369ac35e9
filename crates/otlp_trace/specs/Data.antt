-- What a message of opentelemetry-proto (common, resource, trace v1 and its service) is, without where it lies in
-- memory. Each message that keeps the fields it doesn't know has them last, as they were spelled (`unknown`); requests,
-- resource spans, scope spans, replies and their partial success keep none. Strings and bytes are lists of bytes.
use Rattle.std.specs.Prelude.{ℕ, ℤ, Bool, List, Option}

-- Attribute values, which may hold others. Lists among them are data of their own.
mutual
  -- AnyValue: which member of its oneof is chosen, and what was kept
  pub data AnyValueData : Type 0 where
    any_value : KindData → List ℕ → AnyValueData

  -- the member that is chosen, or none
  pub data KindData : Type 0 where
    unset : KindData
    string : List ℕ → KindData
    boolean : Bool → KindData
    int : ℤ → KindData
    double : List ℕ → KindData  -- its eight bytes, least first
    array : ArrayValueData → KindData
    kvlist : KeyValueListData → KindData
    bytes : List ℕ → KindData

  -- ArrayValue: values in order, and what was kept
  pub data ArrayValueData : Type 0 where
    array_value : AnyValues → List ℕ → ArrayValueData

  -- a list of values
  pub data AnyValues : Type 0 where
    no_values : AnyValues
    a_value : AnyValueData → AnyValues → AnyValues

  -- KeyValueList: pairs in order, and what was kept; a key may stand twice
  pub data KeyValueListData : Type 0 where
    key_value_list : KeyValues → List ℕ → KeyValueListData

  -- KeyValue: a key without a value or with one, and what was kept
  pub data KeyValueData : Type 0 where
    bare_key : List ℕ → List ℕ → KeyValueData
    key_value : List ℕ → AnyValueData → List ℕ → KeyValueData

  -- a list of such pairs
  pub data KeyValues : Type 0 where
    no_key_values : KeyValues
    a_key_value : KeyValueData → KeyValues → KeyValues

-- Resource: what produced the spans
pub record ResourceData : Type 0 where
  pub attributes : List KeyValueData
  pub dropped_attributes_count : ℕ
  pub unknown : List ℕ

-- InstrumentationScope: the library that made them
pub record ScopeData : Type 0 where
  pub name : List ℕ
  pub version : List ℕ
  pub attributes : List KeyValueData
  pub dropped_attributes_count : ℕ
  pub unknown : List ℕ

-- Status: how a span ended
pub record StatusData : Type 0 where
  pub message : List ℕ
  pub code : ℤ
  pub unknown : List ℕ

-- Span.Event: something that happened during a span
pub record EventData : Type 0 where
  pub time_unix_nano : ℕ
  pub name : List ℕ
  pub attributes : List KeyValueData
  pub dropped_attributes_count : ℕ
  pub unknown : List ℕ

-- Span.Link: a span that another one is linked to
pub record LinkData : Type 0 where
  pub trace_id : List ℕ
  pub span_id : List ℕ
  pub trace_state : List ℕ
  pub attributes : List KeyValueData
  pub dropped_attributes_count : ℕ
  pub flags : ℕ
  pub unknown : List ℕ

-- Span: one operation of a trace
pub record SpanData : Type 0 where
  pub trace_id : List ℕ
  pub span_id : List ℕ
  pub trace_state : List ℕ
  pub parent_span_id : List ℕ
  pub name : List ℕ
  pub kind : ℤ
  pub start_time_unix_nano : ℕ
  pub end_time_unix_nano : ℕ
  pub attributes : List KeyValueData
  pub dropped_attributes_count : ℕ
  pub events : List EventData
  pub dropped_events_count : ℕ
  pub links : List LinkData
  pub dropped_links_count : ℕ
  pub status : Option StatusData
  pub flags : ℕ
  pub unknown : List ℕ

-- ScopeSpans: the spans of one scope
pub record ScopeSpansData : Type 0 where
  pub scope : Option ScopeData
  pub spans : List SpanData
  pub schema_url : List ℕ

-- ResourceSpans: those of one resource, by scope
pub record ResourceSpansData : Type 0 where
  pub resource : Option ResourceData
  pub scope_spans : List ScopeSpansData
  pub schema_url : List ℕ

-- ExportTraceServiceRequest: what a client posts
pub record RequestData : Type 0 where
  pub resource_spans : List ResourceSpansData

-- ExportTracePartialSuccess: how much of a request was refused, and why
pub record PartialSuccessData : Type 0 where
  pub rejected_spans : ℤ
  pub error_message : List ℕ

-- ExportTraceServiceResponse: the reply to a request that was taken, at least in part
pub record ResponseData : Type 0 where
  pub partial_success : Option PartialSuccessData
