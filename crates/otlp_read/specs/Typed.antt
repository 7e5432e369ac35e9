-- What the types of the code give: strings are UTF-8, a double has its eight bytes, and numbers fit their widths (the
-- proto3 language guide, "Scalar Value Types").
use Rattle.std.specs.Prelude.{◌≡◌, ◌<◌, ◌^◌, length, FitsSigned, IfSome}
use Rattle.std.specs.Int.{w32, w64}
use Rattle.std.specs.List.{AllByRecursion}
use Rattle.std.specs.Str.{IsUtf8}
use Rattle.otlp_trace.specs.Data.{AnyValueData, any_value, KindData, unset, string, boolean, int, double, array, kvlist, bytes, ArrayValueData, array_value, AnyValues, no_values, a_value, KeyValueListData, key_value_list, KeyValueData, bare_key, key_value, KeyValues, no_key_values, a_key_value, ResourceData, ScopeData, StatusData, EventData, LinkData, SpanData, ScopeSpansData, ResourceSpansData, RequestData, PartialSuccessData, ResponseData}

abbrev mutual
  -- a value
  pub TypedAny : AnyValueData → Type 0
  TypedAny (any_value kind unknown) = TypedKind kind

  -- the member of a value
  pub TypedKind : KindData → Type 0
  TypedKind unset = Unit {0}
  TypedKind (string bs) = IsUtf8 bs
  TypedKind (boolean b) = Unit {0}
  TypedKind (int z) = FitsSigned w64 z
  TypedKind (double bs) = length bs ≡ 8
  TypedKind (array a) = TypedArray a
  TypedKind (kvlist l) = TypedList l
  TypedKind (bytes bs) = Unit {0}

  -- an array
  pub TypedArray : ArrayValueData → Type 0
  TypedArray (array_value vs unknown) = TypedValues vs

  -- the values of an array
  pub TypedValues : AnyValues → Type 0
  TypedValues no_values = Unit {0}
  TypedValues (a_value v vs) = TypedAny v × TypedValues vs

  -- a list
  pub TypedList : KeyValueListData → Type 0
  TypedList (key_value_list ps unknown) = TypedKeyValues ps

  -- a key with its value
  pub TypedKeyValue : KeyValueData → Type 0
  TypedKeyValue (bare_key key unknown) = IsUtf8 key
  TypedKeyValue (key_value key v unknown) = IsUtf8 key × TypedAny v

  -- the keys of a list
  pub TypedKeyValues : KeyValues → Type 0
  TypedKeyValues no_key_values = Unit {0}
  TypedKeyValues (a_key_value p ps) = TypedKeyValue p × TypedKeyValues ps

-- a resource
pub record TypedResource (r : ResourceData) : Type 0 where
  pub attributes : AllByRecursion TypedKeyValue r.attributes
  pub dropped_attributes_count : r.dropped_attributes_count < 2 ^ 32

-- an instrumentation scope
pub record TypedScope (s : ScopeData) : Type 0 where
  pub name : IsUtf8 s.name
  pub version : IsUtf8 s.version
  pub attributes : AllByRecursion TypedKeyValue s.attributes
  pub dropped_attributes_count : s.dropped_attributes_count < 2 ^ 32

-- a span's status
pub record TypedStatus (s : StatusData) : Type 0 where
  pub message : IsUtf8 s.message
  pub code : FitsSigned w32 s.code

-- an event
pub record TypedEvent (e : EventData) : Type 0 where
  pub time_unix_nano : e.time_unix_nano < 2 ^ 64
  pub name : IsUtf8 e.name
  pub attributes : AllByRecursion TypedKeyValue e.attributes
  pub dropped_attributes_count : e.dropped_attributes_count < 2 ^ 32

-- a link
pub record TypedLink (l : LinkData) : Type 0 where
  pub trace_state : IsUtf8 l.trace_state
  pub attributes : AllByRecursion TypedKeyValue l.attributes
  pub dropped_attributes_count : l.dropped_attributes_count < 2 ^ 32
  pub flags : l.flags < 2 ^ 32

-- a span
pub record TypedSpan (s : SpanData) : Type 0 where
  pub trace_state : IsUtf8 s.trace_state
  pub name : IsUtf8 s.name
  pub kind : FitsSigned w32 s.kind
  pub start_time_unix_nano : s.start_time_unix_nano < 2 ^ 64
  pub end_time_unix_nano : s.end_time_unix_nano < 2 ^ 64
  pub attributes : AllByRecursion TypedKeyValue s.attributes
  pub dropped_attributes_count : s.dropped_attributes_count < 2 ^ 32
  pub events : AllByRecursion TypedEvent s.events
  pub dropped_events_count : s.dropped_events_count < 2 ^ 32
  pub links : AllByRecursion TypedLink s.links
  pub dropped_links_count : s.dropped_links_count < 2 ^ 32
  pub status : IfSome s.status TypedStatus
  pub flags : s.flags < 2 ^ 32

-- a scope spans
pub record TypedScopeSpans (s : ScopeSpansData) : Type 0 where
  pub scope : IfSome s.scope TypedScope
  pub spans : AllByRecursion TypedSpan s.spans
  pub schema_url : IsUtf8 s.schema_url

-- a resource spans
pub record TypedResourceSpans (r : ResourceSpansData) : Type 0 where
  pub resource : IfSome r.resource TypedResource
  pub scope_spans : AllByRecursion TypedScopeSpans r.scope_spans
  pub schema_url : IsUtf8 r.schema_url

-- a request
pub record TypedRequest (r : RequestData) : Type 0 where
  pub resource_spans : AllByRecursion TypedResourceSpans r.resource_spans

-- a partial success
pub record TypedPartialSuccess (p : PartialSuccessData) : Type 0 where
  pub rejected_spans : FitsSigned w64 p.rejected_spans
  pub error_message : IsUtf8 p.error_message

-- a reply
pub record TypedResponse (r : ResponseData) : Type 0 where
  pub partial_success : IfSome r.partial_success TypedPartialSuccess
