-- Values that the types of the code hold and a reader takes: strings are UTF-8, numbers fit their widths, and messages
-- are nested no deeper than there is room for (the proto3 language guide, "Scalar Value Types"; how deep they are
-- nested is this project's own rule).
use Rattle.std.specs.Prelude.{ℕ, ◌<◌, ◌^◌, FitsSigned, IfSome}
use Rattle.std.specs.Int.{w32}
use Rattle.std.specs.Str.{IsUtf8}
use Rattle.std.specs.List.{AllByRecursion}
use Rattle.otlp_trace.specs.Data.{AnyValueData, KindData, ArrayValueData, KeyValueListData, KeyValueData, ResourceData, ScopeData, StatusData, EventData, LinkData, SpanData, ScopeSpansData, ResourceSpansData, RequestData}
use Rattle.otlp_read.specs.Nested.{NestedAny, NestedKind, NestedArray, NestedList, NestedKeyValue, NestedResource, NestedScope, NestedStatus, NestedEvent, NestedLink, NestedSpan, NestedScopeSpans, NestedResourceSpans, NestedRequest, Kept}
use Rattle.otlp_read.specs.Value.{span_known}
use Rattle.otlp_read.specs.Typed.{TypedAny, TypedKind, TypedArray, TypedList, TypedKeyValue, TypedResource, TypedScope, TypedStatus, TypedEvent, TypedLink, TypedSpan, TypedScopeSpans, TypedResourceSpans, TypedRequest}

-- any value at all
abbrev pub Any : {A : Type 0} → A → Type 0
Any x = Unit {0}

-- an attribute's value
pub record SoundAny (room : ℕ) (v : AnyValueData) : Type 0 where
  pub typed : TypedAny v
  pub nested : NestedAny room v

-- the member of a value's oneof
pub record SoundKind (room : ℕ) (k : KindData) : Type 0 where
  pub typed : TypedKind k
  pub nested : NestedKind room k

-- an array
pub record SoundArray (room : ℕ) (a : ArrayValueData) : Type 0 where
  pub typed : TypedArray a
  pub nested : NestedArray room a

-- a list of keys with values
pub record SoundList (room : ℕ) (l : KeyValueListData) : Type 0 where
  pub typed : TypedList l
  pub nested : NestedList room l

-- a key with its value
pub record SoundKeyValue (room : ℕ) (p : KeyValueData) : Type 0 where
  pub typed : TypedKeyValue p
  pub nested : NestedKeyValue room p

-- a resource
pub record SoundResource (room : ℕ) (r : ResourceData) : Type 0 where
  pub typed : TypedResource r
  pub nested : NestedResource room r

-- an instrumentation scope
pub record SoundScope (room : ℕ) (s : ScopeData) : Type 0 where
  pub typed : TypedScope s
  pub nested : NestedScope room s

-- a span's status
pub record SoundStatus (room : ℕ) (s : StatusData) : Type 0 where
  pub typed : TypedStatus s
  pub nested : NestedStatus room s

-- an event
pub record SoundEvent (room : ℕ) (e : EventData) : Type 0 where
  pub typed : TypedEvent e
  pub nested : NestedEvent room e

-- a link
pub record SoundLink (room : ℕ) (l : LinkData) : Type 0 where
  pub typed : TypedLink l
  pub nested : NestedLink room l

-- a span
pub record SoundSpan (room : ℕ) (s : SpanData) : Type 0 where
  pub typed : TypedSpan s
  pub nested : NestedSpan room s

-- a scope spans
pub record SoundScopeSpans (room : ℕ) (s : ScopeSpansData) : Type 0 where
  pub typed : TypedScopeSpans s
  pub nested : NestedScopeSpans room s

-- a resource spans
pub record SoundResourceSpans (room : ℕ) (r : ResourceSpansData) : Type 0 where
  pub typed : TypedResourceSpans r
  pub nested : NestedResourceSpans room r

-- a request
pub record SoundRequest (r : RequestData) : Type 0 where
  pub typed : TypedRequest r
  pub nested : NestedRequest r

-- ---- the parts of a span's text, of which each looks at some of the span's fields

-- its ids and names
pub record SoundNames (s : SpanData) : Type 0 where
  pub trace_state : IsUtf8 s.trace_state
  pub name : IsUtf8 s.name

-- its kind and times
pub record SoundTimes (s : SpanData) : Type 0 where
  pub kind : FitsSigned w32 s.kind
  pub start_time_unix_nano : s.start_time_unix_nano < 2 ^ 64
  pub end_time_unix_nano : s.end_time_unix_nano < 2 ^ 64

-- its attributes, events and links
pub record SoundLists (room : ℕ) (s : SpanData) : Type 0 where
  pub attributes : AllByRecursion (SoundKeyValue room) s.attributes
  pub dropped_attributes_count : s.dropped_attributes_count < 2 ^ 32
  pub events : AllByRecursion (SoundEvent room) s.events
  pub dropped_events_count : s.dropped_events_count < 2 ^ 32
  pub links : AllByRecursion (SoundLink room) s.links
  pub dropped_links_count : s.dropped_links_count < 2 ^ 32

-- its status, its flags and what isn't known
pub record SoundEnd (room : ℕ) (s : SpanData) : Type 0 where
  pub status : IfSome s.status (SoundStatus room)
  pub flags : s.flags < 2 ^ 32
  pub unknown : Kept span_known room s.unknown
