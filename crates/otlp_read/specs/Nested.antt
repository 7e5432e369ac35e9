-- Values that a reader takes: nested no deeper than there is room for, and with nothing kept but fields that the
-- message that keeps them doesn't know. A message has room for so many levels, its own among them: for 101 - d at
-- depth d. How deep they are nested is this project's own rule; which fields a message doesn't know is of the proto3
-- language guide, "Unknown Fields".
use Rattle.std.specs.Prelude.{◌≡◌, ◌-◌, ℕ, zero, suc, List, None, IfSome}
use Rattle.std.specs.List.{AllByRecursion}
use Rattle.otlp_trace.specs.Data.{AnyValueData, any_value, KindData, array, kvlist, ArrayValueData, array_value, AnyValues, no_values, a_value, KeyValueListData, key_value_list, KeyValueData, bare_key, key_value, KeyValues, no_key_values, a_key_value, ResourceData, ScopeData, StatusData, EventData, LinkData, SpanData, ScopeSpansData, ResourceSpansData, RequestData}
use Rattle.otlp_read.specs.AnyValue.{any_known, array_known, list_known, key_value_known, read_any, read_array, read_list, read_key_value}
use Rattle.otlp_read.specs.Value.{resource_known, scope_known, status_known, event_known, link_known, span_known}
use Rattle.otlp_read.specs.Walk.{Known, Piece, Pieces}

-- whatever the message is, it has no field of this number and wire type
abbrev pub IsUnknown : {A : Type 0} → Known A → Piece → Type 0
IsUnknown {A} known piece = (a : A) → known a piece.field.number piece.field.value ≡ None

-- with this room, what a message has kept is fields at its depth, and it knows none of them
pub record Kept {A : Type 0} (known : ℕ → Known A) (room : ℕ) (kept : List ℕ) : Type 0 where
  pub pieces : List Piece
  pub are : Pieces (100 - room) kept pieces
  pub unknown : AllByRecursion (IsUnknown (known room)) pieces

-- what is inside a message, where there is room for the message itself
abbrev pub Within : {A : Type 0} → (ℕ → A → Type 0) → ℕ → A → Type 0
Within inside zero a = ⊥
Within inside (suc room) a = inside room a

-- ---- attribute values

-- the fields that each message knows, with room for so many levels inside it
abbrev pub known_of_any : ℕ → Known AnyValueData
known_of_any room = any_known (read_array room) (read_list room)

-- those of an array
abbrev pub known_of_array : ℕ → Known ArrayValueData
known_of_array room = array_known (read_any room)

-- those of a list
abbrev pub known_of_list : ℕ → Known KeyValueListData
known_of_list room = list_known (read_key_value room)

-- those of a key with its value
abbrev pub known_of_key_value : ℕ → Known KeyValueData
known_of_key_value room = key_value_known (read_any room)

abbrev mutual
  -- a value
  pub NestedAny : ℕ → AnyValueData → Type 0
  NestedAny zero v = ⊥
  NestedAny (suc room) (any_value kind unknown) = NestedKind room kind × Kept known_of_any room unknown

  -- the member of a value
  pub NestedKind : ℕ → KindData → Type 0
  NestedKind room (array a) = NestedArray room a
  NestedKind room (kvlist l) = NestedList room l
  NestedKind room _ = Unit {0}

  -- an array
  pub NestedArray : ℕ → ArrayValueData → Type 0
  NestedArray zero a = ⊥
  NestedArray (suc room) (array_value vs unknown) = NestedValues room vs × Kept known_of_array room unknown

  -- the values of an array
  pub NestedValues : ℕ → AnyValues → Type 0
  NestedValues room no_values = Unit {0}
  NestedValues room (a_value v vs) = NestedAny room v × NestedValues room vs

  -- a list
  pub NestedList : ℕ → KeyValueListData → Type 0
  NestedList zero l = ⊥
  NestedList (suc room) (key_value_list ps unknown) = NestedKeyValues room ps × Kept known_of_list room unknown

  -- a key with its value
  pub NestedKeyValue : ℕ → KeyValueData → Type 0
  NestedKeyValue zero p = ⊥
  NestedKeyValue (suc room) (bare_key key unknown) = Kept known_of_key_value room unknown
  NestedKeyValue (suc room) (key_value key v unknown) = NestedAny room v × Kept known_of_key_value room unknown

  -- the keys of a list
  pub NestedKeyValues : ℕ → KeyValues → Type 0
  NestedKeyValues room no_key_values = Unit {0}
  NestedKeyValues room (a_key_value p ps) = NestedKeyValue room p × NestedKeyValues room ps

-- ---- messages

-- what is inside a resource
pub record InResource (room : ℕ) (r : ResourceData) : Type 0 where
  pub attributes : AllByRecursion (NestedKeyValue room) r.attributes
  pub unknown : Kept resource_known room r.unknown

-- a resource
abbrev pub NestedResource : ℕ → ResourceData → Type 0
NestedResource = Within InResource

-- what is inside an instrumentation scope
pub record InScope (room : ℕ) (s : ScopeData) : Type 0 where
  pub attributes : AllByRecursion (NestedKeyValue room) s.attributes
  pub unknown : Kept scope_known room s.unknown

-- an instrumentation scope
abbrev pub NestedScope : ℕ → ScopeData → Type 0
NestedScope = Within InScope

-- what is inside a span's status
pub record InStatus (room : ℕ) (s : StatusData) : Type 0 where
  pub unknown : Kept (λ r. status_known) room s.unknown

-- a span's status
abbrev pub NestedStatus : ℕ → StatusData → Type 0
NestedStatus = Within InStatus

-- what is inside an event
pub record InEvent (room : ℕ) (e : EventData) : Type 0 where
  pub attributes : AllByRecursion (NestedKeyValue room) e.attributes
  pub unknown : Kept event_known room e.unknown

-- an event
abbrev pub NestedEvent : ℕ → EventData → Type 0
NestedEvent = Within InEvent

-- what is inside a link
pub record InLink (room : ℕ) (l : LinkData) : Type 0 where
  pub attributes : AllByRecursion (NestedKeyValue room) l.attributes
  pub unknown : Kept link_known room l.unknown

-- a link
abbrev pub NestedLink : ℕ → LinkData → Type 0
NestedLink = Within InLink

-- what is inside a span
pub record InSpan (room : ℕ) (s : SpanData) : Type 0 where
  pub attributes : AllByRecursion (NestedKeyValue room) s.attributes
  pub events : AllByRecursion (NestedEvent room) s.events
  pub links : AllByRecursion (NestedLink room) s.links
  pub status : IfSome s.status (NestedStatus room)
  pub unknown : Kept span_known room s.unknown

-- a span
abbrev pub NestedSpan : ℕ → SpanData → Type 0
NestedSpan = Within InSpan

-- what is inside a scope spans
pub record InScopeSpans (room : ℕ) (s : ScopeSpansData) : Type 0 where
  pub scope : IfSome s.scope (NestedScope room)
  pub spans : AllByRecursion (NestedSpan room) s.spans

-- a scope spans
abbrev pub NestedScopeSpans : ℕ → ScopeSpansData → Type 0
NestedScopeSpans = Within InScopeSpans

-- what is inside a resource spans
pub record InResourceSpans (room : ℕ) (r : ResourceSpansData) : Type 0 where
  pub resource : IfSome r.resource (NestedResource room)
  pub scope_spans : AllByRecursion (NestedScopeSpans room) r.scope_spans

-- a resource spans
abbrev pub NestedResourceSpans : ℕ → ResourceSpansData → Type 0
NestedResourceSpans = Within InResourceSpans

-- a request is at depth 0
pub record NestedRequest (r : RequestData) : Type 0 where
  pub resource_spans : AllByRecursion (NestedResourceSpans 100) r.resource_spans
