-- Canonical text that a view reads exactly: of a span and a resource whose numbers fit, whose strings are UTF-8, and
-- which have kept nothing but fields that can be skipped. Canonical text is that of `otlp_trace`'s Text, in the proto3
-- encoding.
use Rattle.std.specs.Prelude.{◌≡◌, ◌≢◌, ◌<◌, ◌^◌, ℕ, List, [], length, FitsSigned, Option, Some, None, IfSome}
use Rattle.std.specs.Int.{w32, w64}
use Rattle.std.specs.List.{AllByRecursion}
use Rattle.std.specs.Str.{IsUtf8}
use Rattle.pb_wire.specs.Grammar.{Datum, Varint, Eight, Bytes, Entry, Fields}
use Rattle.otlp_trace.specs.Data.{AnyValueData, any_value, KindData, KeyValueData, bare_key, key_value}
use Rattle.otlp_trace.specs.Data.{ResourceData, StatusData, SpanData}
use Rattle.otlp_trace.specs.Data as otlp
use Rattle.otlp_trace.specs.Text.{resource_text, span_text}

-- ---- what a view doesn't read in a message, by the number and wire type of a field (OTLP 1.x's trace.proto,
-- resource.proto and common.proto)

-- no id, time, attribute or status of a Span
abbrev pub NotInSpan : ℕ → Datum → Type 0
NotInSpan n (Bytes bs) = (n ≢ 1) × (n ≢ 2) × (n ≢ 9) × (n ≢ 15)
NotInSpan n (Eight bs) = (n ≢ 7) × (n ≢ 8)
NotInSpan n _ = Unit {0}

-- no code of a Status
abbrev pub NotInStatus : ℕ → Datum → Type 0
NotInStatus n (Varint x) = n ≢ 3
NotInStatus n _ = Unit {0}

-- no attribute of a Resource
abbrev pub NotInResource : ℕ → Datum → Type 0
NotInResource n (Bytes bs) = n ≢ 1
NotInResource n _ = Unit {0}

-- neither key nor value of a KeyValue
abbrev pub NotInKeyValue : ℕ → Datum → Type 0
NotInKeyValue n (Bytes bs) = (n ≢ 1) × (n ≢ 2)
NotInKeyValue n _ = Unit {0}

-- no member of AnyValue's oneof
abbrev pub NotInAnyValue : ℕ → Datum → Type 0
NotInAnyValue n (Varint x) = (n ≢ 2) × (n ≢ 3)
NotInAnyValue n (Eight bs) = n ≢ 4
NotInAnyValue n (Bytes bs) = (n ≢ 1) × (n ≢ 5) × (n ≢ 6) × (n ≢ 7)
NotInAnyValue n _ = Unit {0}

-- what is kept is fields, at some depth, none of which is read
pub record Skipped (NotRead : ℕ → Datum → Type 0) (kept : List ℕ) : Type 0 where
  pub depth : ℕ
  pub fields : List Entry
  pub are : Fields depth kept fields
  pub unread : AllByRecursion (λ e. NotRead e.number e.value) fields

-- ---- messages, so far as a view looks into them

-- a string is UTF-8, a whole number has 64 bits, a double eight bytes; an array's and a list's values may be any
abbrev pub SoundKind : KindData → Type 0
SoundKind (otlp.string bs) = IsUtf8 bs
SoundKind (otlp.int z) = FitsSigned w64 z
SoundKind (otlp.double bs) = length bs ≡ 8
SoundKind _ = Unit {0}

-- a value of such a kind
abbrev pub SoundValue : AnyValueData → Type 0
SoundValue (any_value kind unknown) = SoundKind kind × Skipped NotInAnyValue unknown

-- a key in UTF-8, and a sound value where it has one
abbrev pub SoundKeyValue : KeyValueData → Type 0
SoundKeyValue (bare_key key unknown) = IsUtf8 key × Skipped NotInKeyValue unknown
SoundKeyValue (key_value key v unknown) = IsUtf8 key × SoundValue v × Skipped NotInKeyValue unknown

-- a code of 32 bits
pub record SoundStatus (s : StatusData) : Type 0 where
  pub code : FitsSigned w32 s.code
  pub unknown : Skipped NotInStatus s.unknown

-- sound attributes, and a count of 32 bits
pub record SoundResource (r : ResourceData) : Type 0 where
  pub attributes : AllByRecursion SoundKeyValue r.attributes
  pub dropped_attributes_count : r.dropped_attributes_count < 2 ^ 32
  pub unknown : Skipped NotInResource r.unknown

-- numbers of the widths that trace.proto gives them, sound attributes, and a sound status where there is one
pub record SoundSpan (s : SpanData) : Type 0 where
  pub kind : FitsSigned w32 s.kind
  pub start_time_unix_nano : s.start_time_unix_nano < 2 ^ 64
  pub end_time_unix_nano : s.end_time_unix_nano < 2 ^ 64
  pub attributes : AllByRecursion SoundKeyValue s.attributes
  pub dropped_attributes_count : s.dropped_attributes_count < 2 ^ 32
  pub dropped_events_count : s.dropped_events_count < 2 ^ 32
  pub dropped_links_count : s.dropped_links_count < 2 ^ 32
  pub status : IfSome s.status SoundStatus
  pub unknown : Skipped NotInSpan s.unknown

-- ---- texts

-- the text is a sound span's canonical one, of a length that can be spelled
pub record IsSpanText (text : List ℕ) (s : SpanData) : Type 0 where
  pub sound : SoundSpan s
  pub short : length text < 2 ^ 64
  pub same : text ≡ span_text s

-- the same of a resource
pub record IsOneResourceText (text : List ℕ) (r : ResourceData) : Type 0 where
  pub sound : SoundResource r
  pub short : length text < 2 ^ 64
  pub same : text ≡ resource_text r

-- the same of a resource that may be missing, which has no bytes
abbrev pub IsResourceText : List ℕ → Option ResourceData → Type 0
IsResourceText text None = text ≡ []
IsResourceText text (Some r) = IsOneResourceText text r
