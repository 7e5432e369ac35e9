-- A span that was read, and its resource, have canonical text that a view reads exactly.
use Rattle.std.proofs.Common.{ℕ, zero, suc, List, [], ◌∷◌, Option, Some, None, option_map, IfSome, refl}
use Rattle.std.specs.List.{AllByRecursion}
use Rattle.otlp_trace.specs.Data.{AnyValueData, any_value, KindData, KeyValueData, bare_key, key_value, ResourceData, StatusData, SpanData}
use Rattle.otlp_trace.specs.Data as otlp
use Rattle.otlp_trace.specs.Text.{resource_text, span_text}
use Rattle.otlp_read.specs.AnyValue.{no_value, no_key_value}
use Rattle.otlp_read.specs.Nested.{NestedAny, NestedKeyValue, NestedStatus, NestedResource, NestedSpan, known_of_any, known_of_key_value}
use Rattle.otlp_read.specs.Typed.{TypedAny, TypedKind, TypedKeyValue, TypedStatus, TypedResource, TypedSpan}
use Rattle.otlp_trace.specs.Defaults.{no_resource, no_span, no_status}
use Rattle.otlp_read.specs.Value.{resource_known, span_known, status_known}
use Rattle.span_view.specs.Canonical.{NotInSpan, NotInStatus, NotInResource, NotInKeyValue, NotInAnyValue, SoundKind, SoundValue, SoundKeyValue, SoundStatus, SoundResource, SoundSpan, IsSpanText, IsResourceText}
use Rattle.span_pool.specs.Stored.{bytes_of}
use Rattle.span_pool.specs.Read.{IsReadSpan, IsReadResource}
use Rattle.span_pool.proofs.Unread.{skipped, span_unread, status_unread, resource_unread, key_value_unread, any_unread}

sound_kind : (kind : KindData) → TypedKind kind → SoundKind kind
sound_kind otlp.unset h = tt
sound_kind (otlp.string bs) h = h
sound_kind (otlp.boolean b) h = tt
sound_kind (otlp.int z) h = h
sound_kind (otlp.double bs) h = h
sound_kind (otlp.array a) h = tt
sound_kind (otlp.kvlist l) h = tt
sound_kind (otlp.bytes bs) h = tt

sound_value : (room : ℕ) (v : AnyValueData) → TypedAny v → NestedAny room v → SoundValue v
sound_value zero v typed nested = absurd nested
sound_value (suc room) (any_value kind unknown) typed nested = (sound_kind kind typed, skipped known_of_any no_value NotInAnyValue room unknown (any_unread room) nested.1)

sound_key_value : (room : ℕ) (p : KeyValueData) → TypedKeyValue p → NestedKeyValue room p → SoundKeyValue p
sound_key_value zero p typed nested = absurd nested
sound_key_value (suc room) (bare_key key unknown) typed nested = (typed, skipped known_of_key_value no_key_value NotInKeyValue room unknown (key_value_unread room) nested)
sound_key_value (suc room) (key_value key v unknown) typed nested =
    (typed.0, sound_value room v typed.1 nested.0, skipped known_of_key_value no_key_value NotInKeyValue room unknown (key_value_unread room) nested.1)

sound_key_values : (room : ℕ) (ps : List KeyValueData) → AllByRecursion TypedKeyValue ps → AllByRecursion (NestedKeyValue room) ps → AllByRecursion SoundKeyValue ps
sound_key_values room [] typed nested = tt
sound_key_values room (p ∷ ps) typed nested = (sound_key_value room p typed.0 nested.0, sound_key_values room ps typed.1 nested.1)

sound_status : (room : ℕ) (o : Option StatusData) → IfSome o TypedStatus → IfSome o (NestedStatus room) → IfSome o SoundStatus
sound_status room None typed nested = tt
sound_status zero (Some s) typed nested = absurd nested
sound_status (suc room) (Some s) typed nested = record { code = typed.code; unknown = skipped (λ r. status_known) no_status NotInStatus room s.unknown status_unread nested.unknown }

sound_resource : (room : ℕ) (r : ResourceData) → TypedResource r → NestedResource room r → SoundResource r
sound_resource zero r typed nested = absurd nested
sound_resource (suc room) r typed nested = record {
  attributes = sound_key_values room r.attributes typed.attributes nested.attributes;
  dropped_attributes_count = typed.dropped_attributes_count;
  unknown = skipped resource_known no_resource NotInResource room r.unknown (resource_unread room) nested.unknown;
}

sound_span : (room : ℕ) (s : SpanData) → TypedSpan s → NestedSpan room s → SoundSpan s
sound_span zero s typed nested = absurd nested
sound_span (suc room) s typed nested = record {
  kind = typed.kind;
  start_time_unix_nano = typed.start_time_unix_nano;
  end_time_unix_nano = typed.end_time_unix_nano;
  attributes = sound_key_values room s.attributes typed.attributes nested.attributes;
  dropped_attributes_count = typed.dropped_attributes_count;
  dropped_events_count = typed.dropped_events_count;
  dropped_links_count = typed.dropped_links_count;
  status = sound_status room s.status typed.status nested.status;
  unknown = skipped span_known no_span NotInSpan room s.unknown (span_unread room) nested.unknown;
}

pub span_is_viewed : (s : SpanData) → IsReadSpan s → IsSpanText (span_text s) s
span_is_viewed s is = record { sound = sound_span is.room s is.typed is.nested; short = is.short; same = refl }

pub resource_is_viewed : (r : Option ResourceData) → IfSome r IsReadResource → IsResourceText (bytes_of (option_map resource_text r)) r
resource_is_viewed None is = refl
resource_is_viewed (Some r) is = record { sound = sound_resource is.room r is.typed is.nested; short = is.short; same = refl }
