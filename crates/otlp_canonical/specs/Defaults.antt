-- A span's fields of one value that are written at their default (the proto3 language guide, "Default Field Values",
-- over the fields of `Span` of OTLP 1.x's trace.proto).
use Rattle.std.specs.Prelude.{◌≡◌, ◌==◌, ◌&&◌, ◌||◌, ◌<◌, ℕ, pos, Bool, false, [], length, None}
use Rattle.pb_wire.specs.Grammar.{Datum, Varint, Eight, Bytes, Four, Entry}
use Rattle.otlp_trace.specs.Data.{SpanData}
use Rattle.otlp_read.specs.Numbers.{fixed32, fixed64}

-- the number is that of a field with a 32-bit number in it
abbrev pub is_number : ℕ → Bool
is_number n = n == 6 || (n == 10 || (n == 12 || n == 14))

-- of an id or a string
abbrev pub is_text : ℕ → Bool
is_text n = n == 1 || (n == 2 || (n == 3 || (n == 4 || n == 5)))

-- this value is the default of the span's field of this number
abbrev pub default_at : ℕ → Datum → Bool
default_at n (Varint x) = is_number n && x == 0
default_at n (Eight bs) = (n == 7 || n == 8) && fixed64 bs == 0
default_at n (Bytes bs) = is_text n && length bs == 0
default_at n (Four bs) = n == 16 && fixed32 bs == 0
default_at n _ = false

-- the field holds its default
abbrev pub holds_default : Entry → Bool
holds_default field = default_at field.number field.value

-- whichever of these fields has a number above this one is at its default in the span, and a status isn't there
pub record DefaultsAbove (most : ℕ) (s : SpanData) : Type 0 where
  pub trace_id : most < 1 → s.trace_id ≡ []
  pub span_id : most < 2 → s.span_id ≡ []
  pub trace_state : most < 3 → s.trace_state ≡ []
  pub parent_span_id : most < 4 → s.parent_span_id ≡ []
  pub name : most < 5 → s.name ≡ []
  pub kind : most < 6 → s.kind ≡ pos 0
  pub start_time_unix_nano : most < 7 → s.start_time_unix_nano ≡ 0
  pub end_time_unix_nano : most < 8 → s.end_time_unix_nano ≡ 0
  pub dropped_attributes_count : most < 10 → s.dropped_attributes_count ≡ 0
  pub dropped_events_count : most < 12 → s.dropped_events_count ≡ 0
  pub dropped_links_count : most < 14 → s.dropped_links_count ≡ 0
  pub status : most < 15 → s.status ≡ None
  pub flags : most < 16 → s.flags ≡ 0
