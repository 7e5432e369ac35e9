-- Messages inside a span whose fields of one value may be written at their default (the proto3 language guide, "Default
-- Field Values", over the fields of `Status`, `Span.Event` and `Span.Link` of OTLP 1.x's trace.proto).
use Rattle.std.specs.Prelude.{◌≡◌, ◌==◌, ◌&&◌, ◌||◌, ◌<◌, ◌≤◌, ◌^◌, ℕ, pos, Bool, true, false, List, [], ◌++◌, length, Ok, IfOk}
use Rattle.pb_wire.specs.Grammar.{Datum, Varint, Eight, Bytes, Four, Entry, IsField}
use Rattle.otlp_trace.specs.Data.{StatusData, EventData, LinkData}
use Rattle.otlp_trace.specs.Text.{bytes_field}
use Rattle.otlp_read.specs.Numbers.{fixed32, fixed64}
use Rattle.otlp_read.specs.Walk.{◌>>=◌, Step, walk, read_with}

-- this value is the default of a status' field of this number
abbrev pub status_default_at : ℕ → Datum → Bool
status_default_at n (Varint x) = n == 3 && x == 0
status_default_at n (Bytes bs) = n == 2 && length bs == 0
status_default_at n _ = false

-- the field of a status holds its default
abbrev pub status_default : Entry → Bool
status_default field = status_default_at field.number field.value

-- whichever field of one value has a number above this one is at its default in the status
pub record StatusDefaults (most : ℕ) (s : StatusData) : Type 0 where
  pub message : most < 2 → s.message ≡ []
  pub code : most < 3 → s.code ≡ pos 0

-- this value is the default of an event's field of this number
abbrev pub event_default_at : ℕ → Datum → Bool
event_default_at n (Varint x) = n == 4 && x == 0
event_default_at n (Eight bs) = n == 1 && fixed64 bs == 0
event_default_at n (Bytes bs) = n == 2 && length bs == 0
event_default_at n _ = false

-- the field of an event holds its default
abbrev pub event_default : Entry → Bool
event_default field = event_default_at field.number field.value

-- in the event
pub record EventDefaults (most : ℕ) (e : EventData) : Type 0 where
  pub time_unix_nano : most < 1 → e.time_unix_nano ≡ 0
  pub name : most < 2 → e.name ≡ []
  pub dropped_attributes_count : most < 4 → e.dropped_attributes_count ≡ 0

-- this value is the default of a link's field of this number
abbrev pub link_default_at : ℕ → Datum → Bool
link_default_at n (Varint x) = n == 5 && x == 0
link_default_at n (Bytes bs) = (n == 1 || (n == 2 || n == 3)) && length bs == 0
link_default_at n (Four bs) = n == 6 && fixed32 bs == 0
link_default_at n _ = false

-- the field of a link holds its default
abbrev pub link_default : Entry → Bool
link_default field = link_default_at field.number field.value

-- in the link
pub record LinkDefaults (most : ℕ) (l : LinkData) : Type 0 where
  pub trace_id : most < 1 → l.trace_id ≡ []
  pub span_id : most < 2 → l.span_id ≡ []
  pub trace_state : most < 3 → l.trace_state ≡ []
  pub dropped_attributes_count : most < 5 → l.dropped_attributes_count ≡ 0
  pub flags : most < 6 → l.flags ≡ 0

-- In a message of no fields all are at their defaults, fields of smaller numbers leave those above them so, and a field
-- that holds its default changes nothing where it is at that already.
pub record DefaultLaws {A : Type 0} (step : ℕ → Step A) (none : A) (default : Entry → Bool)
    (Above : ℕ → A → Type 0) : Type 0 where
  pub first : Above 0 none
  pub fewer : (low high : ℕ) (a : A) → low ≤ high → Above low a → Above high a
  pub leaves : (room most : ℕ) (a : A) (field : Entry) (spelled : List ℕ) → field.number ≤ most → Above most a
      → IfOk (step room a field spelled) (Above most)
  pub same : (room most : ℕ) (a : A) (field : Entry) (spelled : List ℕ) → default field ≡ true → most < field.number
      → Above most a → step room a field spelled ≡ Ok a

-- behind what stood there, a text of which a reader makes what it makes of the given one
pub record ReadAlike {A : Type 0} (step : ℕ → Step A) (none : A) (room : ℕ) (text old new : List ℕ) : Type 0 where
  pub put : List ℕ
  pub copied : new ≡ old ++ put
  pub same : read_with step room none text ≡ read_with step room none put

-- behind what stood there, a field of this number that holds such a text
pub record FieldAlike {A : Type 0} (step : ℕ → Step A) (none : A) (room number : ℕ)
    (text old new : List ℕ) : Type 0 where
  pub put : List ℕ
  pub copied : new ≡ old ++ bytes_field number put
  pub short : length put < 2 ^ 64
  pub same : read_with step room none text ≡ read_with step room none put

-- The text begins with two fields of numbers up to 2, which make of a message of no fields what they make of it the
-- other way round.
pub record TurnedFields {A : Type 0} (step : ℕ → Step A) (none : A) (d : ℕ)
    (text first second rest : List ℕ) : Type 0 where
  pub one : Entry
  pub other : Entry
  pub parts : text ≡ first ++ (second ++ rest)
  pub begins : IsField d first one
  pub follows : IsField d second other
  pub one_low : one.number ≤ 2
  pub other_low : other.number ≤ 2
  pub same : (room : ℕ) → (step room none one first >>= λ a. step room a other second)
      ≡ (step room none other second >>= λ a. step room a one first)

-- Behind what stood there, a text that makes of a message what the field makes of it, if the fields of numbers above
-- this one are at their defaults.
pub record PutFor {A : Type 0} (step : ℕ → Step A) (Above : ℕ → A → Type 0) (inner d most : ℕ) (field : Entry)
    (old new : List ℕ) : Type 0 where
  pub put : List ℕ
  pub copied : new ≡ old ++ put
  pub alike : (a : A) (spelled rest : List ℕ) → Above most a
      → walk (step inner) d a (put ++ rest)
      ≡ (step inner a field spelled >>= λ b. walk (step inner) d b rest)
