-- The order of a span's fields: by number, and behind all others those that a span doesn't know (canonical text is that
-- of `otlp_trace`'s Text, over the fields of `Span` of OTLP 1.x's trace.proto).
use Rattle.std.specs.List.{AllByRecursion}
use Rattle.std.specs.Str.{IsUtf8}
use Rattle.otlp_trace.specs.Data.{SpanData}
use Rattle.otlp_read.specs.Value.{span_step}
use Rattle.std.specs.Prelude.{◌≡◌, ◌==◌, ◌+◌, ◌&&◌, ◌||◌, if◌then◌else◌, ℕ, suc, nat_lt, Bool, true, false, not, List, [], ◌++◌, length, filter, slice_get, Some, Ok}
use Rattle.pb_wire.specs.Grammar.{Datum, Varint, Eight, Bytes, Four, Entry}
use Rattle.otlp_read.specs.Walk.{Piece, Pieces, fold_fields}
use Rattle.otlp_canonical.specs.declared.order.Run.{Run}
use Rattle.otlp_canonical.specs.Defaults.{is_number, is_text}

-- a message stands in the field of this number
abbrev pub is_message : ℕ → Bool
is_message n = n == 9 || (n == 11 || (n == 13 || n == 15))

-- a span has a field of this number and wire type
abbrev pub is_known : ℕ → Datum → Bool
is_known n (Varint x) = is_number n
is_known n (Eight bs) = n == 7 || n == 8
is_known n (Bytes bs) = is_text n || is_message n
is_known n (Four bs) = n == 16
is_known n _ = false

-- where a field stands in canonical order
abbrev pub place_at : ℕ → Datum → ℕ
place_at n v = if is_known n v then n else 17

-- the same of the whole field
abbrev pub place_of : Entry → ℕ
place_of field = place_at field.number field.value

-- those fields that stand at this place or behind it
abbrev pub from : ℕ → List Piece → List Piece
from low pieces = filter (λ p. not (nat_lt (place_of p.field) low)) pieces

-- those that stand there and before another place
abbrev pub between : ℕ → ℕ → List Piece → List Piece
between low high pieces = filter (λ p. not (nat_lt (place_of p.field) low) && nat_lt (place_of p.field) high) pieces

-- behind what stood there, the fields of the text that stand between these places, in the text's order
pub record WithPlaces (d low high : ℕ) (text old new : List ℕ) : Type 0 where
  pub pieces : List Piece
  pub are : Pieces d text pieces
  pub put : List ℕ
  pub chosen : Pieces d put (between low high pieces)
  pub copied : new ≡ old ++ put

-- of the fields at this place the last one wins: they have one value, and no message
abbrev pub last_wins : ℕ → Bool
last_wins place = not (place == 9 || (place == 11 || (place == 13 || (place == 15 || place == 17))))

-- a span's string is UTF-8
abbrev pub sound_text : ℕ → Datum → Type 0
sound_text n (Bytes bs) = (n == 3 || n == 5) ≡ true → IsUtf8 bs
sound_text n _ = Unit {0}

-- the same of the whole field
abbrev pub IsSoundText : Entry → Type 0
IsSoundText field = sound_text field.number field.value

-- behind what stood there, fields that make of a span what those of one place make, where they make one
pub record PlaceRead (d place : ℕ) (text old new : List ℕ) : Type 0 where
  pub pieces : List Piece
  pub are : Pieces d text pieces
  pub put : List ℕ
  pub chosen : List Piece
  pub chosen_are : Pieces d put chosen
  pub copied : new ≡ old ++ put
  pub same : (room : ℕ) (s t : SpanData) (rest : List Piece) → d + room ≡ 100
      → fold_fields (span_step room) s (chosen ++ rest) ≡ Ok t
      → fold_fields (span_step room) s (between place (suc place) pieces ++ rest) ≡ Ok t

-- from one byte of the text to another, fields that make what those of one place make
pub record SideBySide (d place : ℕ) (text : List ℕ) (start end : ℕ) : Type 0 where
  pub before : List ℕ
  pub fields : List ℕ
  pub behind : List ℕ
  pub parts : text ≡ before ++ (fields ++ behind)
  pub starts : start ≡ length before
  pub ends : end ≡ length before + length fields
  pub all : PlaceRead d place text [] fields

-- so a run has them, unless others stand between them
abbrev pub Stands : ℕ → ℕ → List ℕ → Run → Type 0
Stands d place text run = run.apart ≡ false → SideBySide d place text run.start run.end

-- a run with one more field at its place
abbrev pub with_one : Run → ℕ → ℕ → Run
with_one run start end =
    if run.start == run.end then record run { start = start; end = end }
    else (if run.end == start then record run { end = end } else record run { apart = true })

-- the same where the last field alone is kept if it wins, and statuses are left to be merged
abbrev pub with_field : ℕ → Run → ℕ → ℕ → Run
with_field place run start end =
    if not (run.start == run.end) && last_wins place then record { start = start; end = end; apart = false }
    else (if not (run.start == run.end) && place == 15 then record run { apart = true } else with_one run start end)

-- a text of fields whose strings are UTF-8, and a run for each place
pub record AllStand (d : ℕ) (text : List ℕ) (runs : List Run) : Type 0 where
  pub pieces : List Piece
  pub are : Pieces d text pieces
  pub sound : AllByRecursion (λ p. IsSoundText p.field) pieces
  pub each : (place : ℕ) (run : Run) → slice_get runs place ≡ Some run → Stands d place text run
