-- Fields and attributes that are put anew, with all lengths as short as they can be (the Protocol Buffers encoding
-- guide, "Message Structure"; of a field that stands twice the last one wins, "Last One Wins", and of the members of a
-- oneof, the proto3 language guide, "Oneof").
use Rattle.std.specs.Prelude.{◌≡◌, ◌==◌, ◌-◌, ◌<◌, ◌&&◌, ◌||◌, ℕ, Bool, true, false, if◌then◌else◌, List, [], ◌++◌, Option, Some, None, IfSome, option_map, Result, Ok, is_some}
use Rattle.std.specs.Str.{IsUtf8}
use Rattle.pb_wire.specs.Grammar.{Entry, Datum, Bytes, IsField, entry}
use Rattle.otlp_trace.specs.Data.{AnyValueData, any_value, KindData, KeyValueData, bare_key, key_value, SpanData}
use Rattle.otlp_trace.specs.Defaults.{no_span}
use Rattle.otlp_trace.specs.Text.{span_text}
use Rattle.otlp_read.specs.declared.fault.ReadFault.{ReadFault}
use Rattle.otlp_read.specs.AnyValue.{no_value, no_array, no_list, no_key_value, array_in, list_in, keep_any, keep_key_value, any_step_in, key_value_step, read_any}
use Rattle.otlp_read.specs.Nested.{known_of_any, known_of_key_value}
use Rattle.otlp_read.specs.Typed.{TypedSpan}
use Rattle.otlp_read.specs.Value.{span_step}
use Rattle.otlp_read.specs.Walk.{◌>>=◌, Step, Known, walk, read_with}
use Rattle.otlp_canonical.specs.declared.apart.Parts.{Parts}

-- behind what stood there, the field in another spelling
pub record Spelled (field : Entry) (old new : List ℕ) : Type 0 where
  pub put : List ℕ
  pub copied : new ≡ old ++ put
  pub first : (d : ℕ) → IsField d put field

-- behind what stood there, what is written of the span that a reader makes of the text
pub record WrittenAnew (room : ℕ) (text old new : List ℕ) : Type 0 where
  pub value : SpanData
  pub read : read_with span_step room no_span text ≡ Ok value
  pub typed : TypedSpan value
  pub copied : new ≡ old ++ span_text value

-- a field that the message doesn't know, as it is spelled, behind those that came before it (the proto3 language guide,
-- "Unknown Fields"); which of its values is chosen says nothing of that
abbrev pub gather : {A : Type 0} → (ℕ → Known A) → A → Step (List ℕ)
gather known a kept field spelled =
    if is_some (known 0 a field.number field.value) then Ok kept else Ok (kept ++ spelled)

-- what a reader makes of a key with the text of a value, or without one, and of fields that aren't known
abbrev pub pair_of : ℕ → List ℕ → List ℕ → Bool → List ℕ → Result KeyValueData ReadFault
pair_of room key value true kept = read_any room no_value value >>= λ v. Ok (key_value key v kept)
pair_of room key value false kept = Ok (bare_key key kept)

-- It makes that of the text, whose fields that aren't known are kept behind one another wherever they stand. They are
-- none if they take no bytes.
pub record IsPair (d : ℕ) (text key value : List ℕ) (has_value : Bool) (size : ℕ) : Type 0 where
  pub valid : IsUtf8 key
  pub kept : List ℕ
  pub none : size ≡ 0 → kept ≡ []
  pub gathered : walk (gather known_of_key_value no_key_value) d [] text ≡ Ok kept
  pub again : (room : ℕ) (p : KeyValueData) (rest : List ℕ) → walk (key_value_step room) d p (kept ++ rest)
      ≡ walk (key_value_step room) d (keep_key_value p kept) rest
  pub read : (room : ℕ) → walk (key_value_step room) d no_key_value text ≡ pair_of room key value has_value kept

-- the same where there is room for so many levels inside the attribute
pub record IsPairIn (room d : ℕ) (text key value : List ℕ) (has_value : Bool) (size : ℕ) : Type 0 where
  pub valid : IsUtf8 key
  pub kept : List ℕ
  pub none : size ≡ 0 → kept ≡ []
  pub gathered : walk (gather known_of_key_value no_key_value) d [] text ≡ Ok kept
  pub again : (inner : ℕ) (p : KeyValueData) (rest : List ℕ) → walk (key_value_step inner) d p (kept ++ rest)
      ≡ walk (key_value_step inner) d (keep_key_value p kept) rest
  pub read : walk (key_value_step room) d no_key_value text ≡ pair_of room key value has_value kept

-- no field of the value stands before this one
abbrev pub IsFirst : ℕ → AnyValueData → Type 0
IsFirst most v = v ≡ no_value

-- a value's field that is known stands for itself in any spelling
abbrev pub IsMember : Entry → Type 0
IsMember field = (inner : ℕ) (v : AnyValueData) → is_some (known_of_any inner v field.number field.value) ≡ true

-- what a reader makes of a value's member, or of none
abbrev pub member_of : ℕ → Option Entry → Result AnyValueData ReadFault
member_of room None = Ok no_value
member_of room (Some field) = any_step_in room no_value field []

-- the number of a value's member, or none
abbrev pub number_of : Option Entry → ℕ
number_of None = 0
number_of (Some field) = field.number

-- a member of the first number is merged with one of the second that follows: an array with an array, a list with a
-- list
abbrev pub merges : ℕ → ℕ → Bool
merges m n = (m == 5 && n == 5) || (m == 6 && n == 6)

-- one member may be put for the other: it has the same number, is a member where that is one, and is read as the same
pub record IsPutFor (put member : Entry) : Type 0 where
  pub number : put.number ≡ member.number
  pub known : IsMember member → IsMember put
  pub read : (room : ℕ) → member_of room (Some member) ≡ member_of room (Some put)

-- the member can be read, and leaves nothing to one that follows
pub record LeavesNothing (member : Entry) : Type 0 where
  pub known : IsMember member
  pub kind : KindData
  pub read : (room : ℕ) → member_of room (Some member) ≡ Ok (any_value kind [])
  pub arrays : array_in kind ≡ no_array
  pub lists : list_in kind ≡ no_list

-- behind the one value's text in one value, the other's is read as it is by itself
pub record GivesPlace (value later : List ℕ) : Type 0 where
  pub same : (room : ℕ) → (read_any room no_value value >>= λ v. read_any room v later) ≡ read_any room no_value later

-- with room for so many levels inside the value, the member can be read, and leaves nothing to one that follows, unless
-- that is merged with it
pub record GivesWay (room : ℕ) (member : Option Entry) : Type 0 where
  pub kind : KindData
  pub read : member_of room member ≡ Ok (any_value kind [])
  pub arrays : (number_of member == 5) ≡ false → array_in kind ≡ no_array
  pub lists : (number_of member == 6) ≡ false → list_in kind ≡ no_list

-- With room for so many levels inside the value, it makes that of a value's text, whose fields that aren't known are
-- kept as a pair's are.
pub record IsValue (room d : ℕ) (text : List ℕ) (member : Option Entry) (size : ℕ) : Type 0 where
  pub kept : List ℕ
  pub none : size ≡ 0 → kept ≡ []
  pub gathered : walk (gather known_of_any no_value) d [] text ≡ Ok kept
  pub again : (inner : ℕ) (v : AnyValueData) (rest : List ℕ) → walk (any_step_in inner) d v (kept ++ rest)
      ≡ walk (any_step_in inner) d (keep_any v kept) rest
  pub known : IfSome member IsMember
  pub read : walk (any_step_in room) d no_value text ≡ (member_of room member >>= λ v. Ok (keep_any v kept))

-- these are the parts of an attribute's text; of its value, those of the member that counts, if one was looked for
pub record HasParts (room : ℕ) (text : List ℕ) (parts : Parts) : Type 0 where
  pub some : 0 < room
  pub pair : IsPair (101 - room) text parts.pair.key.now parts.pair.value.now parts.pair.has_value parts.pair.unknown
  pub value : (member : Entry) → option_map entry parts.chosen.member ≡ Some member
      → IsValue (room - 1 - 1) (101 - (room - 1)) parts.pair.value.now (Some member) parts.chosen.unknown

-- what a field of wire type `LEN` holds
abbrev pub held : Datum → List ℕ
held (Bytes bs) = bs
held _ = []
