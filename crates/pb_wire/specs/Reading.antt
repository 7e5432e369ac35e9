-- Wire text read from left to right, with the first fault that is met: the grammar as functions on
-- lists. `whole_text` and `next_field` prove that these functions and the relations of Grammar
-- agree, so a reader need believe the grammar alone. What these functions add is which fault is met
-- first. The grammar is of the Protocol Buffers encoding guide; which fault is met first is this project's own rule.
use Rattle.std.specs.Prelude.{option_map, ℕ, zero, suc, ◌+◌, ◌-◌, ◌*◌, ◌/◌, ◌%◌, ◌^◌, Bool, true, false, List, [], ◌∷◌, length, take, drop, Option, Some, None, Result, Ok, Err, nat_lt, ◌==◌, if◌then◌else◌}
use Rattle.std.specs.Borrow.{Bor}
use Rattle.pb_wire.specs.declared.field.WireFault.{WireFault}
use Rattle.pb_wire.specs.declared.field.WireFault.TheVariants.{Truncated, VarintTooLong, BadTag, GroupMismatch, TooDeep}
use Rattle.pb_wire.specs.declared.field.WireType.{WireType}
use Rattle.pb_wire.specs.declared.field.WireType.TheVariants as types
use Rattle.pb_wire.specs.declared.field.Field.{Field}
use Rattle.pb_wire.specs.Grammar.{Datum, Varint, Eight, Bytes, Four, Group, Entry, entry}

-- the next step after one that succeeded: Rust's `?`
infixl 10 ◌>>=◌
abbrev pub ◌>>=◌ : {A B : Type 0} → Result A WireFault → (A → Result B WireFault)
    → Result B WireFault
(Ok x) >>= f = f x
(Err fault) >>= f = Err fault

-- what a function returned, without where it lies in memory
abbrev pub seen : {X Y : Type 0} → (X → Y) → Result X WireFault → Result Y WireFault
seen view (Ok x) = Ok (view x)
seen view (Err fault) = Err fault

-- what `next_field` returned, without where it lies in memory: the field and the bytes behind it
abbrev pub shown : Result (Option (Field × Bor (List ℕ))) WireFault
    → Result (Option (Entry × List ℕ)) WireFault
shown result = seen (option_map (λ found. (entry found.0, found.1.now))) result

-- the varint at the front, whole and of at most so many bytes, and the rest
unfoldable pub number_in : ℕ → List ℕ → Result (ℕ × List ℕ) WireFault
number_in zero bytes = Err VarintTooLong
number_in (suc n) [] = Err Truncated
number_in (suc n) (b ∷ bytes) =
    if nat_lt b 128
    then Ok (b, bytes)
    else (number_in n bytes >>= λ high. Ok (b % 128 + 128 * high.0, high.1))

-- the varint at the front, of at most ten bytes and without its bits past 64, and the rest
unfoldable pub varint_at : List ℕ → Result (ℕ × List ℕ) WireFault
varint_at bytes = do
  n ← number_in 10 bytes
  Ok (n.0 % 2 ^ 64, n.1)

-- the wire type of a number, if there is one
abbrev pub type_of : ℕ → Option WireType
type_of zero = Some types.Varint
type_of (suc zero) = Some types.Eight
type_of (suc (suc zero)) = Some types.Bytes
type_of (suc (suc (suc zero))) = Some types.GroupStart
type_of (suc (suc (suc (suc zero)))) = Some types.GroupEnd
type_of (suc (suc (suc (suc (suc zero))))) = Some types.Four
type_of (suc (suc (suc (suc (suc (suc n)))))) = None

-- a tag that was read, and the bytes behind it
pub record Tag : Type 0 where
  pub number : ℕ
  pub kind : WireType
  pub rest : List ℕ

-- a tag from its two halves
abbrev pub tag_from : ℕ → Option WireType → List ℕ → Result Tag WireFault
tag_from number None rest = Err BadTag
tag_from number (Some kind) rest = Ok (record { number = number; kind = kind; rest = rest })

-- the tag at the front
unfoldable pub tag_at : List ℕ → Result Tag WireFault
tag_at bytes = do
  n ← varint_at bytes
  if nat_lt n.0 8
      then Err BadTag
      else (if nat_lt n.0 (2 ^ 32) then tag_from (n.0 / 8) (type_of (n.0 % 8)) n.1 else Err BadTag)

-- so many bytes, and the rest
unfoldable pub split_at : ℕ → List ℕ → Result (List ℕ × List ℕ) WireFault
split_at n bytes =
    if nat_lt (length bytes) n then Err Truncated else Ok (take n bytes, drop n bytes)

-- a group ends here
abbrev pub is_end : WireType → Bool
is_end types.GroupEnd = true
is_end _ = false

-- What finds a group's end: from the depth of its content, its number and the bytes behind its
-- start, the bytes from its end on, and those behind its end.
abbrev pub Ends : Type 0
Ends = ℕ → ℕ → List ℕ → Result (List ℕ × List ℕ) WireFault

-- the bytes before a group's end, and those behind it
abbrev pub with_content : List ℕ → Result (List ℕ × List ℕ) WireFault
    → Result (List ℕ × List ℕ) WireFault
with_content bytes end =
    end >>= λ found. Ok (take (length bytes - length found.0) bytes, found.1)

-- the value of this wire type at the front, behind its tag, and the rest
unfoldable pub value_with : Ends → ℕ → ℕ → WireType → List ℕ → Result (Datum × List ℕ) WireFault
value_with ends depth number types.Varint bytes =
    varint_at bytes >>= λ value. Ok (Varint value.0, value.1)
value_with ends depth number types.Eight bytes =
    split_at 8 bytes >>= λ value. Ok (Eight value.0, value.1)
value_with ends depth number types.Bytes bytes =
    varint_at bytes
    >>= λ size. split_at size.0 size.1
    >>= λ value. Ok (Bytes value.0, value.1)
value_with ends depth number types.Four bytes =
    split_at 4 bytes >>= λ value. Ok (Four value.0, value.1)
value_with ends depth number types.GroupStart bytes =
    if nat_lt depth 100
    then (with_content bytes (ends (depth + 1) number bytes) >>= λ body. Ok (Group body.0, body.1))
    else Err TooDeep
value_with ends depth number types.GroupEnd bytes = Err GroupMismatch

-- the end of a group of this number, in bytes at this depth, behind at most so many fields
unfoldable pub end_in : ℕ → Ends
end_in zero depth number bytes = Err GroupMismatch
end_in (suc n) depth number [] = Err GroupMismatch
end_in (suc n) depth number (b ∷ bytes) = do
  tag ← tag_at (b ∷ bytes)
  if is_end tag.kind
      then (if tag.number == number then Ok (b ∷ bytes, tag.rest) else Err GroupMismatch)
      else (value_with (end_in n) depth tag.number tag.kind tag.rest
      >>= λ value. end_in n depth number value.1)

-- the end of a group, behind any number of fields: each takes at least a byte
abbrev pub end_at : Ends
end_at depth number bytes = end_in (length bytes) depth number bytes

-- the field at the front, and the rest
abbrev pub field_with : Ends → ℕ → List ℕ → Result (Entry × List ℕ) WireFault
field_with ends depth bytes = do
  tag ← tag_at bytes
  value ← value_with ends depth tag.number tag.kind tag.rest
  Ok (record { number = tag.number; value = value.0 }, value.1)

-- the first field and the rest, or nothing where there are no bytes
abbrev pub next_at : ℕ → List ℕ → Result (Option (Entry × List ℕ)) WireFault
next_at depth [] = Ok None
next_at depth (b ∷ bytes) = field_with end_at depth (b ∷ bytes) >>= λ found. Ok (Some found)

-- a first field, and the fields that others gives for the rest
abbrev pub each : (List ℕ → Result (List Entry) WireFault) → Option (Entry × List ℕ)
    → Result (List Entry) WireFault
each others None = Ok []
each others (Some found) = others found.1 >>= λ fields. Ok (found.0 ∷ fields)

-- all fields, from what is read first: how a loop that calls `next_field` goes on
abbrev pub from_first : (List ℕ → Result (List Entry) WireFault)
    → Result (Option (Entry × List ℕ)) WireFault → Result (List Entry) WireFault
from_first others first = first >>= λ found. each others found

-- all fields, of at most so many
unfoldable pub fields_in : ℕ → ℕ → List ℕ → Result (List Entry) WireFault
fields_in zero depth bytes = Ok []
fields_in (suc n) depth bytes = from_first (fields_in n depth) (next_at depth bytes)

-- all fields of the bytes at this depth, or the first fault
unfoldable pub fields_at : ℕ → List ℕ → Result (List Entry) WireFault
fields_at depth bytes = fields_in (length bytes) depth bytes
