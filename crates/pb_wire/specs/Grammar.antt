-- The grammar of wire text, as relations on whole texts: what the Protocol Buffers encoding guide
-- (https://protobuf.dev/programming-guides/encoding/) says of the bytes of a message. Where the
-- guide leaves something open, the comment names it as this project's choice.
use Rattle.std.specs.Prelude.{◌≡◌, ◌≢◌, ℕ, ◌+◌, ◌*◌, ◌%◌, ◌^◌, ◌<◌, ◌≤◌, List, [], ◌∷◌, ◌++◌, length, Option, Some, None}
use Rattle.pb_wire.specs.declared.field.WireFault.{WireFault}
use Rattle.pb_wire.specs.declared.field.WireFault.TheVariants as faults
use Rattle.pb_wire.specs.declared.field.WireType.{WireType}
use Rattle.pb_wire.specs.declared.field.WireType.TheVariants as types
use Rattle.pb_wire.specs.declared.field.Value.{Value}
use Rattle.pb_wire.specs.declared.field.Value.TheVariants as values
use Rattle.pb_wire.specs.declared.field.Field.{Field}

-- The value of a field: the guide's five wire types that hold one. Eight and four bytes stand for a
-- number, least byte first; a group is given by the bytes between its start and its end.
pub data Datum : Type 0 where
  Varint : ℕ → Datum
  Eight : List ℕ → Datum
  Bytes : List ℕ → Datum
  Four : List ℕ → Datum
  Group : List ℕ → Datum

-- the same value as the code holds it, without where it lies in memory
abbrev pub datum : Value → Datum
datum (values.Varint n) = Varint n
datum (values.Eight bytes) = Eight bytes
datum (values.Bytes bytes) = Bytes bytes.now
datum (values.Four bytes) = Four bytes
datum (values.Group bytes) = Group bytes.now

-- a field: its number and its value (the guide's "record")
pub record Entry : Type 0 where
  pub number : ℕ
  pub value : Datum

-- the same field as the code holds it, without where it lies in memory
abbrev pub entry : Field → Entry
entry field = record { number = field.number; value = datum field.value }

-- Base 128 varints: groups of seven bits, the least significant group first. The top bit of each
-- byte says whether another byte follows ("Base 128 Varints").
pub data Spells : List ℕ → ℕ → Type 0 where
  last_byte : {b : ℕ} → b < 128 → Spells (b ∷ []) b
  more_bytes : {b high : ℕ} {text : List ℕ} → 128 ≤ b → Spells text high
      → Spells (b ∷ text) (b % 128 + 128 * high)

-- A varint's text and its value. The guide: one to ten bytes, for 64 bits. This project's choices:
-- a spelling longer than needed is taken, up to ten bytes, and bits past 64 are dropped.
pub record IsVarint (text : List ℕ) (value : ℕ) : Type 0 where
  pub whole : ℕ
  pub spelled : Spells text whole
  pub short : length text ≤ 10
  pub kept : value ≡ whole % 2 ^ 64

-- the number of a fault (this project's own)
abbrev pub fault_number : WireFault → ℕ
fault_number faults.Truncated = 1
fault_number faults.VarintTooLong = 2
fault_number faults.BadTag = 3
fault_number faults.GroupMismatch = 4
fault_number faults.TooDeep = 5

-- the guide's numbers of wire types: VARINT, I64, LEN, SGROUP, EGROUP and I32
abbrev pub code : WireType → ℕ
code types.Varint = 0
code types.Eight = 1
code types.Bytes = 2
code types.GroupStart = 3
code types.GroupEnd = 4
code types.Four = 5

-- A tag is the varint (field_number << 3) | wire_type, of 32 bits. This project's choice: what is
-- 2^32 or more is no tag, rather than cut to 32 bits. No field has number 0.
pub record IsTag (text : List ℕ) (number : ℕ) (kind : WireType) : Type 0 where
  pub spelled : IsVarint text (8 * number + code kind)
  pub numbered : 0 < number
  pub fits : 8 * number + code kind < 2 ^ 32

mutual
  -- At this depth the text is this one field: its tag, and then what its wire type says. This
  -- project's choices: a group has to end with its own number, and depth 100 is the last (a group's
  -- content is one deeper than the group).
  pub data IsField : ℕ → List ℕ → Entry → Type 0 where
    varint_field : {depth number value : ℕ} {tag text : List ℕ}
        → IsTag tag number types.Varint → IsVarint text value
        → IsField depth (tag ++ text) (record { number = number; value = Varint value })
    eight_field : {depth number : ℕ} {tag text : List ℕ}
        → IsTag tag number types.Eight → length text ≡ 8
        → IsField depth (tag ++ text) (record { number = number; value = Eight text })
    bytes_field : {depth number : ℕ} {tag size text : List ℕ}
        → IsTag tag number types.Bytes → IsVarint size (length text)
        → IsField depth (tag ++ (size ++ text)) (record { number = number; value = Bytes text })
    four_field : {depth number : ℕ} {tag text : List ℕ}
        → IsTag tag number types.Four → length text ≡ 4
        → IsField depth (tag ++ text) (record { number = number; value = Four text })
    group_field : {depth number : ℕ} {tag text end : List ℕ} {fields : List Entry}
        → depth < 100 → IsTag tag number types.GroupStart
        → Fields (depth + 1) text fields → IsTag end number types.GroupEnd
        → IsField depth (tag ++ (text ++ end)) (record { number = number; value = Group text })

  -- At this depth the text is these fields, one after another (the guide's "message structure").
  pub data Fields : ℕ → List ℕ → List Entry → Type 0 where
    no_fields : {depth : ℕ} → Fields depth [] []
    more_fields : {depth : ℕ} {front rest : List ℕ} {field : Entry} {fields : List Entry}
        → IsField depth front field → Fields depth rest fields
        → Fields depth (front ++ rest) (field ∷ fields)

-- at this depth the text begins with this field, and the rest follows
pub record Begins (depth : ℕ) (text : List ℕ) (field : Entry) (rest : List ℕ) : Type 0 where
  pub front : List ℕ
  pub parts : text ≡ front ++ rest
  pub first : IsField depth front field

-- The faults are this project's own: the guide doesn't say how a text that is no message is
-- refused.

-- each byte says that another follows
pub data AreContinuationBytes : List ℕ → Type 0 where
  nothing : AreContinuationBytes []
  byte : {b : ℕ} {text : List ℕ} → 128 ≤ b → AreContinuationBytes text → AreContinuationBytes (b ∷ text)

-- no varint stands at the front: the text ends inside it, or ten bytes say that another follows
pub data NoNumber : List ℕ → WireFault → Type 0 where
  cut : {text : List ℕ} → AreContinuationBytes text → length text < 10 → NoNumber text faults.Truncated
  long : {text : List ℕ} (rest : List ℕ) → AreContinuationBytes text → length text ≡ 10
      → NoNumber (text ++ rest) faults.VarintTooLong

-- no value of this wire type stands at the front: the text ends, or a varint goes on too long
pub data NoValue : WireType → List ℕ → WireFault → Type 0 where
  no_varint : {text : List ℕ} {fault : WireFault} → NoNumber text fault
      → NoValue types.Varint text fault
  no_eight : {text : List ℕ} → length text < 8 → NoValue types.Eight text faults.Truncated
  no_length : {text : List ℕ} {fault : WireFault} → NoNumber text fault
      → NoValue types.Bytes text fault
  no_bytes : {size : List ℕ} {n : ℕ} (text : List ℕ) → IsVarint size n → length text < n
      → NoValue types.Bytes (size ++ text) faults.Truncated
  no_four : {text : List ℕ} → length text < 4 → NoValue types.Four text faults.Truncated

-- No field stands at the front, and this fault says why. The option is the number of the group
-- whose content this is, where it is one: its end is no fault, and a text that ends before it is.
pub data Cause : ℕ → Option ℕ → List ℕ → WireFault → Type 0 where
  no_tag : {depth b : ℕ} {group : Option ℕ} {text : List ℕ} {fault : WireFault}
      → NoNumber (b ∷ text) fault → Cause depth group (b ∷ text) fault
  bad_tag : {depth n : ℕ} {group : Option ℕ} {text : List ℕ} (rest : List ℕ)
      → IsVarint text n → ((number : ℕ) (kind : WireType) → IsTag text number kind → ⊥)
      → Cause depth group (text ++ rest) faults.BadTag
  no_value : {depth number : ℕ} {kind : WireType} {group : Option ℕ} {tag text : List ℕ}
      {fault : WireFault} → IsTag tag number kind → NoValue kind text fault
      → Cause depth group (tag ++ text) fault
  stray_end : {depth number : ℕ} {group : Option ℕ} {tag : List ℕ} (rest : List ℕ)
      → IsTag tag number types.GroupEnd → group ≢ Some number
      → Cause depth group (tag ++ rest) faults.GroupMismatch
  no_end : {depth number : ℕ} → Cause depth (Some number) [] faults.GroupMismatch
  too_deep : {depth number : ℕ} {group : Option ℕ} {tag : List ℕ} (rest : List ℕ) → 100 ≤ depth
      → IsTag tag number types.GroupStart → Cause depth group (tag ++ rest) faults.TooDeep

-- a fault stands in the text: at the front, after sound fields, or inside a group that begins here
pub data FaultIn : ℕ → Option ℕ → List ℕ → WireFault → Type 0 where
  here : {depth : ℕ} {group : Option ℕ} {text : List ℕ} {fault : WireFault}
      → Cause depth group text fault → FaultIn depth group text fault
  after : {depth : ℕ} {group : Option ℕ} {front rest : List ℕ} {field : Entry} {fault : WireFault}
      → IsField depth front field → FaultIn depth group rest fault
      → FaultIn depth group (front ++ rest) fault
  inside : {depth number : ℕ} {group : Option ℕ} {tag rest : List ℕ} {fault : WireFault}
      → depth < 100 → IsTag tag number types.GroupStart
      → FaultIn (depth + 1) (Some number) rest fault
      → FaultIn depth group (tag ++ rest) fault

-- a fault stands in a text that is no group's content
abbrev pub Fault : ℕ → List ℕ → WireFault → Type 0
Fault depth text fault = FaultIn depth None text fault
