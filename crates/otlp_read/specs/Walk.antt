-- The fields of a text, taken one after the other into a message (the proto3 encoding guide, "Message Structure").
use Rattle.std.specs.Prelude.{◌≡◌, ℕ, zero, suc, ◌-◌, List, [], ◌∷◌, ◌++◌, length, take, Option, Some, None, unwrap_or, Result, Ok, Err}
use Rattle.pb_wire.specs.declared.field.WireFault.{WireFault}
use Rattle.pb_wire.specs.Grammar.{Entry, Datum, IsField}
use Rattle.pb_wire.specs.Reading.{next_at}
use Rattle.otlp_read.specs.declared.fault.ReadFault.{ReadFault}
use Rattle.otlp_read.specs.declared.fault.ReadFault.TheVariants.{TooDeep}
use Rattle.otlp_read.specs.Fault.{of_wire}

-- what is read of the value before, unless that is a fault
infixl 10 ◌>>=◌
abbrev pub ◌>>=◌ : {A B : Type 0} → Result A ReadFault → (A → Result B ReadFault) → Result B ReadFault
(Ok x) >>= f = f x
(Err e) >>= f = Err e

-- what one more field, and its bytes as they are spelled, make of a message
abbrev pub Step : Type 0 → Type 0
Step A = A → Entry → List ℕ → Result A ReadFault

-- a reader of a message's bytes, which goes on from an earlier value
abbrev pub Reader : Type 0 → Type 0
Reader A = A → List ℕ → Result A ReadFault

-- a field, and its bytes as they are spelled
pub record Piece : Type 0 where
  pub field : Entry
  pub spelled : List ℕ

-- Pieces d text pieces: at depth d the text is these fields so spelled, one after another.
pub data Pieces : ℕ → List ℕ → List Piece → Type 0 where
  no_pieces : {d : ℕ} → Pieces d [] []
  more_pieces : {d : ℕ} {front rest : List ℕ} {field : Entry} {pieces : List Piece}
      → IsField d front field → Pieces d rest pieces
      → Pieces d (front ++ rest) (record { field = field; spelled = front } ∷ pieces)

-- the message after all fields of a list
abbrev pub fold_fields : {A : Type 0} → Step A → A → List Piece → Result A ReadFault
fold_fields step a [] = Ok a
fold_fields step a (p ∷ ps) = step a p.field p.spelled >>= λ b. fold_fields step b ps

-- the message after the fields of a further list
abbrev pub with_more : {A : Type 0} → Step A → Result A ReadFault → List Piece → Result A ReadFault
with_more step before ps = before >>= λ b. fold_fields step b ps

-- the fields of two lists make what the first list's make, and then the other's
abbrev pub MergesLists : {A : Type 0} → Step A → Type 0
MergesLists {A} step =
    (a : A) (xs ys : List Piece) → fold_fields step a (xs ++ ys) ≡ with_more step (fold_fields step a xs) ys

-- what stands before the rest
abbrev pub before : List ℕ → List ℕ → List ℕ
before bytes rest = take (length bytes - length rest) bytes

-- the first field is taken, and then the rest
abbrev pub onward : {A : Type 0}
    → Step A → Reader A → A → List ℕ → Result (Option (Entry × List ℕ)) WireFault → Result A ReadFault
onward step others a bytes (Ok None) = Ok a
onward step others a bytes (Ok (Some x)) = step a x.0 (before bytes x.1) >>= λ b. others b x.1
onward step others a bytes (Err fault) = Err (of_wire fault)

-- no more than so many fields
unfoldable pub walk_in : {A : Type 0} → Step A → ℕ → ℕ → A → List ℕ → Result A ReadFault
walk_in step d zero a bytes = Ok a
walk_in step d (suc n) a bytes = onward step (walk_in step d n) a bytes (next_at d bytes)

-- The message after the fields of a text at depth d. A field takes at least a byte.
unfoldable pub walk : {A : Type 0} → Step A → ℕ → A → List ℕ → Result A ReadFault
walk step d a bytes = walk_in step d (length bytes) a bytes

-- The message after the fields of a text, with room for so many levels, its own among them: at depth d there is room
-- for 101 - d. The messages in its fields have room for one level less.
unfoldable pub read_with : {A : Type 0} → (ℕ → Step A) → ℕ → A → List ℕ → Result A ReadFault
read_with step zero a bytes = Err TooDeep
read_with step (suc room) a bytes = walk (step room) (100 - room) a bytes

-- a repeated field with one more message, where that can be read
abbrev pub with_another : {A : Type 0} → List A → Result A ReadFault → Result (List A) ReadFault
with_another others read = read >>= λ x. Ok (others ++ x ∷ [])

-- a field of this number
abbrev pub numbered : ℕ → Datum → Entry
numbered n datum = record { number = n; value = datum }

-- what a known field makes of a message; none where the message has no field of this number and wire type
abbrev pub Known : Type 0 → Type 0
Known A = A → ℕ → Datum → Option (Result A ReadFault)

-- a field that isn't known is kept as it was spelled
abbrev pub known_or_kept : {A : Type 0} → Known A → (A → List ℕ → A) → Step A
known_or_kept known keep a e spelled = unwrap_or (known a e.number e.value) (Ok (keep a spelled))

-- a field that isn't known is dropped
abbrev pub known_or_dropped : {A : Type 0} → Known A → Step A
known_or_dropped known a e spelled = unwrap_or (known a e.number e.value) (Ok a)
