-- The field at the front of a text, by its number, and the text behind it. Fields stand as the Protocol Buffers
-- encoding guide has them; which of them tell policies something is in Fields.
use Rattle.std.specs.Prelude.{◌≡◌, ◌<◌, ◌==◌, ◌||◌, ℕ, Bool, List, ◌∷◌, length}
use Rattle.std.specs.Int.{w64, from_le_bytes}
use Rattle.pb_wire.specs.Grammar.{Datum, Eight, Bytes}
use Rattle.span_view.specs.Reading.{fields_of}

-- the text begins with a field of this number, and the rest is what stands behind it
pub record IsBehind (number : ℕ) (text rest : List ℕ) : Type 0 where
  pub value : Datum
  pub first : fields_of text ≡ record { number = number; value = value } ∷ fields_of rest
  pub shorter : length rest < length text

-- the text begins with a field of this number, which holds these bytes
pub record StartsWithBytes (number : ℕ) (text content rest : List ℕ) : Type 0 where
  pub first : fields_of text ≡ record { number = number; value = Bytes content } ∷ fields_of rest
  pub shorter : length rest < length text

-- the text begins with a field of this number, which holds eight bytes that spell this number
pub record StartsWithNumber (number : ℕ) (text : List ℕ) (spelled : ℕ) (rest : List ℕ) : Type 0 where
  pub spelling : List ℕ
  pub first : fields_of text ≡ record { number = number; value = Eight spelling } ∷ fields_of rest
  pub spells : spelled ≡ from_le_bytes w64 spelling

-- the rest is the whole text, or what stands behind a field of this number at its front
pub data IsPast : ℕ → List ℕ → List ℕ → Type 0 where
  none_passed : {number : ℕ} {text : List ℕ} → IsPast number text text
  one_passed : {number : ℕ} {text rest : List ℕ} → IsBehind number text rest → IsPast number text rest

-- a field of this number may tell something: a time, an attribute or the status
abbrev pub may_tell : ℕ → Bool
may_tell n = (n == 7) || (n == 8) || (n == 9) || (n == 15)
