-- Attributes and the messages that hold them, where lengths are written anew (the Protocol Buffers encoding guide,
-- "Length-Delimited Records": a length is a varint, which may take more bytes than it needs).
use Rattle.std.specs.Prelude.{◌≡◌, ◌<◌, ℕ, Bool, true, List, ◌++◌}
use Rattle.pb_wire.specs.Grammar.{Entry, Bytes, IsField}
use Rattle.otlp_read.specs.AnyValue.{no_key_value, key_value_step}
use Rattle.otlp_read.specs.Walk.{Step, numbered, read_with}

-- the text is a field, and then the value, which is in an attribute's second field
pub record ValueLast (d : ℕ) (text before value : List ℕ) : Type 0 where
  pub key : Entry
  pub last : List ℕ
  pub parts : text ≡ before ++ last
  pub first : IsField d before key
  pub second : IsField d last (numbered 2 (Bytes value))

-- In the fields of these numbers an attribute may stand as any text of which a reader makes the same, in any spelling.
pub record AttributeLaws {A : Type 0} (step : ℕ → Step A) (attribute : ℕ → Bool) : Type 0 where
  pub some : (number : ℕ) → attribute number ≡ true → 0 < number
  pub fits : (number : ℕ) → attribute number ≡ true → number < 16
  pub same : (room number : ℕ) (a : A) (text put spelled other : List ℕ) → attribute number ≡ true
      → read_with key_value_step room no_key_value text ≡ read_with key_value_step room no_key_value put
      → step room a (numbered number (Bytes put)) spelled ≡ step room a (numbered number (Bytes text)) other
