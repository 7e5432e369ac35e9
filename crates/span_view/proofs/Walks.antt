-- The fields of a text, one after the other.
use Rattle.std.proofs.Common.{◌≡◌, ℕ, zero, suc, ◌<◌, ◌≤◌, List, [], ◌∷◌, length, map, Bor, Option, Some, None, Result, Ok, Err, refl, ap, ◌∙◌, arith}
use Rattle.std.specs.Prelude.{◌%◌, ◌^◌, pos}
use Rattle.std.specs.Int.{w32, cast_signed}
use Rattle.pb_wire.specs.declared.field.WireFault.{WireFault}
use Rattle.pb_wire.specs.declared.field.WireType.TheVariants as types
use Rattle.pb_wire.specs.declared.field.Field.{Field}
use Rattle.pb_wire.specs.Grammar.{Entry}
use Rattle.pb_wire.specs.Reading.{next_at, shown}
use Rattle.pb_wire.proofs.Whole.{next_shorter}
use Rattle.span_view.specs.Reading.{fields_from, fields_in, fields_of, found_fields, held, first_bytes, first_varint, all_bytes, attribute_in, attributes_in, code_in}

from_same : (p q : List ℕ → List Entry) (text : List ℕ) (r : Result (Option (Entry × List ℕ)) WireFault) → next_at 0 text ≡ r
    → ((rest : List ℕ) → length rest < length text → p rest ≡ q rest) → fields_from p r ≡ fields_from q r
from_same p q text (Ok None) e agree = refl
from_same p q text (Ok (Some x)) e agree = ap (λ es. x.0 ∷ es) (agree x.1 (next_shorter 0 text x.0 x.1 e))
from_same p q text (Err f) e agree = refl

fields_enough : (m n : ℕ) (text : List ℕ) → length text ≤ m → length text ≤ n → fields_in m text ≡ fields_in n text
unfolding fields_in
fields_enough zero zero text le le' = refl
fields_enough zero (suc n) [] le le' = refl
fields_enough zero (suc n) (b ∷ text) le le' = absurd (omega arith)
fields_enough (suc m) zero [] le le' = refl
fields_enough (suc m) zero (b ∷ text) le le' = absurd (omega arith)
fields_enough (suc m) (suc n) text le le' = from_same (fields_in m) (fields_in n) text (next_at 0 text) refl (λ rest lt. fields_enough m n rest (omega arith) (omega arith))

-- one field, and then the others
pub fields_step : (text : List ℕ) → fields_of text ≡ fields_from fields_of (next_at 0 text)
unfolding fields_of fields_in
fields_step [] = refl
fields_step (b ∷ text) = from_same (fields_in (length text)) fields_of (b ∷ text) (next_at 0 (b ∷ text)) refl (λ rest lt. fields_enough (length text) (length rest) rest (omega arith) (omega arith))

pub fields_none : (text : List ℕ) (fault : WireFault) → next_at 0 text ≡ Err fault → fields_of text ≡ []
fields_none text fault e = fields_step text ∙ ap (fields_from fields_of) e

pub fields_found : (text : List ℕ) (found : Option (Field × Bor (List ℕ))) → next_at 0 text ≡ shown (Ok found) → fields_of text ≡ found_fields found
fields_found text None e = fields_step text ∙ ap (fields_from fields_of) e
fields_found text (Some found) e = fields_step text ∙ ap (fields_from fields_of) e

-- an empty text has none
pub no_attributes : (n : ℕ) → attributes_in n [] ≡ []
no_attributes n = ap (λ es. map attribute_in (all_bytes (held n types.Bytes es))) (fields_step [])

-- and its status is unset
pub no_code : code_in (first_bytes (held 15 types.Bytes (fields_of []))) ≡ pos 0
no_code =
    ap (λ es. code_in (first_bytes (held 15 types.Bytes es))) (fields_step [])
    ∙ ap (λ es. cast_signed w32 (first_varint (held 3 types.Varint es) % 2 ^ 32)) (fields_step [])
