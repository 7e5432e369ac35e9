-- What is written as a field is that field's spelling, and no shorter than what the field holds.
use Rattle.std.proofs.Common.{◌≡◌, ℕ, suc, ◌<◌, ◌≤◌, ◌^◌, Bool, true, false, ◌&&◌, nat_lt, ◌==◌, List, ◌∷◌, ◌++◌, length, refl, arith, length-append}
use Rattle.std.proofs.lemmas.Bool.Decides.{nat_tests}
use Rattle.pb_wire.specs.declared.field.WireType.TheVariants as types
use Rattle.pb_wire.specs.Grammar.{Varint, Eight, Bytes, Four, IsField, varint_field as varint_is, eight_field as eight_is, bytes_field as bytes_is, four_field as four_is}
use Rattle.pb_wire.specs.Text.{varint_text, tag_text}
use Rattle.pb_wire.proofs.Written.{groups_are, tag_written}
use Rattle.otlp_trace.specs.Text.{number_field, eight_field, bytes_field, four_field, unless_empty}

-- a field's number, which a tag can hold
abbrev pub is_number : ℕ → Bool
is_number n = nat_lt 0 n && nat_lt n (2 ^ 29)

pub number_some : (n : ℕ) → is_number n ≡ true → 0 < n
number_some n e = grind (arith, nat_tests)

pub number_fits : (n : ℕ) → is_number n ≡ true → n < 2 ^ 29
number_fits n e = grind (arith, nat_tests)

pub number_at : (d n x : ℕ) → 0 < n → n < 2 ^ 29 → x < 2 ^ 64 → IsField d (number_field n x) (record { number = n; value = Varint x })
number_at d n x some fits short = varint_is (tag_written n types.Varint some fits) (groups_are x short)

pub eight_at : (d n : ℕ) (bs : List ℕ) → 0 < n → n < 2 ^ 29 → length bs ≡ 8 → IsField d (eight_field n bs) (record { number = n; value = Eight bs })
eight_at d n bs some fits long = eight_is (tag_written n types.Eight some fits) long

pub four_at : (d n : ℕ) (bs : List ℕ) → 0 < n → n < 2 ^ 29 → length bs ≡ 4 → IsField d (four_field n bs) (record { number = n; value = Four bs })
four_at d n bs some fits long = four_is (tag_written n types.Four some fits) long

pub bytes_at : (d n : ℕ) (bs : List ℕ) → 0 < n → n < 2 ^ 29 → length bs < 2 ^ 64 → IsField d (bytes_field n bs) (record { number = n; value = Bytes bs })
bytes_at d n bs some fits short = bytes_is (tag_written n types.Bytes some fits) (groups_are (length bs) short)

pub bytes_within : (n : ℕ) (bs : List ℕ) → length bs ≤ length (bytes_field n bs)
bytes_within n bs = omega (arith, length-append (tag_text n types.Bytes) (varint_text (length bs) ++ bs), length-append (varint_text (length bs)) bs)

pub unless_full : (b : ℕ) (bs text : List ℕ) → unless_empty (b ∷ bs) text ≡ text
unless_full b bs text = let some : (suc (length bs) == 0) ≡ false = grind (arith, nat_tests) in rw some refl
