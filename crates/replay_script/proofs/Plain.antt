-- Within the lines that answer commands there is no line feed.
use Rattle.std.proofs.Common.{◌≡◌, ◌≢◌, ◌/◌, ◌%◌, ◌==◌, ℕ, zero, suc, true, false, cond, not, List, [], ◌∷◌, length, All, refl, arith, codes, inl, inr}
use Rattle.std.specs.List.{list_all, slice_index}
use Rattle.std.specs.Fmt.{decimal, digit_glyph, digits, digits_onto}
use Rattle.std.proofs.lemmas.Bool.{cases_lt}
use Rattle.std.proofs.lemmas.Bool.Decides.{nat_tests}
use Rattle.std.proofs.lemmas.List.{get_or_past}
use Rattle.std.proofs.lemmas.List.Elements.{All-nil, All-cons}
use Rattle.std.proofs.lemmas.List.Sums.{AllPass-from_list_all}
use Rattle.hex.specs.Hex.{encode_with, lower_digits}
use Rattle.replay_script.specs.Answer.{hex_text}

abbrev pub IsPlain : List ℕ → Type 0
IsPlain text = All (λ byte. byte ≢ 10) text

apart : (byte : ℕ) → not (byte == 10) ≡ true → byte ≢ 10
apart byte h e = grind (arith, nat_tests)

pub plain_of : (text : List ℕ) → list_all (λ byte. not (byte == 10)) text ≡ true → IsPlain text
plain_of text h k d below = apart _ (AllPass-from_list_all (λ byte. not (byte == 10)) text h k d below)

glyph_apart : (digit : ℕ) → digit_glyph false digit ≢ 10
glyph_apart digit e = grind (arith, nat_tests)

digits_plain : (k n : ℕ) (behind : List ℕ) → IsPlain behind → IsPlain (digits_onto k 10 false n behind)
digits_plain zero n behind plain = plain
digits_plain (suc k) n behind plain =
    let more = All-cons (λ byte. byte ≢ 10) (digit_glyph false (n % 10)) behind (glyph_apart (n % 10)) plain in
    elim (n / 10 == 0) as (λ b. IsPlain (cond b (digit_glyph false (n % 10) ∷ behind) (digits_onto k 10 false (n / 10) (digit_glyph false (n % 10) ∷ behind)))) [
      | true ↦ more
      | false ↦ digits_plain k (n / 10) (digit_glyph false (n % 10) ∷ behind) more
    ]

pub decimal_plain : (n : ℕ) → IsPlain (decimal n)
unfolding digits
decimal_plain n = digits_plain 64 n [] (All-nil (λ byte. byte ≢ 10))

zero_apart : (x : ℕ) → x ≡ 0 → x ≢ 10
zero_apart x e f = omega (arith, e, f)

digit_plain : (place : ℕ) → slice_index lower_digits place ≢ 10
digit_plain place = elim (cases_lt place (length lower_digits)) [
  | inl within ↦ plain_of lower_digits refl place 0 within
  | inr past ↦ zero_apart _ (get_or_past lower_digits place 0 past)
]

encoded_plain : (bytes : List ℕ) → IsPlain (encode_with lower_digits bytes)
unfolding encode_with
encoded_plain [] = All-nil (λ byte. byte ≢ 10)
encoded_plain (byte ∷ bytes) =
    All-cons (λ b. b ≢ 10) (slice_index lower_digits (byte / 16)) (slice_index lower_digits (byte % 16) ∷ encode_with lower_digits bytes) (digit_plain (byte / 16))
    (All-cons (λ b. b ≢ 10) (slice_index lower_digits (byte % 16)) (encode_with lower_digits bytes) (digit_plain (byte % 16)) (encoded_plain bytes))

pub hex_plain : (bytes : List ℕ) → IsPlain (hex_text bytes)
hex_plain [] = plain_of (codes "-") refl
hex_plain (byte ∷ bytes) = encoded_plain (byte ∷ bytes)
