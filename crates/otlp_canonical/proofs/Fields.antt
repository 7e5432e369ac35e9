-- Fields at the front of a text.
use Rattle.std.proofs.Common.{◌≡◌, ◌⊎◌, inl, inr, ℕ, pos, negsuc, suc, ◌-◌, ◌≤◌, nat_lt, ◌+◌, ◌*◌, ◌<◌, ◌^◌, ◌==◌, false, FitsSigned, List, [], ◌∷◌, ◌++◌, length, refl, sym, ap, ◌∙◌, arith}
use Rattle.std.proofs.lemmas.Bool.Decides.{nat_tests}
use Rattle.std.proofs.lemmas.Int.{of_z-to_z, to_z_pos}
use Rattle.std.specs.Int.{w32, w64, cast_signed, cast_unsigned, to_le_bytes}
use Rattle.pb_wire.specs.declared.field.WireType.{WireType}
use Rattle.pb_wire.specs.declared.field.WireType.TheVariants as types
use Rattle.pb_wire.specs.Grammar.{code}
use Rattle.pb_wire.specs.Text.{varint_text, tag_text}
use Rattle.otlp_trace.specs.Text.{number_field, bytes_field, eight_field, four_field, unless_empty, unless_zero, some_bytes, some_number, some_signed, some_eight, some_four}
use Rattle.otlp_canonical.specs.Parts.{Front}
use Rattle.otlp_canonical.proofs.Numbers.{tag_one, tag_two}

pub unless_full : (bs text : List ℕ) → 0 < length bs → unless_empty bs text ≡ text
unless_full bs text some = let not : (length bs == 0) ≡ false = grind (arith, nat_tests) in rw not refl

pub unless_some : (x : ℕ) (text : List ℕ) → 0 < x → unless_zero x text ≡ text
unless_some x text some = let not : (x == 0) ≡ false = grind (arith, nat_tests) in rw not refl

-- a tag of one byte, and what stands behind it
pub tagged : (number : ℕ) (kind : WireType) (byte : ℕ) (text behind body rest : List ℕ) → byte ≡ 8 * number + code kind → byte < 128 → text ≡ byte ∷ behind → behind ≡ body ++ rest → text ≡ (tag_text number kind ++ body) ++ rest
tagged number kind byte text behind body rest is small p q =
    p ∙ ap (λ (t : List ℕ). byte ∷ t) q ∙ ap (λ (t : List ℕ). (t ++ body) ++ rest) (sym (tag_one number kind byte is small))

-- one of two bytes
pub tagged_two : (number : ℕ) (kind : WireType) (first second : ℕ) (text mid behind body rest : List ℕ) → tag_text number kind ≡ first ∷ second ∷ [] → text ≡ first ∷ mid → mid ≡ second ∷ behind → behind ≡ body ++ rest → text ≡ (tag_text number kind ++ body) ++ rest
tagged_two number kind first second text mid behind body rest is p q r =
    p ∙ ap (λ (t : List ℕ). first ∷ t) (q ∙ ap (λ (t : List ℕ). second ∷ t) r) ∙ ap (λ (t : List ℕ). (t ++ body) ++ rest) (sym is)

pub bytes_front : {Sound : List ℕ → Type 0} (n : ℕ) (text bs rest : List ℕ) → Sound bs → 0 < length bs → text ≡ bytes_field n bs ++ rest → Front (some_bytes n) Sound text rest
bytes_front n text bs rest sound some parts = record { value = bs; sound = sound; parts = parts ∙ ap (λ (t : List ℕ). t ++ rest) (sym (unless_full bs (bytes_field n bs) some)) }

pub number_front : (n byte x : ℕ) (text behind rest : List ℕ) → byte ≡ 8 * n → byte < 128 → text ≡ byte ∷ behind → behind ≡ varint_text x ++ rest → 0 < x → x < 2 ^ 32 → Front (some_number n) (λ x. x < 2 ^ 32) text rest
number_front n byte x text behind rest is small p q some fits = record {
  value = x;
  sound = fits;
  parts = tagged n types.Varint byte text behind (varint_text x) rest (omega arith) small p q ∙ ap (λ (t : List ℕ). t ++ rest) (sym (unless_some x (number_field n x) some));
}

-- a number of 64 bits that one of 32 bits is widened to
pub signed_fits : (x : ℕ) → x < 2 ^ 64 → (x < 2 ^ 31) ⊎ (2 ^ 64 - 2 ^ 31 ≤ x) → FitsSigned w32 (cast_signed w64 x)
signed_fits x fits (inl low) = let e : cast_signed w64 x ≡ pos x = to_z_pos w64 x (omega (arith, low)) in rw e (record { sfits = omega (arith, low) })
signed_fits x fits (inr high) =
    let not : nat_lt x (2 ^ 63) ≡ false = grind (arith, nat_tests, high) in
    let e : cast_signed w64 x ≡ negsuc (2 ^ 64 - suc x) = rw not refl in
    rw e (record { sfits = omega (arith, high, fits) })

pub signed_front : (n byte x : ℕ) (text behind rest : List ℕ) → byte ≡ 8 * n → byte < 128 → text ≡ byte ∷ behind → behind ≡ varint_text x ++ rest → 0 < x → x < 2 ^ 64 → (x < 2 ^ 31) ⊎ (2 ^ 64 - 2 ^ 31 ≤ x) → Front (some_signed n) (FitsSigned w32) text rest
signed_front n byte x text behind rest is small p q some fits which =
    let same : cast_unsigned w64 (cast_signed w64 x) ≡ x = of_z-to_z w64 x fits in
    record {
      value = cast_signed w64 x;
      sound = signed_fits x fits which;
      parts = tagged n types.Varint byte text behind (varint_text x) rest (omega arith) small p q ∙ ap (λ (t : List ℕ). t ++ rest) (sym (unless_some x (number_field n x) some) ∙ ap (some_number n) (sym same));
    }

abbrev pub Eight : ℕ → Type 0
Eight x = (0 < x) × (x < 2 ^ 64)

pub eight_front : (n byte : ℕ) (text behind rest : List ℕ) → byte ≡ 8 * n + 1 → byte < 128 → text ≡ byte ∷ behind → Front (to_le_bytes w64) Eight behind rest → Front (some_eight n) (λ x. x < 2 ^ 64) text rest
eight_front n byte text behind rest is small p f = record {
  value = f.value;
  sound = f.sound.1;
  parts = tagged n types.Eight byte text behind (to_le_bytes w64 f.value) rest is small p f.parts ∙ ap (λ (t : List ℕ). t ++ rest) (sym (unless_some f.value (eight_field n (to_le_bytes w64 f.value)) f.sound.0));
}

abbrev pub Four : ℕ → Type 0
Four x = (0 < x) × (x < 2 ^ 32)

pub four_front : (n byte : ℕ) (text behind rest : List ℕ) → byte ≡ 8 * n + 5 → byte < 128 → text ≡ byte ∷ behind → Front (to_le_bytes w32) Four behind rest → Front (some_four n) (λ x. x < 2 ^ 32) text rest
four_front n byte text behind rest is small p f = record {
  value = f.value;
  sound = f.sound.1;
  parts = tagged n types.Four byte text behind (to_le_bytes w32 f.value) rest is small p f.parts ∙ ap (λ (t : List ℕ). t ++ rest) (sym (unless_some f.value (four_field n (to_le_bytes w32 f.value)) f.sound.0));
}

pub flags_front : (text mid behind rest : List ℕ) → text ≡ 0x85 ∷ mid → mid ≡ 0x01 ∷ behind → Front (to_le_bytes w32) Four behind rest → Front (some_four 16) (λ x. x < 2 ^ 32) text rest
flags_front text mid behind rest p q f = record {
  value = f.value;
  sound = f.sound.1;
  parts = tagged_two 16 types.Four 0x85 0x01 text mid behind (to_le_bytes w32 f.value) rest tag_two p q f.parts ∙ ap (λ (t : List ℕ). t ++ rest) (sym (unless_some f.value (four_field 16 (to_le_bytes w32 f.value)) f.sound.0));
}
