-- Attributes and their values, from their parts.
use Rattle.std.proofs.Common.{◌≡◌, ℕ, zero, suc, ◌<◌, ◌^◌, false, true, List, ◌∷◌, ◌++◌, length, refl, sym, ap, ◌∙◌, arith, append_assoc}
use Rattle.std.proofs.lemmas.Int.{of_z-to_z}
use Rattle.std.proofs.Math.Facts.{sfits_to_z}
use Rattle.std.specs.Int.{w64, cast_signed}
use Rattle.std.specs.Str.{IsUtf8}
use Rattle.pb_wire.specs.declared.field.WireType.TheVariants as types
use Rattle.pb_wire.specs.Text.{varint_text}
use Rattle.otlp_trace.specs.Data.{any_value, unset, string, boolean, int, double, array, kvlist, bytes, ArrayValueData, array_value, no_values, a_value, KeyValueListData, key_value_list, bare_key, key_value, no_key_values, a_key_value}
use Rattle.otlp_trace.specs.Text.{number_field, bytes_field, some_bytes, any_text, kind_text, array_text, values_text, list_text, key_value_text, key_values_text}
use Rattle.otlp_read.specs.Nested.{Kept, known_of_any, known_of_array, known_of_list, known_of_key_value}
use Rattle.otlp_canonical.specs.Parts.{Whole, Front}
use Rattle.otlp_canonical.specs.Sound.{SoundAny, SoundKind, SoundArray, SoundList, SoundKeyValue}
use Rattle.otlp_canonical.proofs.Fields.{tagged}
use Rattle.otlp_canonical.proofs.Parts.{last}

-- ---- the members of a value's oneof, and what stands behind them

pub unset_front : (room : ℕ) (text : List ℕ) → Front kind_text (SoundKind room) text text
unset_front room text = record { value = unset; sound = record { typed = tt; nested = tt }; parts = refl }

pub string_front : (room : ℕ) (text bs rest : List ℕ) → text ≡ bytes_field 1 bs ++ rest → IsUtf8 bs → Front kind_text (SoundKind room) text rest
string_front room text bs rest parts valid = record { value = string bs; sound = record { typed = valid; nested = tt }; parts = parts }

pub bytes_front : (room : ℕ) (text bs rest : List ℕ) → text ≡ bytes_field 7 bs ++ rest → Front kind_text (SoundKind room) text rest
bytes_front room text bs rest parts = record { value = bytes bs; sound = record { typed = tt; nested = tt }; parts = parts }

pub bool_front : (room x : ℕ) (text behind rest : List ℕ) → text ≡ 0x10 ∷ behind → behind ≡ varint_text x ++ rest → x < 2 → Front kind_text (SoundKind room) text rest
bool_front room zero text behind rest p q small = record {
  value = boolean false;
  sound = record { typed = tt; nested = tt };
  parts = tagged 2 types.Varint 0x10 text behind (varint_text 0) rest refl (omega arith) p q;
}
bool_front room (suc zero) text behind rest p q small = record {
  value = boolean true;
  sound = record { typed = tt; nested = tt };
  parts = tagged 2 types.Varint 0x10 text behind (varint_text 1) rest refl (omega arith) p q;
}
bool_front room (suc (suc x)) text behind rest p q small = absurd (omega arith)

pub int_front : (room x : ℕ) (text behind rest : List ℕ) → text ≡ 0x18 ∷ behind → behind ≡ varint_text x ++ rest → x < 2 ^ 64 → Front kind_text (SoundKind room) text rest
int_front room x text behind rest p q fits = record {
  value = int (cast_signed w64 x);
  sound = record { typed = sfits_to_z (record { fits = fits }); nested = tt };
  parts = tagged 3 types.Varint 0x18 text behind (varint_text x) rest refl (omega arith) p q ∙ ap (λ (n : ℕ). number_field 3 n ++ rest) (sym (of_z-to_z w64 x fits));
}

pub double_front : (room : ℕ) (text behind bs rest : List ℕ) → text ≡ 0x21 ∷ behind → behind ≡ bs ++ rest → length bs ≡ 8 → Front kind_text (SoundKind room) text rest
double_front room text behind bs rest p q long = record {
  value = double bs;
  sound = record { typed = long; nested = tt };
  parts = tagged 4 types.Eight 0x21 text behind bs rest refl (omega arith) p q;
}

pub array_front : (room : ℕ) (text bs rest : List ℕ) → text ≡ bytes_field 5 bs ++ rest → Whole array_text (SoundArray room) bs → Front kind_text (SoundKind room) text rest
array_front room text bs rest parts w = record { value = array w.value; sound = record { typed = w.sound.typed; nested = w.sound.nested }; parts = parts ∙ ap (λ (t : List ℕ). bytes_field 5 t ++ rest) w.same }

pub list_front : (room : ℕ) (text bs rest : List ℕ) → text ≡ bytes_field 6 bs ++ rest → Whole list_text (SoundList room) bs → Front kind_text (SoundKind room) text rest
list_front room text bs rest parts w = record { value = kvlist w.value; sound = record { typed = w.sound.typed; nested = w.sound.nested }; parts = parts ∙ ap (λ (t : List ℕ). bytes_field 6 t ++ rest) w.same }

pub any_whole : (room r : ℕ) (text rest : List ℕ) → room ≡ suc r → Front kind_text (SoundKind r) text rest → Kept known_of_any r rest → Whole any_text (SoundAny room) text
any_whole room r text rest is f kept = rw is (record {
  value = any_value f.value rest;
  sound = record { typed = f.sound.typed; nested = (f.sound.nested, kept) };
  same = f.parts;
})

-- ---- what holds values

pub array_kept : (room r : ℕ) (text : List ℕ) → room ≡ suc r → Kept known_of_array r text → Whole array_text (SoundArray room) text
array_kept room r text is kept = rw is (record { value = array_value no_values text; sound = record { typed = tt; nested = (tt, kept) }; same = refl })

pub array_more : (room r : ℕ) (text bs rest : List ℕ) → room ≡ suc r → text ≡ bytes_field 1 bs ++ rest → Whole any_text (SoundAny r) bs → Whole array_text (SoundArray room) rest → Whole array_text (SoundArray room) text
array_more room r text bs rest is parts v w = more room (w.value) is w.sound w.same
  where
    more : (room : ℕ) (a : ArrayValueData) → room ≡ suc r → SoundArray room a → rest ≡ array_text a → Whole array_text (SoundArray room) text
    more zero a is sound same = absurd (omega arith)
    more (suc room) (array_value vs unknown) is sound same =
        let e : r ≡ room = omega arith in
        record {
          value = array_value (a_value v.value vs) unknown;
          sound = record { typed = (v.sound.typed, sound.typed); nested = ((rw (← e) v.sound.nested, sound.nested.0), sound.nested.1) };
          same = parts ∙ ap (λ (t : List ℕ). bytes_field 1 t ++ rest) v.same ∙ ap (λ (t : List ℕ). bytes_field 1 (any_text v.value) ++ t) same ∙ sym (append_assoc (bytes_field 1 (any_text v.value)) (values_text vs) unknown);
        }

pub list_kept : (room r : ℕ) (text : List ℕ) → room ≡ suc r → Kept known_of_list r text → Whole list_text (SoundList room) text
list_kept room r text is kept = rw is (record { value = key_value_list no_key_values text; sound = record { typed = tt; nested = (tt, kept) }; same = refl })

pub list_more : (room r : ℕ) (text bs rest : List ℕ) → room ≡ suc r → text ≡ bytes_field 1 bs ++ rest → Whole key_value_text (SoundKeyValue r) bs → Whole list_text (SoundList room) rest → Whole list_text (SoundList room) text
list_more room r text bs rest is parts v w = more room (w.value) is w.sound w.same
  where
    more : (room : ℕ) (l : KeyValueListData) → room ≡ suc r → SoundList room l → rest ≡ list_text l → Whole list_text (SoundList room) text
    more zero l is sound same = absurd (omega arith)
    more (suc room) (key_value_list ps unknown) is sound same =
        let e : r ≡ room = omega arith in
        record {
          value = key_value_list (a_key_value v.value ps) unknown;
          sound = record { typed = (v.sound.typed, sound.typed); nested = ((rw (← e) v.sound.nested, sound.nested.0), sound.nested.1) };
          same = parts ∙ ap (λ (t : List ℕ). bytes_field 1 t ++ rest) v.same ∙ ap (λ (t : List ℕ). bytes_field 1 (key_value_text v.value) ++ t) same ∙ sym (append_assoc (bytes_field 1 (key_value_text v.value)) (key_values_text ps) unknown);
        }

pub bare_whole : (room r : ℕ) (text rest : List ℕ) → room ≡ suc r → Front (some_bytes 1) IsUtf8 text rest → Kept known_of_key_value r rest → Whole key_value_text (SoundKeyValue room) text
bare_whole room r text rest is f kept = rw is (record { value = bare_key f.value rest; sound = record { typed = f.sound; nested = kept }; same = f.parts })

pub key_value_whole : (room r : ℕ) (text mid bs rest : List ℕ) → room ≡ suc r → Front (some_bytes 1) IsUtf8 text mid → mid ≡ bytes_field 2 bs ++ rest → Whole any_text (SoundAny r) bs → Kept known_of_key_value r rest → Whole key_value_text (SoundKeyValue room) text
key_value_whole room r text mid bs rest is f parts v kept = rw is (record {
  value = key_value f.value v.value rest;
  sound = record { typed = (f.sound, v.sound.typed); nested = (v.sound.nested, kept) };
  same = last (some_bytes 1 f.value) (bytes_field 2 (any_text v.value) ++ rest) f.parts (parts ∙ ap (λ (t : List ℕ). bytes_field 2 t ++ rest) v.same);
})
