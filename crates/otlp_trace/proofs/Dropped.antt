-- The text of the elements from an index on: one of them, and the others.
use Rattle.std.proofs.Common.{◌≡◌, ℕ, ◌+◌, ◌<◌, List, ◌++◌, length, get_or, drop, map, refl}
use Rattle.std.proofs.lemmas.List.{drop_more}
use Rattle.otlp_trace.specs.Data.{ArrayValueData, array_value, AnyValues, KeyValueListData, key_value_list, KeyValues}
use Rattle.otlp_trace.specs.Text.{bytes_field, repeated, values_text, key_values_text}
use Rattle.otlp_trace.specs.View.{any_view, key_value_view, values_of, key_values_of}
use Rattle.otlp_trace.specs.declared.value.AnyValue.{AnyValue}
use Rattle.otlp_trace.specs.declared.value.KeyValue.{KeyValue}

abbrev pub repeated_from : {A B : Type 0} → ℕ → (B → List ℕ) → (A → B) → ℕ → List A → List ℕ
repeated_from n text view i xs = repeated n text (map view (drop i xs))

abbrev pub values_in : ArrayValueData → AnyValues
values_in (array_value vs unknown) = vs

abbrev pub key_values_in : KeyValueListData → KeyValues
key_values_in (key_value_list ps unknown) = ps

abbrev pub values_from : ℕ → List AnyValue → List ℕ
values_from i vs = values_text (values_of (map any_view (drop i vs)))

abbrev pub key_values_from : ℕ → List KeyValue → List ℕ
key_values_from i ps = key_values_text (key_values_of (map key_value_view (drop i ps)))

pub repeated_next : {A B : Type 0} (n : ℕ) (text : B → List ℕ) (view : A → B) (xs : List A) (i : ℕ) (d : A) → i < length xs
    → repeated_from n text view i xs ≡ bytes_field n (text (view (get_or xs i d))) ++ repeated_from n text view (i + 1) xs
repeated_next n text view xs i d lt = rw (drop_more xs i d lt) refl
