-- A value is typed where its parts are.
use Rattle.std.proofs.Common.{◌≡◌, ℕ, zero, suc, ◌≤◌, List, [], ◌∷◌, length, take, map, Option, Some, None, option_map, IfSome, string_bytes, rules, sym, subst, arith}
use Rattle.std.proofs.lemmas.Str.{IsUtf8-string_bytes}
use Rattle.std.specs.List.{AllByRecursion}
use Rattle.otlp_trace.specs.declared.value.AnyValueKind.{the_lemmas}
use Rattle.otlp_trace.specs.declared.value.AnyValue.{AnyValue}
use Rattle.otlp_trace.specs.declared.value.ArrayValue.{ArrayValue, out-ArrayValue}
use Rattle.otlp_trace.specs.declared.value.KeyValue.{KeyValue, out-KeyValue}
use Rattle.otlp_trace.specs.declared.value.KeyValueList.{KeyValueList, out-KeyValueList}
use Rattle.otlp_trace.specs.View.{any_view, array_view, list_view, key_value_view, values_of, key_values_of, key_value_of}
use Rattle.otlp_read.proofs.Pushed.{array_out, list_out}
use Rattle.otlp_read.specs.Typed.{TypedAny, TypedArray, TypedValues, TypedList, TypedKeyValue, TypedKeyValues}

-- all of them
pub each_taken : {X : Type 0} (P : X → Type 0) (xs : List X) (i : ℕ) → length xs ≤ i → AllByRecursion P (take i xs) → AllByRecursion P xs
each_taken P [] i all each = tt
each_taken P (x ∷ xs) zero all each = absurd (omega arith)
each_taken P (x ∷ xs) (suc i) all each = (each.0, each_taken P xs i (omega arith) each.1)

pub each_mapped : {X Y : Type 0} (P : Y → Type 0) (f : X → Y) (xs : List X) → AllByRecursion (λ x. P (f x)) xs → AllByRecursion P (map f xs)
each_mapped P f [] each = tt
each_mapped P f (x ∷ xs) each = (each.0, each_mapped P f xs each.1)

values_typed : (vs : List AnyValue) → AllByRecursion (λ v. TypedAny (any_view v)) vs → TypedValues (values_of (map any_view vs))
values_typed [] each = tt
values_typed (v ∷ vs) each = (each.0, values_typed vs each.1)

key_values_typed : (ps : List KeyValue) → AllByRecursion (λ p. TypedKeyValue (key_value_view p)) ps → TypedKeyValues (key_values_of (map key_value_view ps))
key_values_typed [] each = tt
key_values_typed (p ∷ ps) each = (each.0, key_values_typed ps each.1)

key_value_out : (p : KeyValue) → key_value_view p ≡ key_value_of (string_bytes (out-KeyValue p).key) (option_map any_view (out-KeyValue p).value) (out-KeyValue p).unknown
key_value_out p = search (rules, the_lemmas)

pub array_typed : (a : ArrayValue) → AllByRecursion (λ v. TypedAny (any_view v)) (out-ArrayValue a).values.items → TypedArray (array_view a)
array_typed a each = subst TypedArray (sym (array_out a)) (values_typed (out-ArrayValue a).values.items each)

pub list_typed : (l : KeyValueList) → AllByRecursion (λ p. TypedKeyValue (key_value_view p)) (out-KeyValueList l).values.items → TypedList (list_view l)
list_typed l each = subst TypedList (sym (list_out l)) (key_values_typed (out-KeyValueList l).values.items each)

pub key_value_typed : (p : KeyValue) → IfSome (out-KeyValue p).value (λ v. TypedAny (any_view v)) → TypedKeyValue (key_value_view p)
key_value_typed p some = subst TypedKeyValue (sym (key_value_out p)) (parts (out-KeyValue p).value some)
  where
    parts : (o : Option AnyValue) → IfSome o (λ v. TypedAny (any_view v)) → TypedKeyValue (key_value_of (string_bytes (out-KeyValue p).key) (option_map any_view o) (out-KeyValue p).unknown)
    parts None some = IsUtf8-string_bytes (out-KeyValue p).key
    parts (Some v) some = (IsUtf8-string_bytes (out-KeyValue p).key, some)
