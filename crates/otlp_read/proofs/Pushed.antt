-- One more element at the end.
use Rattle.std.proofs.Common.{◌≡◌, ℕ, List, [], ◌∷◌, ◌++◌, map, refl, ap, sym, ◌∙◌, rules, Vec, Global}
use Rattle.otlp_trace.specs.Data.{ArrayValueData, array_value, AnyValues, a_value, KeyValueListData, key_value_list, KeyValues, a_key_value}
use Rattle.otlp_trace.specs.declared.value.AnyValue.{AnyValue}
use Rattle.otlp_trace.specs.declared.value.AnyValueKind.{the_lemmas}
use Rattle.otlp_trace.specs.declared.value.ArrayValue.{ArrayValue, roll-ArrayValue, out-ArrayValue}
use Rattle.otlp_trace.specs.declared.value.KeyValueList.{KeyValueList, roll-KeyValueList, out-KeyValueList}
use Rattle.otlp_trace.specs.declared.value.KeyValue.{KeyValue}
use Rattle.otlp_trace.specs.View.{any_view, array_view, list_view, key_value_view, values_of, key_values_of}
use Rattle.otlp_read.specs.AnyValue.{push_value, push_key_value, with_value, with_key_value}

pub pushed_value : (vs : List AnyValue) (v : AnyValue) → values_of (map any_view (vs ++ v ∷ [])) ≡ push_value (values_of (map any_view vs)) (any_view v)
pushed_value [] v = refl
pushed_value (w ∷ vs) v = ap (a_value (any_view w)) (pushed_value vs v)

pub pushed_key_value : (ps : List KeyValue) (p : KeyValue) → key_values_of (map key_value_view (ps ++ p ∷ [])) ≡ push_key_value (key_values_of (map key_value_view ps)) (key_value_view p)
pushed_key_value [] p = refl
pushed_key_value (q ∷ ps) p = ap (a_key_value (key_value_view q)) (pushed_key_value ps p)

array_roll : (v : Vec AnyValue Global) (u : List ℕ) → array_view (roll-ArrayValue (record { values = v; unknown = u })) ≡ array_value (values_of (map any_view v.items)) u
array_roll v u = search (rules, the_lemmas)

pub array_out : (a : ArrayValue) → array_view a ≡ array_value (values_of (map any_view (out-ArrayValue a).values.items)) (out-ArrayValue a).unknown
array_out a = search (rules, the_lemmas)

list_roll : (v : Vec KeyValue Global) (u : List ℕ) → list_view (roll-KeyValueList (record { values = v; unknown = u })) ≡ key_value_list (key_values_of (map key_value_view v.items)) u
list_roll v u = search (rules, the_lemmas)

pub list_out : (a : KeyValueList) → list_view a ≡ key_value_list (key_values_of (map key_value_view (out-KeyValueList a).values.items)) (out-KeyValueList a).unknown
list_out a = search (rules, the_lemmas)

-- an array with one more element
pub array_pushed : (a : ArrayValue) (v : Vec AnyValue Global) (x : AnyValue) → v.items ≡ (out-ArrayValue a).values.items ++ x ∷ []
    → array_view (roll-ArrayValue (record { values = v; unknown = (out-ArrayValue a).unknown })) ≡ with_value (array_view a) (any_view x)
array_pushed a v x e =
    let u = (out-ArrayValue a).unknown in
    array_roll v u ∙ ap (λ (l : List AnyValue). array_value (values_of (map any_view l)) u) e
    ∙ ap (λ (vs : AnyValues). array_value vs u) (pushed_value (out-ArrayValue a).values.items x)
    ∙ ap (λ (w : ArrayValueData). with_value w (any_view x)) (sym (array_out a))

-- a list with one more key
pub list_pushed : (a : KeyValueList) (v : Vec KeyValue Global) (x : KeyValue) → v.items ≡ (out-KeyValueList a).values.items ++ x ∷ []
    → list_view (roll-KeyValueList (record { values = v; unknown = (out-KeyValueList a).unknown })) ≡ with_key_value (list_view a) (key_value_view x)
list_pushed a v x e =
    let u = (out-KeyValueList a).unknown in
    list_roll v u ∙ ap (λ (l : List KeyValue). key_value_list (key_values_of (map key_value_view l)) u) e
    ∙ ap (λ (ps : KeyValues). key_value_list ps u) (pushed_key_value (out-KeyValueList a).values.items x)
    ∙ ap (λ (w : KeyValueListData). with_key_value w (key_value_view x)) (sym (list_out a))
