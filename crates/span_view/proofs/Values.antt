-- Values are equal where they show the same.
use Rattle.std.proofs.Common.{◌≡◌, true, refl}
use Rattle.std.specs.Prelude.{◌↔◌}
use Rattle.std.specs.Cmp.{booleans_Decides}
use Rattle.std.proofs.lemmas.Bool.Decides.{Decides-int_eq}
use Rattle.std.proofs.lemmas.Slice.Eq.{bytes_eq-Decides}
use Rattle.span_view.specs.contracts.value.ValueRefPartialEq.TheImpl as value_equal
use Rattle.span_view.specs.declared.value.ValueRef.{ValueRef}
use Rattle.span_view.specs.declared.value.ValueRef.TheVariants as values
use Rattle.span_view.specs.Shown.{value_shown}

pub values_equal : (a b : ValueRef) → (value_equal.eq-value.it a b ≡ true) ↔ (value_shown a ≡ value_shown b)
values_equal values.Unset values.Unset = (λ _. refl, λ _. refl)
values_equal (values.String s) (values.String t) =
    let texts = bytes_eq-Decides s.now t.now in
    (λ h. let same = texts.0 h in cc, λ h. texts.1 cc)
values_equal (values.Bool b) (values.Bool c) =
    let truths = booleans_Decides b c in
    (λ h. let same = truths.0 h in cc, λ h. truths.1 cc)
values_equal (values.Int m) (values.Int n) =
    let numbers = Decides-int_eq m n in
    (λ h. let same = numbers.0 h in cc, λ h. numbers.1 cc)
values_equal (values.Double d) (values.Double e) =
    let bits = bytes_eq-Decides d.0 e.0 in
    (λ h. let same = bits.0 h in cc, λ h. bits.1 cc)
values_equal values.Array values.Array = (λ _. refl, λ _. refl)
values_equal values.KeyValueList values.KeyValueList = (λ _. refl, λ _. refl)
values_equal (values.Bytes s) (values.Bytes t) =
    let both = bytes_eq-Decides s.now t.now in
    (λ h. let same = both.0 h in cc, λ h. both.1 cc)
values_equal _ _ = (λ h. cc, λ h. cc)
