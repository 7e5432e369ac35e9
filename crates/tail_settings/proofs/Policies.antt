-- Policies are equal where they say the same, and copies say the same.
use Rattle.std.proofs.Common.{◌≡◌, Bool, true, List, [], ◌∷◌, map, refl, ap, String, Global, string_bytes, int_eq, ◌&&◌}
use Rattle.std.specs.Prelude.{◌↔◌}
use Rattle.std.specs.Cmp.Lexicographic.{pointwise}
use Rattle.std.specs.List.{AllZip}
use Rattle.std.specs.String.{string_eq}
use Rattle.std.proofs.lemmas.Bool.{and_parts, eq-eqb, eqb-true}
use Rattle.std.proofs.lemmas.Bool.Decides.{Decides-int_eq}
use Rattle.std.proofs.lemmas.Slice.Eq.{bytes_eq-Decides}
use Rattle.tail_settings.specs.contracts.policy.StatusCodePartialEq.TheImpl as status_equal
use Rattle.tail_settings.specs.contracts.policy.LeafPolicyPartialEq.TheImpl as leaf_equal
use Rattle.tail_settings.specs.contracts.policy.PolicySpecPartialEq.TheImpl as policy_equal
use Rattle.tail_settings.specs.contracts.policy.LeafPolicyClone.TheImpl as leaf_copy
use Rattle.tail_settings.specs.contracts.policy.PolicySpecClone.TheImpl as policy_copy
use Rattle.tail_settings.specs.declared.policy.StatusCode.{StatusCode}
use Rattle.tail_settings.specs.declared.policy.StatusCode.TheVariants as statuses
use Rattle.tail_settings.specs.declared.policy.LeafPolicy.{LeafPolicy}
use Rattle.tail_settings.specs.declared.policy.LeafPolicy.TheVariants as leaves
use Rattle.tail_settings.specs.declared.policy.PolicySpec.{PolicySpec}
use Rattle.tail_settings.specs.declared.policy.PolicySpec.TheVariants as policies
use Rattle.tail_settings.specs.Policy.{latency, status_code, leaf, and, status_view, leaf_view, policy_view}

module _ {A D : Type 0} (E : A → A → Bool) (view : A → D) (says : (a b : A) → (E a b ≡ true) ↔ (view a ≡ view b)) where
  pub lists_equal : (xs ys : List A) → (pointwise E xs ys ≡ true) ↔ (map view xs ≡ map view ys)
  lists_equal [] [] = (λ _. refl, λ _. refl)
  lists_equal [] (y ∷ ys) = (λ h. cc, λ h. cc)
  lists_equal (x ∷ xs) [] = (λ h. cc, λ h. cc)
  lists_equal (x ∷ xs) (y ∷ ys) = (
    λ h.
        let parts = and_parts (E x y) (pointwise E xs ys) h in
        let first = (says x y).0 parts.0 in
        let rest = (lists_equal xs ys).0 parts.1 in
        cc,
    λ h.
        let first : view x ≡ view y = cc in
        let rest : map view xs ≡ map view ys = cc in
        rw ((says x y).1 first, (lists_equal xs ys).1 rest),
  )

pub texts_equal : (s t : String Global) → (string_eq s t ≡ true) ↔ (string_bytes s ≡ string_bytes t)
texts_equal s t = bytes_eq-Decides (string_bytes s) (string_bytes t)

pub statuses_equal : (a b : StatusCode) → (status_equal.eq-value.it a b ≡ true) ↔ (status_view a ≡ status_view b)
statuses_equal statuses.Unset statuses.Unset = (λ _. refl, λ _. refl)
statuses_equal statuses.Ok statuses.Ok = (λ _. refl, λ _. refl)
statuses_equal statuses.Error statuses.Error = (λ _. refl, λ _. refl)
statuses_equal _ _ = (λ h. cc, λ h. cc)

pub leaves_equal : (a b : LeafPolicy) → (leaf_equal.eq-value.it a b ≡ true) ↔ (leaf_view a ≡ leaf_view b)
leaves_equal leaves.AlwaysSample leaves.AlwaysSample = (λ _. refl, λ _. refl)
leaves_equal (leaves.Latency m) (leaves.Latency n) = (λ h. let same = eqb-true m n h in cc, λ h. eq-eqb m n cc)
leaves_equal (leaves.StatusCode xs) (leaves.StatusCode ys) =
    let lists = lists_equal status_equal.eq-value.it status_view statuses_equal xs.items ys.items in
    (λ h. let same = lists.0 h in cc, λ h. lists.1 cc)
leaves_equal (leaves.StringAttribute k xs) (leaves.StringAttribute l ys) =
    let keys = texts_equal k l in
    let lists = lists_equal string_eq string_bytes texts_equal xs.items ys.items in (
      λ h.
          let parts = and_parts (string_eq k l) (pointwise string_eq xs.items ys.items) h in
          let key = keys.0 parts.0 in
          let values = lists.0 parts.1 in
          cc,
      λ h. rw (keys.1 cc, lists.1 cc),
    )
leaves_equal (leaves.NumericAttribute k m n) (leaves.NumericAttribute l u v) =
    let keys = texts_equal k l in
    let lows = Decides-int_eq m u in
    let highs = Decides-int_eq n v in (
      λ h.
          let parts = and_parts (string_eq k l) (int_eq m u && int_eq n v) h in
          let bounds = and_parts (int_eq m u) (int_eq n v) parts.1 in
          let key = keys.0 parts.0 in
          let low = lows.0 bounds.0 in
          let high = highs.0 bounds.1 in
          cc,
      λ h. rw (keys.1 cc, lows.1 cc, highs.1 cc),
    )
leaves_equal _ _ = (λ h. cc, λ h. cc)

pub policies_equal : (a b : PolicySpec) → (policy_equal.eq-value.it a b ≡ true) ↔ (policy_view a ≡ policy_view b)
policies_equal (policies.Leaf a) (policies.Leaf b) =
    let same = leaves_equal a b in
    (λ h. let views = same.0 h in cc, λ h. same.1 cc)
policies_equal (policies.And xs) (policies.And ys) =
    let lists = lists_equal leaf_equal.eq-value.it leaf_view leaves_equal xs.items ys.items in
    (λ h. let views = lists.0 h in cc, λ h. lists.1 cc)
policies_equal _ _ = (λ h. cc, λ h. cc)

module _ {A D : Type 0} (R : A → A → Type 0) (view : A → D) (same : (a b : A) → R a b → view b ≡ view a) where
  pub lists_copied : (xs ys : List A) → AllZip R xs ys → map view ys ≡ map view xs
  lists_copied [] [] h = refl
  lists_copied [] (y ∷ ys) h = absurd h
  lists_copied (x ∷ xs) [] h = absurd h
  lists_copied (x ∷ xs) (y ∷ ys) h = let first = same x y h.0 in let rest = lists_copied xs ys h.1 in cc

pub leaves_copied : (a b : LeafPolicy) → leaf_copy.ghosts.is_clone a b → leaf_view b ≡ leaf_view a
leaves_copied leaves.AlwaysSample leaves.AlwaysSample h = refl
leaves_copied (leaves.Latency m) (leaves.Latency n) h = ap latency h
leaves_copied (leaves.StatusCode xs) (leaves.StatusCode ys) h = ap status_code (lists_copied _ status_view (λ a b same. ap status_view same) xs.items ys.items h.0)
leaves_copied (leaves.StringAttribute k xs) (leaves.StringAttribute l ys) h =
    let key : string_bytes l ≡ string_bytes k = h.0 in
    let values = lists_copied _ string_bytes (λ a b same. same) xs.items ys.items h.1.0 in
    cc
leaves_copied (leaves.NumericAttribute k m n) (leaves.NumericAttribute l u v) h =
    let key : string_bytes l ≡ string_bytes k = h.0 in
    let low : u ≡ m = h.1.0 in
    let high : v ≡ n = h.1.1 in
    cc
leaves_copied _ _ h = absurd h

pub policies_copied : (a b : PolicySpec) → policy_copy.ghosts.is_clone a b → policy_view b ≡ policy_view a
policies_copied (policies.Leaf a) (policies.Leaf b) h = ap leaf (leaves_copied a b h)
policies_copied (policies.And xs) (policies.And ys) h = ap and (lists_copied leaf_copy.ghosts.is_clone leaf_view leaves_copied xs.items ys.items h.0)
policies_copied _ _ h = absurd h
