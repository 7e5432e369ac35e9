-- Orders of one list, and what holds of each member of a part of it.
use Rattle.std.proofs.Common.{◌≡◌, ◌+◌, List, ◌++◌, length, All, IsPermutation, sym, subst, append_assoc, arith, length-append}
use Rattle.std.proofs.lemmas.List.{get_or_append_left, get_or-append-add}
use Rattle.std.proofs.lemmas.List.Sorted.{IsPermutation-refl, IsPermutation-trans, IsPermutation-append_right, IsPermutation-append_comm}

module _ {E : Type 0} where
  pub same : {xs ys : List E} → xs ≡ ys → IsPermutation xs ys
  same {xs} is = subst (IsPermutation xs) is (IsPermutation-refl xs)

  pub joined : {xs ys zs : List E} → IsPermutation xs ys → IsPermutation ys zs → IsPermutation xs zs
  joined {xs} {ys} {zs} first second = IsPermutation-trans xs ys zs first second

  -- the last two of three parts change places
  pub last_two : (a b c : List E) → IsPermutation ((a ++ b) ++ c) ((a ++ c) ++ b)
  last_two a b c =
      joined (same (append_assoc a b c))
      (joined (IsPermutation-append_right a (b ++ c) (c ++ b) (IsPermutation-append_comm b c))
      (same (sym (append_assoc a c b))))

  pub all_front : (P : E → Type 0) (xs ys : List E) → All P (xs ++ ys) → All P xs
  all_front P xs ys all = λ k d lt. subst P (get_or_append_left xs ys d k lt) (all k d (omega (arith, lt, length-append xs ys)))

  pub all_back : (P : E → Type 0) (xs ys : List E) → All P (xs ++ ys) → All P ys
  all_back P xs ys all = λ k d lt. subst P (get_or-append-add xs ys k d) (all (length xs + k) d (omega (arith, lt, length-append xs ys)))
