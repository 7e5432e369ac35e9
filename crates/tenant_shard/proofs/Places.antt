-- Where a member stands among members by number.
use Rattle.std.proofs.Common.{◌≡◌, ℕ, zero, suc, ◌<◌, ◌≤◌, List, [], ◌∷◌, length, get_or, set, refl, sym, ap, ◌∙◌, arith, Result, Ok, Err, IfOk, IfErr, OnOk, OnErr}
use Rattle.std.specs.List.{insert, remove}
use Rattle.std.specs.List.Sorted.{IsSearchInRange, IsBinarySearchResult, IsNonDecreasingBy}
use Rattle.std.specs.Ordering.{nat_cmp, ordering_index}
use Rattle.std.proofs.lemmas.Cmp.{ranked}
use Rattle.std.proofs.lemmas.Bool.Decides.{nat_tests}
use Rattle.tenant_pipeline.specs.declared.pipeline.Pipeline.{Pipeline}
use Rattle.tenant_shard.specs.Members.{AllAbove, AreInOrder, IsPlaceOf, IsGapFor}

-- each of these members has a greater number
above_at : (n : ℕ) (ms : List Pipeline) (i : ℕ) (d : Pipeline) → AllAbove n ms → i < length ms → n < (get_or ms i d).tenant
above_at n [] i d above within = absurd (omega arith)
above_at n (x ∷ ms) zero d above within = above.0
above_at n (x ∷ ms) (suc i) d above within = above_at n ms i d above.1 (omega (arith, within))

-- numbers rise along the list
rising : (ms : List Pipeline) (i j : ℕ) (d : Pipeline) → AreInOrder ms → i < j → j < length ms → (get_or ms i d).tenant < (get_or ms j d).tenant
rising [] i j d order lt within = absurd (omega arith)
rising (x ∷ ms) i zero d order lt within = absurd (omega arith)
rising (x ∷ ms) zero (suc j) d order lt within = above_at x.tenant ms j d order.0 (omega (arith, within))
rising (x ∷ ms) (suc i) (suc j) d order lt within = rising ms i j d order.1 (omega (arith, lt)) (omega (arith, within))

lower : (n m : ℕ) (ms : List Pipeline) → AllAbove n ms → m ≤ n → AllAbove m ms
lower n m [] above le = tt
lower n m (x ∷ ms) above le = (omega (arith, above.0), lower n m ms above.1 le)

-- a member of this number is its place
IsPlaceOf-at : (t : ℕ) (ms : List Pipeline) (i : ℕ) → AreInOrder ms → i < length ms → ((d : Pipeline) → (get_or ms i d).tenant ≡ t) → IsPlaceOf t ms i
IsPlaceOf-at t [] i order within same = absurd (omega arith)
IsPlaceOf-at t (x ∷ ms) zero order within same = same x
IsPlaceOf-at t (x ∷ ms) (suc i) order within same =
    let within' : i < length ms = omega (arith, within) in
    let lt : x.tenant < (get_or ms i x).tenant = above_at x.tenant ms i x order.0 within' in
    (λ e. omega (arith, lt, same x, e), IsPlaceOf-at t ms i order.1 within' same)

IsGapFor-at : (t : ℕ) (ms : List Pipeline) (i : ℕ) → i ≤ length ms → ((j : ℕ) (d : Pipeline) → j < i → (get_or ms j d).tenant < t) → ((j : ℕ) (d : Pipeline) → i ≤ j → j < length ms → t < (get_or ms j d).tenant) → IsGapFor t ms i
IsGapFor-at t [] zero within smaller greater = tt
IsGapFor-at t [] (suc i) within smaller greater = absurd (omega arith)
IsGapFor-at t (x ∷ ms) zero within smaller greater = greater 0 x (omega arith) (omega arith)
IsGapFor-at t (x ∷ ms) (suc i) within smaller greater = (
  smaller 0 x (omega arith),
  IsGapFor-at t ms i (omega (arith, within)) (λ j d lt. smaller (suc j) d (omega (arith, lt))) (λ j d le lt. greater (suc j) d (omega (arith, le)) (omega (arith, lt))),
)

-- what a binary search by number finds
module _ (t : ℕ) (ms : List Pipeline) (order : AreInOrder ms) where
  comparisons_rise : IsNonDecreasingBy (λ (m : Pipeline). ordering_index (nat_cmp m.tenant t)) ms
  comparisons_rise = λ i j d le within.
      let rise : (get_or ms i d).tenant ≤ (get_or ms j d).tenant = grind (arith, rising ms i j d order, λ (same : i ≡ j). ap (λ k. (get_or ms k d).tenant) same) in
      grind (arith, nat_tests)

  pub searched : (r : Result ℕ ℕ) → IsSearchInRange r (length ms) → IsBinarySearchResult (λ (m : Pipeline). nat_cmp m.tenant t) ms r →
      record { found : IfOk r (λ i. (i < length ms) × IsPlaceOf t ms i); absent : IfErr r (λ i. (i ≤ length ms) × IsGapFor t ms i) }
  searched (Ok i) within equal = record { found = (within, IsPlaceOf-at t ms i order within (λ d. ranked _ t _ (sym (equal d)))); absent = tt }
  searched (Err i) within parted = record {
    found = tt;
    absent = (
      within,
      IsGapFor-at t ms i within (λ j d lt. ranked _ t _ (sym ((parted comparisons_rise).0 j d (omega arith) lt))) (λ j d le lt. ranked _ t _ (sym ((parted comparisons_rise).1 j d le lt))),
    );
  }

-- the member at a place has the number
pub tenant_at : (t : ℕ) (ms : List Pipeline) (i : ℕ) (d : Pipeline) → IsPlaceOf t ms i → (get_or ms i d).tenant ≡ t
tenant_at t [] i d p = absurd p
tenant_at t (x ∷ ms) zero d p = p
tenant_at t (x ∷ ms) (suc i) d p = tenant_at t ms i d p.1

AllAbove-set : (n t : ℕ) (ms : List Pipeline) (i : ℕ) (m : Pipeline) → IsPlaceOf t ms i → m.tenant ≡ t → AllAbove n ms → AllAbove n (set ms i m)
AllAbove-set n t [] i m p same above = absurd p
AllAbove-set n t (x ∷ ms) zero m p same above = (omega (arith, p, same, above.0), above.1)
AllAbove-set n t (x ∷ ms) (suc i) m p same above = (above.0, AllAbove-set n t ms i m p.1 same above.1)

pub AreInOrder-set : (t : ℕ) (ms : List Pipeline) (i : ℕ) (m : Pipeline) → IsPlaceOf t ms i → m.tenant ≡ t → AreInOrder ms → AreInOrder (set ms i m)
AreInOrder-set t [] i m p same order = absurd p
AreInOrder-set t (x ∷ ms) zero m p same order =
    let here : x.tenant ≡ m.tenant = p ∙ sym same in
    (rw here at order.0, order.1)
AreInOrder-set t (x ∷ ms) (suc i) m p same order = (AllAbove-set x.tenant t ms i m p.1 same order.0, AreInOrder-set t ms i m p.1 same order.1)

AllAbove-insert : (n : ℕ) (ms : List Pipeline) (i : ℕ) (m : Pipeline) → IsGapFor m.tenant ms i → n < m.tenant → AllAbove n ms → AllAbove n (insert ms i m)
AllAbove-insert n [] zero m gap lt above = (lt, tt)
AllAbove-insert n [] (suc i) m gap lt above = absurd gap
AllAbove-insert n (x ∷ ms) zero m gap lt above = (lt, above)
AllAbove-insert n (x ∷ ms) (suc i) m gap lt above = (above.0, AllAbove-insert n ms i m gap.1 lt above.1)

pub AreInOrder-insert : (ms : List Pipeline) (i : ℕ) (m : Pipeline) → IsGapFor m.tenant ms i → AreInOrder ms → AreInOrder (insert ms i m)
AreInOrder-insert [] zero m gap order = (tt, tt)
AreInOrder-insert [] (suc i) m gap order = absurd gap
AreInOrder-insert (x ∷ ms) zero m gap order = ((gap, lower x.tenant m.tenant ms order.0 (omega (arith, gap))), order)
AreInOrder-insert (x ∷ ms) (suc i) m gap order = (AllAbove-insert x.tenant ms i m gap.1 gap.0 order.0, AreInOrder-insert ms i m gap.1 order.1)

AllAbove-remove : (n t : ℕ) (ms : List Pipeline) (i : ℕ) → IsPlaceOf t ms i → AllAbove n ms → AllAbove n (remove ms i)
AllAbove-remove n t [] i p above = absurd p
AllAbove-remove n t (x ∷ ms) zero p above = above.1
AllAbove-remove n t (x ∷ ms) (suc i) p above = (above.0, AllAbove-remove n t ms i p.1 above.1)

pub AreInOrder-remove : (t : ℕ) (ms : List Pipeline) (i : ℕ) → IsPlaceOf t ms i → AreInOrder ms → AreInOrder (remove ms i)
AreInOrder-remove t [] i p order = absurd p
AreInOrder-remove t (x ∷ ms) zero p order = order.1
AreInOrder-remove t (x ∷ ms) (suc i) p order = (AllAbove-remove x.tenant t ms i p.1 order.0, AreInOrder-remove t ms i p.1 order.1)

-- a change of the member at a place keeps the place
pub IsPlaceOf-set : (t : ℕ) (ms : List Pipeline) (i : ℕ) (m : Pipeline) → IsPlaceOf t ms i → m.tenant ≡ t → IsPlaceOf t (set ms i m) i
IsPlaceOf-set t [] i m p same = absurd p
IsPlaceOf-set t (x ∷ ms) zero m p same = same
IsPlaceOf-set t (x ∷ ms) (suc i) m p same = (p.0, IsPlaceOf-set t ms i m p.1 same)

pub get_set : (ms : List Pipeline) (i : ℕ) (m d : Pipeline) → i < length ms → get_or (set ms i m) i d ≡ m
get_set [] i m d within = absurd (omega arith)
get_set (x ∷ ms) zero m d within = refl
get_set (x ∷ ms) (suc i) m d within = get_set ms i m d (omega (arith, within))

-- a fact that holds holds on an error
pub on_err : {T E P : Type 0} (r : Result T E) → P → OnErr r P
on_err (Ok x) fact = tt
on_err (Err e) fact = fact

-- what holds where a call succeeded, from what held there
pub on_ok : {T E P Q : Type 0} (r : Result T E) → (P → Q) → OnOk r P → OnOk r Q
on_ok (Ok x) f fact = f fact
on_ok (Err e) f fact = tt

pub on_error : {T E P Q : Type 0} (r : Result T E) → (P → Q) → OnErr r P → OnErr r Q
on_error (Ok x) f fact = tt
on_error (Err e) f fact = f fact

pub if_ok : {T E : Type 0} (r : Result T E) (P Q : T → Type 0) → ((x : T) → P x → Q x) → IfOk r P → IfOk r Q
if_ok (Ok x) P Q f fact = f x fact
if_ok (Err e) P Q f fact = tt
