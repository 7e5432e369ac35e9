-- Tenants by number: where one stands among entries whose numbers rise, and what is left without it.
use Rattle.std.proofs.Common.{◌≡◌, ◌≢◌, ℕ, zero, suc, ◌+◌, ◌<◌, ◌≤◌, ◌==◌, Bool, true, false, cond, not, List, [], ◌∷◌, ◌++◌, map, filter, length, get_or, take, drop, Option, Some, None, Result, Ok, Err, position, refl, sym, ap, ◌∙◌, arith, eq-eqb, nat_lt, String, Global, inl, inr}
use Rattle.std.specs.Prelude.{option_map, slice_get, find, sum_by, All, AllPairs, MatchResult}
use Rattle.std.specs.List.{remove, position_or_len}
use Rattle.std.specs.List.Sorted.{IsSearchInRange, IsBinarySearchResult, IsNonDecreasingBy}
use Rattle.std.specs.Ordering.{nat_cmp, ordering_index}
use Rattle.std.proofs.lemmas.Bool.{lt-ltb, le-ltb, cases_lt}
use Rattle.std.proofs.lemmas.Bool.Decides.{nat_tests}
use Rattle.std.proofs.lemmas.Cmp.{ranked}
use Rattle.std.proofs.lemmas.List.{get_or-map, length-map, map-append, take-map, drop-map}
use Rattle.std.proofs.lemmas.List.Elements.{All-append, All-push, All-take, All-drop}
use Rattle.std.proofs.lemmas.List.Folds.{find_at}
use Rattle.std.proofs.lemmas.List.Sums.{position_or_len_is, sum_by-remove}
use Rattle.std.proofs.lemmas.List.Quantifiers.{all_pairs_push, all_pairs_remove, position-Some}
use Rattle.std.proofs.lemmas.Option.{slice_get-get_or, slice_get_past, slice_get_within}
use Rattle.std.specs.Borrow.{Bor}
use Rattle.tail_settings.specs.declared.tenant.Tenant.{Tenant}
use Rattle.tail_settings.specs.Settings.{TenantData, tenant_view}
use Rattle.tail_settings.specs.Valid.{AreByPlace}
use Rattle.tail_settings.proofs.Tenants.{Entry, Entries}

-- numbers rise along the entries
abbrev pub Rise : Entries → Type 0
Rise es = AllPairs (λ (one : Entry) (later : Entry). one.1.number < later.1.number) es

-- the first place at which a test passes
position_at : {X : Type 0} (p : X → Bool) (xs : List X) (i : ℕ) (d : X) → i < length xs → ((k : ℕ) → k < i → p (get_or xs k d) ≡ false) → p (get_or xs i d) ≡ true → position p xs ≡ Some i
position_at p xs i d within before here =
    let short : i ≤ length xs = omega (arith, within) in
    rw (position_or_len_is p xs i d short before (λ _. here), lt-ltb i (length xs) within) refl

-- and where it passes at none
position_none : {X : Type 0} (p : X → Bool) (xs : List X) (d : X) → ((k : ℕ) → k < length xs → p (get_or xs k d) ≡ false) → position p xs ≡ None
position_none p xs d all =
    let whole : length xs ≤ length xs = omega arith in
    rw (position_or_len_is p xs (length xs) d whole all (λ more. absurd (omega (arith, more))), le-ltb (length xs) (length xs) whole) refl

some_entry : {P : Type 0} (es : Entries) (i : ℕ) → i < length es → (Entry → P) → P
some_entry [] i within f = absurd (omega (arith, within))
some_entry (e ∷ es) i within f = f e

module _ (n : ℕ) where
  abbrev pub numbered : Entry → Bool
  numbered e = e.1.number == n

  none_numbered : (es : Entries) → ((k : ℕ) (d : Entry) → k < length es → (get_or es k d).1.number ≢ n) → position numbered es ≡ None
  none_numbered [] all = refl
  none_numbered (e ∷ es) all = position_none numbered (e ∷ es) e (λ k within. let other = all k e within in grind (arith, nat_tests))

  -- what a binary search finds
  module _ (es : Entries) (rise : Rise es) where
    comparisons_rise : IsNonDecreasingBy (λ (e : Entry). ordering_index (nat_cmp e.1.number n)) es
    comparisons_rise i j d le within =
        let ordered : (get_or es i d).1.number ≤ (get_or es j d).1.number = grind (arith, rise i j d, λ (same : i ≡ j). ap (λ k. (get_or es k d).1.number) same) in
        grind (arith, nat_tests)

    one_numbered : (i : ℕ) (d : Entry) → i < length es → (get_or es i d).1.number ≡ n → position numbered es ≡ Some i
    one_numbered i d within same =
        position_at numbered es i d within (λ k lt. let less = rise k i d lt within in grind (arith, nat_tests)) (eq-eqb (get_or es i d).1.number n same)

    pub searched : (r : Result ℕ ℕ) → IsSearchInRange r (length es) → IsBinarySearchResult (λ (e : Entry). nat_cmp e.1.number n) es r
        → MatchResult r (λ i. position numbered es ≡ Some i) (λ _. position numbered es ≡ None)
    searched (Ok i) within equal = some_entry es i within (λ d. one_numbered i d within (ranked _ n _ (sym (equal d))))
    searched (Err i) within parted =
        none_numbered es (λ k d short same.
        elim (cases_lt k i) [
          | inl lt ↦ let less : (get_or es k d).1.number < n = ranked _ n _ (sym ((parted comparisons_rise).0 k d (omega arith) lt)) in omega (arith, less, same)
          | inr le ↦ let more : n < (get_or es k d).1.number = ranked _ n _ (sym ((parted comparisons_rise).1 k d le short)) in omega (arith, more, same)
        ])

-- ---- the tenant at a place

found_map : {X Y : Type 0} (f : X → Y) (b : Bool) (x : X) (o : Option X) (p : Option Y) → p ≡ option_map f o → cond b (Some (f x)) p ≡ option_map f (cond b (Some x) o)
found_map f true x o p h = refl
found_map f false x o p h = h

find-map : {X Y : Type 0} (f : X → Y) (p : Y → Bool) (xs : List X) → find p (map f xs) ≡ option_map f (find (λ x. p (f x)) xs)
find-map f p [] = refl
find-map f p (x ∷ xs) = found_map f (p (f x)) x _ _ (find-map f p xs)

-- a borrowed entry, seen as a tenant
pub viewed : (o : Option (Bor (String Global) × Bor Tenant)) → option_map (λ (e : Bor (String Global) × Bor Tenant). tenant_view (e.0.now, e.1.now)) o ≡ option_map tenant_view (option_map (λ (e : Bor (String Global) × Bor Tenant). (e.0.now, e.1.now)) o)
viewed None = refl
viewed (Some e) = refl

is_place : (b : Bool) (k i : ℕ) → cond b (Some k) None ≡ Some i → k ≡ i
is_place true k i h = cc
is_place false k i h = absurd (let no : ⊥ = cc in no)

is_past : (k n : ℕ) → cond (nat_lt k n) (Some k) None ≡ None → n ≤ k
is_past k n h = by (nat_lt k n) refl h
  where
    by : (b : Bool) → nat_lt k n ≡ b → cond b (Some k) None ≡ None → n ≤ k
    by true t h = absurd (let no : ⊥ = cc in no)
    by false t h = grind (arith, nat_tests)

is_within : (k n i : ℕ) → cond (nat_lt k n) (Some k) None ≡ Some i → i < n
is_within k n i h = by (nat_lt k n) refl h
  where
    by : (b : Bool) → nat_lt k n ≡ b → cond b (Some k) None ≡ Some i → i < n
    by true t h = let same : k ≡ i = cc in grind (arith, nat_tests, same)
    by false t h = absurd (let no : ⊥ = cc in no)

pub not_past : (es : Entries) (i : ℕ) → i < length es → slice_get es i ≡ None → ⊥
not_past es i within none = some_entry es i within (λ d. let there = slice_get-get_or es i d within in let no : ⊥ = cc in no)

module _ (n : ℕ) (es : Entries) where
  -- a place is one of an entry
  pub place_within : (i : ℕ) → position (numbered n) es ≡ Some i → i < length es
  place_within i h = is_within (position_or_len (numbered n) es) (length es) i h

  abbrev found : Option TenantData
  found = find (λ (t : TenantData). t.number == n) (map tenant_view es)

  found_at : found ≡ option_map tenant_view (slice_get es (position_or_len (numbered n) es))
  found_at = find-map tenant_view (λ (t : TenantData). t.number == n) es ∙ ap (option_map tenant_view) (find_at (numbered n) es)

  pub tenant_at_place : (i : ℕ) → position (numbered n) es ≡ Some i → found ≡ option_map tenant_view (slice_get es i)
  tenant_at_place i h = found_at ∙ ap (λ k. option_map tenant_view (slice_get es k)) (is_place (nat_lt (position_or_len (numbered n) es) (length es)) (position_or_len (numbered n) es) i h)

  pub no_tenant : position (numbered n) es ≡ None → found ≡ None
  no_tenant h = found_at ∙ ap (option_map tenant_view) (slice_get_past es (position_or_len (numbered n) es) (is_past (position_or_len (numbered n) es) (length es) h))

-- ---- what is left

kept_by : {X : Type 0} (b : Bool) (x : X) (ys xs : List X) → b ≡ false → ys ≡ xs → cond (not b) (x ∷ ys) ys ≡ x ∷ xs
kept_by true x ys xs h same = absurd (let no : ⊥ = cc in no)
kept_by false x ys xs h same = ap (λ l. x ∷ l) same

left_by : {X : Type 0} (b : Bool) (x : X) (ys xs : List X) → b ≡ true → ys ≡ xs → cond (not b) (x ∷ ys) ys ≡ xs
left_by true x ys xs h same = same
left_by false x ys xs h same = absurd (let no : ⊥ = cc in no)

module _ {X : Type 0} (p : X → Bool) where
  all_kept : (xs : List X) → ((k : ℕ) (d : X) → k < length xs → p (get_or xs k d) ≡ false) → filter (λ x. not (p x)) xs ≡ xs
  all_kept [] all = refl
  all_kept (x ∷ xs) all = kept_by (p x) x _ xs (all 0 x (omega arith)) (all_kept xs (λ k d short. all (suc k) d (omega (arith, short))))

  one_left : (xs : List X) (i : ℕ) → i < length xs → ((k : ℕ) (d : X) → k < length xs → k ≢ i → p (get_or xs k d) ≡ false) → ((d : X) → p (get_or xs i d) ≡ true) → filter (λ x. not (p x)) xs ≡ remove xs i
  one_left [] i within others here = absurd (omega (arith, within))
  one_left (x ∷ xs) zero within others here = left_by (p x) x _ xs (here x) (all_kept xs (λ k d short. others (suc k) d (omega (arith, short)) (λ e. omega (arith, e))))
  one_left (x ∷ xs) (suc i) within others here =
      kept_by (p x) x _ (remove xs i) (others 0 x (omega arith) (λ e. omega (arith, e)))
      (one_left xs i (omega (arith, within)) (λ k d short apart. others (suc k) d (omega (arith, short)) (λ e. apart (omega (arith, e)))) here)

  -- a test that passes nowhere
  none_passes : (xs : List X) → find p xs ≡ None → filter (λ x. not (p x)) xs ≡ xs
  none_passes [] h = refl
  none_passes (x ∷ xs) h = by (p x) h (none_passes xs)
    where
      by : (b : Bool) → cond b (Some x) (find p xs) ≡ None → (find p xs ≡ None → filter (λ x. not (p x)) xs ≡ xs) → cond (not b) (x ∷ filter (λ x. not (p x)) xs) (filter (λ x. not (p x)) xs) ≡ x ∷ xs
      by true h rest = absurd (let no : ⊥ = cc in no)
      by false h rest = ap (λ l. x ∷ l) (rest h)

map-remove : {X Y : Type 0} (f : X → Y) (xs : List X) (i : ℕ) → map f (remove xs i) ≡ remove (map f xs) i
map-remove f xs i = rw (map-append f (take i xs) (drop (suc i) xs), take-map f i xs, drop-map f (suc i) xs) refl

module _ (n : ℕ) (es : Entries) where
  abbrev without : List TenantData
  without = filter (λ (t : TenantData). not (t.number == n)) (map tenant_view es)

  pub all_left : position (numbered n) es ≡ None → without ≡ map tenant_view es
  all_left h = none_passes (λ (t : TenantData). t.number == n) (map tenant_view es) (no_tenant n es h)

  -- where numbers rise, one place goes
  pub one_struck : (i : ℕ) (e : Entry) → Rise es → position (numbered n) es ≡ Some i → slice_get es i ≡ Some e → without ≡ map tenant_view (remove es i)
  one_struck i e rise h at =
      let within : i < length es = slice_get_within es i e at in
      let here : (get_or es i e).1.number ≡ n = let test = (position-Some (numbered n) es i e h).1 in grind (arith, nat_tests) in
      let viewed = λ (k : ℕ) (d : TenantData) (short : k < length es). get_or-map tenant_view es k e d short in
      one_left (λ (t : TenantData). t.number == n) (map tenant_view es) i (rw (length-map es tenant_view) within)
      (λ k d short apart.
      let short' : k < length es = rw (length-map es tenant_view) at short in
      let other : (get_or es k e).1.number ≢ n = elim (cases_lt k i) [
        | inl lt ↦ λ same. let less = rise k i e lt within in omega (arith, less, same, here)
        | inr le ↦ λ same. let more = rise i k e (omega (arith, le, apart)) short' in omega (arith, more, same, here)
      ] in
      rw (viewed k d short') (let test : ((get_or es k e).1.number == n) ≡ false = grind (arith, nat_tests) in test))
      (λ d. rw (viewed i d within) (eq-eqb (get_or es i e).1.number n here))
      ∙ sym (map-remove tenant_view es i)

-- what holds of entries holds without one
module _ (es : Entries) (i : ℕ) (within : i < length es) where
  pub Rise-remove : Rise es → Rise (remove es i)
  Rise-remove rise = all_pairs_remove (λ (one : Entry) (later : Entry). one.1.number < later.1.number) es i within rise

  pub sum_by-remove-le : (f : Entry → ℕ) → sum_by f (remove es i) ≤ sum_by f es
  sum_by-remove-le f = some_entry es i within (λ d. omega (arith, sum_by-remove f es i d within))

-- and with one more, whose number is the next
module _ (es : Entries) (e : Entry) (next : ℕ) (is : e.1.number ≡ next) (below : All (λ (d : Entry). d.1.number < next) es) where
  pub Rise-push : Rise es → Rise (es ++ e ∷ [])
  Rise-push rise = all_pairs_push (λ (one : Entry) (later : Entry). one.1.number < later.1.number) es e rise (λ k d short. let less = below k d short in omega (arith, less, is))

  pub below-push : All (λ (d : Entry). d.1.number < next + 1) (es ++ e ∷ [])
  below-push = All-push (λ (d : Entry). d.1.number < next + 1) es e (λ k d short. let less = below k d short in omega (arith, less)) (omega (arith, is))

pub All-remove : {X : Type 0} (P : X → Type 0) (xs : List X) (i : ℕ) → All P xs → All P (remove xs i)
All-remove P xs i all = All-append P (take i xs) (drop (suc i) xs) (All-take P i xs all) (All-drop P (suc i) xs all)

-- ---- entries by place

module _ (es : Entries) (placed : AreByPlace (map tenant_view es)) where
  number_at : (k : ℕ) (d : Entry) → k < length es → (get_or es k d).1.number ≡ k
  number_at k d short =
      let short' : k < length (map tenant_view es) = rw (length-map es tenant_view) short in
      ap (λ (t : TenantData). t.number) (sym (get_or-map tenant_view es k d (tenant_view d) short)) ∙ placed k (tenant_view d) short'

  pub rise_by_place : Rise es
  rise_by_place i j d lt within =
      let one = number_at i d (omega (arith, lt, within)) in
      let later = number_at j d within in
      omega (arith, one, later, lt)

  pub below_by_place : (next : ℕ) → length es ≤ next → All (λ (e : Entry). e.1.number < next) es
  below_by_place next long k d short = let here = number_at k d short in omega (arith, here, short, long)
