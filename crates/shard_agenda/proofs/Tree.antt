-- The tree of first entries: what its top tells, and what a change leaves of it.
use Rattle.std.proofs.Common.{◌≡◌, ◌≢◌, ℕ, zero, suc, ◌+◌, ◌-◌, ◌*◌, ◌/◌, ◌%◌, ◌<◌, ◌≤◌, List, [], ◌∷◌, ◌++◌, length, set, refl, sym, ap, ◌∙◌, arith, Bool, true, false, Option, Some, None, eqb, inl, inr, ◌⊎◌, subst}
use Rattle.std.proofs.lemmas.Bool.Decides.{nat_tests}
use Rattle.std.specs.Option.{option_to_list}
use Rattle.std.proofs.lemmas.List.{length_push}
use Rattle.std.proofs.lemmas.Bool.{cases_lt}
use Rattle.std.proofs.lemmas.Option.{slice_get_past, slice_get_within}
use Rattle.std.specs.Prelude.{slice_get, IsSome}
use Rattle.shard_agenda.specs.declared.AgendaEntry.{AgendaEntry}
use Rattle.shard_agenda.specs.Firsts.{is_before, precedes, first_of, first_below, IsRight, IsRightBut}

-- the order
irreflexive : (p : Option ℕ) (a : ℕ) → is_before p a p a ≡ false
irreflexive None a = grind (arith, nat_tests)
irreflexive (Some x) a = grind (arith, nat_tests)

asymmetric : (p : Option ℕ) (a : ℕ) (q : Option ℕ) (b : ℕ) → is_before p a q b ≡ true → is_before q b p a ≡ false
asymmetric None a None b h = grind (arith, nat_tests, h)
asymmetric None a (Some y) b h = grind (arith, nat_tests, h)
asymmetric (Some x) a None b h = refl
asymmetric (Some x) a (Some y) b h = grind (arith, nat_tests, h)

not_before : (p : Option ℕ) (a : ℕ) (q : Option ℕ) (b : ℕ) (r : Option ℕ) (c : ℕ) → is_before p a q b ≡ false → is_before q b r c ≡ false → is_before p a r c ≡ false
not_before None a None b None c h k = grind (arith, nat_tests, h, k)
not_before None a None b (Some z) c h k = refl
not_before None a (Some y) b None c h k = absurd (cc)
not_before None a (Some y) b (Some z) c h k = refl
not_before (Some x) a None b r c h k = absurd (cc)
not_before (Some x) a (Some y) b None c h k = absurd (cc)
not_before (Some x) a (Some y) b (Some z) c h k = grind (arith, nat_tests, h, k)

-- the first of two isn't after either, and is one of them
abbrev After : AgendaEntry → Option AgendaEntry → Type 0
After x o = (r : AgendaEntry) × (o ≡ Some r) × (precedes x r ≡ false)

after_left : (x : AgendaEntry) (o : Option AgendaEntry) → After x (first_of (Some x) o)
after_left x None = (x, refl, irreflexive x.ready x.tenant)
after_left x (Some y) = by_test (precedes y x) refl
  where
    by_test : (b : Bool) → precedes y x ≡ b → After x (first_of (Some x) (Some y))
    by_test true t = (y, rw t refl, asymmetric y.ready y.tenant x.ready x.tenant t)
    by_test false t = (x, rw t refl, irreflexive x.ready x.tenant)

after_right : (o : Option AgendaEntry) (y : AgendaEntry) → After y (first_of o (Some y))
after_right None y = (y, refl, irreflexive y.ready y.tenant)
after_right (Some x) y = by_test (precedes y x) refl
  where
    by_test : (b : Bool) → precedes y x ≡ b → After y (first_of (Some x) (Some y))
    by_test true t = (y, rw t refl, irreflexive y.ready y.tenant)
    by_test false t = (x, rw t refl, t)

after_both : (x : AgendaEntry) (a b : Option AgendaEntry) → After x a → After x (first_of a b)
after_both x a b there =
    let here : After there.0 (first_of (Some there.0) b) = after_left there.0 b in
    let r = here.0 in
    (r, ap (λ (o : Option AgendaEntry). first_of o b) there.1 ∙ here.1, not_before x.ready x.tenant there.0.ready there.0.tenant r.ready r.tenant there.2 here.2)

one_of : (a b : Option AgendaEntry) (x : AgendaEntry) → first_of a b ≡ Some x → (a ≡ Some x) ⊎ (b ≡ Some x)
one_of None b x e = inr e
one_of (Some a) None x e = inl e
one_of (Some a) (Some b) x e = by_test (precedes b a) refl
  where
    by_test : (t : Bool) → precedes b a ≡ t → (Some a ≡ Some x) ⊎ (Some b ≡ Some x)
    by_test true t = inr (rw t at e)
    by_test false t = inl (rw t at e)

-- what a place tells, its own entry and those below it
module _ (es fs : List AgendaEntry) where
  after_own : (k : ℕ) (x : AgendaEntry) → slice_get es k ≡ Some x → After x (first_below es fs k)
  after_own k x at =
      let left = slice_get fs (2 * k + 1) in
      after_both x (first_of (slice_get es k) left) (slice_get fs (2 * k + 2)) (subst (λ (o : Option AgendaEntry). After x (first_of o left)) (sym at) (after_left x left))

  after_first : (k : ℕ) (x : AgendaEntry) → slice_get fs (2 * k + 1) ≡ Some x → After x (first_below es fs k)
  after_first k x at =
      let own = slice_get es k in
      after_both x (first_of own (slice_get fs (2 * k + 1))) (slice_get fs (2 * k + 2)) (subst (λ (o : Option AgendaEntry). After x (first_of own o)) (sym at) (after_right own x))

  after_second : (k : ℕ) (x : AgendaEntry) → slice_get fs (2 * k + 2) ≡ Some x → After x (first_below es fs k)
  after_second k x at =
      let own = first_of (slice_get es k) (slice_get fs (2 * k + 1)) in
      subst (λ (o : Option AgendaEntry). After x (first_of own o)) (sym at) (after_right own x)

-- each place but the top has one above it
above : (k : ℕ) → (p : ℕ) × (p ≤ k) × ((suc k ≡ 2 * p + 1) ⊎ (suc k ≡ 2 * p + 2))
above k = by_rest (k % 2) refl
  where
    by_rest : (r : ℕ) → k % 2 ≡ r → (p : ℕ) × (p ≤ k) × ((suc k ≡ 2 * p + 1) ⊎ (suc k ≡ 2 * p + 2))
    by_rest zero e = (k / 2, omega arith, inl (omega arith))
    by_rest (suc r) e = (k / 2, omega arith, inr (omega arith))

module _ (es fs : List AgendaEntry) (right : IsRight es fs) where
  up : (x : AgendaEntry) (p : ℕ) → After x (first_below es fs p) → After x (slice_get fs p)
  up x p there = (there.0, right p ∙ there.1, there.2)

  -- the top isn't after what any place tells
  to_top : (fuel k : ℕ) → k ≤ fuel → (x : AgendaEntry) → slice_get fs k ≡ Some x → After x (slice_get fs 0)
  to_top fuel zero le x at = (x, at, irreflexive x.ready x.tenant)
  to_top zero (suc k) le x at = absurd (omega arith)
  to_top (suc fuel) (suc k) le x at = through (above k) (λ p less y there. to_top fuel p (omega (arith, le, less)) y there)
    where
      higher : (p : ℕ) → p ≤ k → After x (slice_get fs p) → ((p : ℕ) → p ≤ k → (y : AgendaEntry) → slice_get fs p ≡ Some y → After y (slice_get fs 0)) → After x (slice_get fs 0)
      higher p less there rec =
          let y = there.0 in
          let top : After y (slice_get fs 0) = rec p less y there.1 in
          let r = top.0 in
          (r, top.1, not_before x.ready x.tenant y.ready y.tenant r.ready r.tenant there.2 top.2)

      through : ((p : ℕ) × (p ≤ k) × ((suc k ≡ 2 * p + 1) ⊎ (suc k ≡ 2 * p + 2))) → ((p : ℕ) → p ≤ k → (y : AgendaEntry) → slice_get fs p ≡ Some y → After y (slice_get fs 0)) → After x (slice_get fs 0)
      through (p, less, inl e) rec = higher p less (up x p (after_first es fs p x (sym (ap (slice_get fs) e) ∙ at))) rec
      through (p, less, inr e) rec = higher p less (up x p (after_second es fs p x (sym (ap (slice_get fs) e) ∙ at))) rec

  -- what a place tells is an entry
  from_own : (fuel k : ℕ) → length fs ≤ k + fuel → (x : AgendaEntry) → slice_get fs k ≡ Some x → (j : ℕ) × (slice_get es j ≡ Some x)
  from_own zero k le x at = absurd (omega (arith, slice_get_within fs k x at))
  from_own (suc fuel) k le x at =
      by_second (one_of (first_of (slice_get es k) (slice_get fs (2 * k + 1))) (slice_get fs (2 * k + 2)) x (sym (right k) ∙ at)) (from_own fuel (2 * k + 1) (omega (arith, le)) x) (from_own fuel (2 * k + 2) (omega (arith, le)) x)
    where
      by_first : ((slice_get es k ≡ Some x) ⊎ (slice_get fs (2 * k + 1) ≡ Some x)) → (slice_get fs (2 * k + 1) ≡ Some x → (j : ℕ) × (slice_get es j ≡ Some x)) → (j : ℕ) × (slice_get es j ≡ Some x)
      by_first (inl own) rec = (k, own)
      by_first (inr first) rec = rec first

      by_second : ((first_of (slice_get es k) (slice_get fs (2 * k + 1)) ≡ Some x) ⊎ (slice_get fs (2 * k + 2) ≡ Some x)) → (slice_get fs (2 * k + 1) ≡ Some x → (j : ℕ) × (slice_get es j ≡ Some x)) → (slice_get fs (2 * k + 2) ≡ Some x → (j : ℕ) × (slice_get es j ≡ Some x)) → (j : ℕ) × (slice_get es j ≡ Some x)
      by_second (inl other) rec rec' = by_first (one_of (slice_get es k) (slice_get fs (2 * k + 1)) x other) rec
      by_second (inr second) rec rec' = rec' second

pub first_is_least : (es fs : List AgendaEntry) → IsRight es fs → (r : AgendaEntry) → slice_get fs 0 ≡ Some r → (j : ℕ) (x : AgendaEntry) → slice_get es j ≡ Some x → precedes x r ≡ false
first_is_least es fs right r first j x at =
    let here : After x (slice_get fs j) = up es fs right x j (after_own es fs j x at) in
    let y = here.0 in
    let top : After y (slice_get fs 0) = to_top es fs right j j (omega arith) y here.1 in
    let same : Some top.0 ≡ Some r = sym top.1 ∙ first in
    let same' : top.0 ≡ r = cc in
    subst (λ (z : AgendaEntry). precedes x z ≡ false) same' (not_before x.ready x.tenant y.ready y.tenant top.0.ready top.0.tenant here.2 top.2)

pub first_is_there : (es fs : List AgendaEntry) → IsRight es fs → (r : AgendaEntry) → slice_get fs 0 ≡ Some r → (j : ℕ) × (slice_get es j ≡ Some r)
first_is_there es fs right r first = from_own es fs right (length fs) 0 (omega arith) r first

-- lists with another element at a place, or one more
pub slice_get-same : (xs : List AgendaEntry) (i : ℕ) (e : AgendaEntry) → i < length xs → slice_get (set xs i e) i ≡ Some e
slice_get-same [] i e lt = absurd (omega arith)
slice_get-same (x ∷ xs) zero e lt = refl
slice_get-same (x ∷ xs) (suc i) e lt = slice_get-same xs i e (omega (arith, lt))

pub slice_get-other : (xs : List AgendaEntry) (i k : ℕ) (e : AgendaEntry) → k ≢ i → slice_get (set xs i e) k ≡ slice_get xs k
slice_get-other [] i k e ne = refl
slice_get-other (x ∷ xs) zero zero e ne = absurd (ne refl)
slice_get-other (x ∷ xs) zero (suc k) e ne = refl
slice_get-other (x ∷ xs) (suc i) zero e ne = refl
slice_get-other (x ∷ xs) (suc i) (suc k) e ne = slice_get-other xs i k e (λ same. ne (ap (λ (n : ℕ). suc n) same))

slice_get-behind : (xs : List AgendaEntry) (k : ℕ) (e : AgendaEntry) → k ≢ length xs → slice_get (xs ++ e ∷ []) k ≡ slice_get xs k
slice_get-behind [] zero e ne = absurd (ne refl)
slice_get-behind [] (suc k) e ne = refl
slice_get-behind (x ∷ xs) zero e ne = refl
slice_get-behind (x ∷ xs) (suc k) e ne = slice_get-behind xs k e (λ same. ne (grind (arith, same)))

-- a place is set right
module _ (es fs : List AgendaEntry) (at : ℕ) (e : AgendaEntry) (within : at < length fs) (right : IsRightBut at es fs) (is : Some e ≡ first_below es fs at) where
  below_stays : (k : ℕ) → 2 * k + 1 ≢ at → 2 * k + 2 ≢ at → first_below es (set fs at e) k ≡ first_below es fs k
  below_stays k ne ne' = rw (slice_get-other fs at (2 * k + 1) e ne, slice_get-other fs at (2 * k + 2) e ne') refl

  written : (k : ℕ) → 2 * k + 1 ≢ at → 2 * k + 2 ≢ at → slice_get (set fs at e) k ≡ first_below es (set fs at e) k
  written k ne ne' = by_test (eqb k at) refl
    where
      by_test : (b : Bool) → eqb k at ≡ b → slice_get (set fs at e) k ≡ first_below es (set fs at e) k
      by_test true t =
          let same : k ≡ at = grind (arith, nat_tests, t) in
          ap (slice_get (set fs at e)) same ∙ (slice_get-same fs at e within ∙ (is ∙ (ap (first_below es fs) (sym same) ∙ sym (below_stays k ne ne'))))
      by_test false t =
          let other : k ≢ at = grind (arith, nat_tests, t) in
          slice_get-other fs at k e other ∙ (right k other ne ne' ∙ sym (below_stays k ne ne'))

  pub right_at_top : at ≡ 0 → IsRight es (set fs at e)
  right_at_top top = λ k. written k (omega (arith, top)) (omega (arith, top))

  pub right_above : 0 < at → IsRightBut ((at - 1) / 2) es (set fs at e)
  right_above pos = λ k ne _ _. written k (λ (same : 2 * k + 1 ≡ at). ne (omega (arith, same))) (λ (same : 2 * k + 2 ≡ at). ne (omega (arith, same, pos)))

pub right_set : (es fs : List AgendaEntry) (at : ℕ) (e : AgendaEntry) → IsRight es fs → IsRightBut at (set es at e) fs
right_set es fs at e right = λ k ne _ _. right k ∙ rw (slice_get-other es at k e ne) refl

pub right_behind : (es fs : List AgendaEntry) (e : AgendaEntry) → length fs ≡ length es → IsRight es fs → IsRightBut (length es) (es ++ e ∷ []) (fs ++ e ∷ [])
right_behind es fs e even right = λ k ne ne' ne''.
    let same = slice_get-behind fs k e (omega (arith, even, ne)) in
    let left = slice_get-behind fs (2 * k + 1) e (omega (arith, even, ne')) in
    let second = slice_get-behind fs (2 * k + 2) e (omega (arith, even, ne'')) in
    let own = slice_get-behind es k e ne in
    rw (same, own, left, second) (right k)

-- without the last entry, its place is wrong in the one above it alone
pub right_without : (es fs : List AgendaEntry) (e f : AgendaEntry) → length fs ≡ length es → IsRight (es ++ e ∷ []) (fs ++ f ∷ []) → IsRightBut ((length es - 1) / 2) es fs
right_without es fs e f even right k ne _ _ = elim (cases_lt k (length es)) [
  | inl lt ↦
      let same = slice_get-behind fs k f (λ last. omega (arith, even, lt, last)) in
      let own = slice_get-behind es k e (λ last. omega (arith, lt, last)) in
      let left = slice_get-behind fs (2 * k + 1) f (λ last. ne (omega (arith, even, last))) in
      let second = slice_get-behind fs (2 * k + 2) f (λ last. ne (omega (arith, even, last))) in
      sym same ∙ right k ∙ rw (own, left, second) refl
  | inr le ↦
      let none = slice_get_past fs k (omega (arith, even, le)) in
      let own = slice_get_past es k le in
      let left = slice_get_past fs (2 * k + 1) (omega (arith, even, le)) in
      let second = slice_get_past fs (2 * k + 2) (omega (arith, even, le)) in
      rw (none, own, left, second) refl
]

-- what two lists are that lost their last, if the second had one
pub popped : (es xs fs ys : List AgendaEntry) (e : AgendaEntry) (o : Option AgendaEntry) → es ≡ xs ++ e ∷ [] → fs ≡ ys ++ option_to_list o → IsSome o → length fs ≡ length es → IsRight es fs
    → (length ys ≡ length xs) × IsRightBut ((length xs - 1) / 2) xs ys
popped es xs fs ys e None entries firsts some even right = absurd (let no : ⊥ = cc in no)
popped es xs fs ys e (Some f) entries firsts some even right =
    let long : length ys ≡ length xs = omega (arith, ap length entries, ap length firsts, length_push xs e, length_push ys f, even) in
    let whole : IsRight (xs ++ e ∷ []) (ys ++ f ∷ []) = subst (λ (l : List AgendaEntry). IsRight l (ys ++ f ∷ [])) entries (subst (λ (l : List AgendaEntry). IsRight es l) firsts right) in
    (long, right_without xs ys e f long whole)

pub right_empty : (xs ys : List AgendaEntry) → length xs ≡ 0 → length ys ≡ 0 → IsRight xs ys
right_empty [] [] none none' k = refl
right_empty [] (y ∷ ys) none none' k = absurd (omega (arith, none'))
right_empty (x ∷ xs) ys none none' k = absurd (omega (arith, none))
