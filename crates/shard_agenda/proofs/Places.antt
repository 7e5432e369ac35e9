-- What one more entry, or another moment in one, does to members, moments and places.
use Rattle.std.proofs.Common.{◌≡◌, ℕ, zero, suc, List, [], ◌∷◌, ◌++◌, length, set, refl, sym, ap, ◌∙◌, arith, Bool, true, false, Option, Some, None, eqb, subst, ◌||◌, is_some, if◌then◌else◌, cond}
use Rattle.std.proofs.lemmas.Bool.Decides.{nat_tests}
use Rattle.std.specs.Prelude.{slice_get, option_map}
use Rattle.std.specs.Ordering.{nat_cmp, is_eq}
use Rattle.std.specs.Cmp.{unsigned_ties}
use Rattle.std.specs.BTreeMap.{BTreeMap}
use Rattle.std.specs.BTreeMap as tree
use Rattle.shard_agenda.specs.declared.AgendaEntry.{AgendaEntry}
use Rattle.shard_agenda.specs.Agenda.{ready_of, is_member, AreApart, place, with_ready}

abbrev further : Option ℕ → Option ℕ
further o = option_map (λ at. suc at) o

further_is : (o : Option ℕ) (i : ℕ) → further o ≡ Some i → (j : ℕ) × (o ≡ Some j) × (i ≡ suc j)
further_is None i e = absurd (cc)
further_is (Some j) i e = (j, refl, cc)

-- members are those that have a place
pub is_member-place : (t : ℕ) (es : List AgendaEntry) → is_member es t ≡ is_some (place t es)
is_member-place t [] = refl
is_member-place t (x ∷ xs) = by_test (eqb x.tenant t) refl (is_member-place t xs)
  where
    some : (o : Option ℕ) → is_some (further o) ≡ is_some o
    some None = refl
    some (Some j) = refl

    by_test : (b : Bool) → eqb x.tenant t ≡ b → is_member xs t ≡ is_some (place t xs) → is_member (x ∷ xs) t ≡ is_some (place t (x ∷ xs))
    by_test true e rec = rw e refl
    by_test false e rec = rw e (rec ∙ sym (some (place t xs)))

pub place_at : (t : ℕ) (es : List AgendaEntry) (i : ℕ) → place t es ≡ Some i → (x : AgendaEntry) × (slice_get es i ≡ Some x) × (x.tenant ≡ t)
place_at t [] i e = absurd (cc)
place_at t (x ∷ xs) i e = by_test (eqb x.tenant t) refl (place_at t xs)
  where
    by_test : (b : Bool) → eqb x.tenant t ≡ b → ((j : ℕ) → place t xs ≡ Some j → (y : AgendaEntry) × (slice_get xs j ≡ Some y) × (y.tenant ≡ t)) → (y : AgendaEntry) × (slice_get (x ∷ xs) i ≡ Some y) × (y.tenant ≡ t)
    by_test true s rec =
        let top : Some 0 ≡ Some i = rw s at e in
        let zero_is : 0 ≡ i = cc in
        (x, subst (λ (k : ℕ). slice_get (x ∷ xs) k ≡ Some x) zero_is refl, grind (arith, nat_tests, s))
    by_test false s rec =
        let next : further (place t xs) ≡ Some i = rw s at e in
        let found = further_is (place t xs) i next in
        let there = rec found.0 found.1 in
        (there.0, ap (slice_get (x ∷ xs)) found.2 ∙ there.1, there.2)

pub member_again : (t : ℕ) (es : List AgendaEntry) → is_member es t ≡ true → (u : ℕ) → is_member es u ≡ (eqb t u || is_member es u)
member_again t es m u = by_test (eqb t u) refl
  where
    by_test : (b : Bool) → eqb t u ≡ b → is_member es u ≡ (eqb t u || is_member es u)
    by_test true e = let same : t ≡ u = grind (arith, nat_tests, e) in rw e (ap (is_member es) (sym same) ∙ m)
    by_test false e = rw e refl

-- one more entry, of a tenant that is no member
module _ (e : AgendaEntry) where
  pub is_member-behind : (es : List AgendaEntry) (u : ℕ) → is_member (es ++ e ∷ []) u ≡ (eqb e.tenant u || is_member es u)
  is_member-behind [] u = refl
  is_member-behind (x ∷ xs) u = grind (arith, nat_tests, is_member-behind xs u)

  pub AreApart-behind : (es : List AgendaEntry) → is_member es e.tenant ≡ false → AreApart es → AreApart (es ++ e ∷ [])
  AreApart-behind [] none apart = (refl, tt)
  AreApart-behind (x ∷ xs) none apart =
      let other : eqb e.tenant x.tenant ≡ false = grind (arith, nat_tests, none) in
      let none' : is_member xs e.tenant ≡ false = grind (arith, nat_tests, none) in
      (is_member-behind xs x.tenant ∙ grind (arith, nat_tests, other, apart.0), AreApart-behind xs none' apart.1)

  pub place-behind : (es : List AgendaEntry) (t : ℕ) → is_member es e.tenant ≡ false → place t (es ++ e ∷ []) ≡ (if eqb e.tenant t then Some (length es) else place t es)
  place-behind [] t none = refl
  place-behind (x ∷ xs) t none = by_test (eqb x.tenant t) refl (eqb e.tenant t) refl (place-behind xs t none')
    where
      none' : is_member xs e.tenant ≡ false
      none' = grind (arith, nat_tests, none)

      by_test : (b : Bool) → eqb x.tenant t ≡ b → (d : Bool) → eqb e.tenant t ≡ d → place t (xs ++ e ∷ []) ≡ (if eqb e.tenant t then Some (length xs) else place t xs) → place t ((x ∷ xs) ++ e ∷ []) ≡ (if eqb e.tenant t then Some (length (x ∷ xs)) else place t (x ∷ xs))
      by_test true s true s' rec = let same : eqb x.tenant e.tenant ≡ true = grind (arith, nat_tests, s, s') in absurd (grind (arith, nat_tests, same, none))
      by_test true s false s' rec = rw (s, s') refl
      by_test false s true s' rec =
          let rec' : place t (xs ++ e ∷ []) ≡ Some (length xs) = rw s' at rec in
          rw (s, s') (ap further rec' ∙ grind arith)
      by_test false s false s' rec =
          let rec' : place t (xs ++ e ∷ []) ≡ place t xs = rw s' at rec in
          rw (s, s') (ap further rec')

pub placed-behind : (old new : BTreeMap ℕ ℕ) (es : List AgendaEntry) (e : AgendaEntry) (at : ℕ) → at ≡ length es → is_member es e.tenant ≡ false → ((t : ℕ) → tree.get nat_cmp old t ≡ place t es) → tree.Updates nat_cmp old new e.tenant (Some at) →
    (t : ℕ) → tree.get nat_cmp new t ≡ place t (es ++ e ∷ [])
placed-behind old new es e at behind none placed updates t =
    let first : tree.get nat_cmp new t ≡ cond (is_eq (nat_cmp e.tenant t)) (Some at) (tree.get nat_cmp old t) = updates.0 t in
    let test : is_eq (nat_cmp e.tenant t) ≡ eqb e.tenant t = sym (unsigned_ties e.tenant t) in
    first ∙ (ap (λ (b : Bool). cond b (Some at) (tree.get nat_cmp old t)) test ∙ (ap (λ (o : Option ℕ). cond (eqb e.tenant t) (Some at) o) (placed t) ∙ (ap (λ (n : ℕ). cond (eqb e.tenant t) (Some n) (place t es)) behind ∙ sym (place-behind e es t none))))

pub ready_of-behind : (t : ℕ) (es : List AgendaEntry) (u : ℕ) → ready_of (es ++ record { ready = None; tenant = t } ∷ []) u ≡ ready_of es u
ready_of-behind t [] u = by_test (eqb t u)
  where
    by_test : (b : Bool) → ◌≡◌ {A = Option ℕ} (if b then None else None) None
    by_test true = refl
    by_test false = refl
ready_of-behind t (x ∷ xs) u = grind (arith, nat_tests, ready_of-behind t xs u)

-- another moment in an entry
pub is_member-set : (es : List AgendaEntry) (i : ℕ) (e x : AgendaEntry) → slice_get es i ≡ Some x → x.tenant ≡ e.tenant → (u : ℕ) → is_member (set es i e) u ≡ is_member es u
is_member-set [] i e x at same u = refl
is_member-set (y ∷ ys) zero e x at same u = let is : y ≡ x = cc in let same' : y.tenant ≡ e.tenant = ap (λ (z : AgendaEntry). z.tenant) is ∙ same in grind (arith, nat_tests, same')
is_member-set (y ∷ ys) (suc i) e x at same u = grind (arith, nat_tests, is_member-set ys i e x at same u)

pub AreApart-set : (es : List AgendaEntry) (i : ℕ) (e x : AgendaEntry) → slice_get es i ≡ Some x → x.tenant ≡ e.tenant → AreApart es → AreApart (set es i e)
AreApart-set [] i e x at same apart = tt
AreApart-set (y ∷ ys) zero e x at same apart = let is : y ≡ x = cc in (ap (is_member ys) (sym (ap (λ (z : AgendaEntry). z.tenant) is ∙ same)) ∙ apart.0, apart.1)
AreApart-set (y ∷ ys) (suc i) e x at same apart = (is_member-set ys i e x at same y.tenant ∙ apart.0, AreApart-set ys i e x at same apart.1)

pub place-set : (es : List AgendaEntry) (i : ℕ) (e x : AgendaEntry) → slice_get es i ≡ Some x → x.tenant ≡ e.tenant → (t : ℕ) → place t (set es i e) ≡ place t es
place-set [] i e x at same t = refl
place-set (y ∷ ys) zero e x at same t = let is : y ≡ x = cc in ap (λ (n : ℕ). if eqb n t then Some 0 else further (place t ys)) (sym (ap (λ (z : AgendaEntry). z.tenant) is ∙ same))
place-set (y ∷ ys) (suc i) e x at same t = ap (λ (o : Option ℕ). if eqb y.tenant t then Some 0 else further o) (place-set ys i e x at same t)

pub ready_of-set : (es : List AgendaEntry) (i : ℕ) (e : AgendaEntry) → place e.tenant es ≡ Some i → (u : ℕ) → ready_of (set es i e) u ≡ with_ready e.tenant e.ready (ready_of es) u
ready_of-set [] i e at u = absurd (cc)
ready_of-set (x ∷ xs) i e found_at u = by_test (eqb x.tenant e.tenant) refl (λ j. ready_of-set xs j e)
  where
    by_test : (b : Bool) → eqb x.tenant e.tenant ≡ b → ((j : ℕ) → place e.tenant xs ≡ Some j → (u : ℕ) → ready_of (set xs j e) u ≡ with_ready e.tenant e.ready (ready_of xs) u) →
        ready_of (set (x ∷ xs) i e) u ≡ with_ready e.tenant e.ready (ready_of (x ∷ xs)) u
    by_test true s rec =
        let top : Some 0 ≡ Some i = rw s at found_at in
        let zero_is : 0 ≡ i = cc in
        let same : x.tenant ≡ e.tenant = grind (arith, nat_tests, s) in
        subst (λ (k : ℕ). ready_of (set (x ∷ xs) k e) u ≡ with_ready e.tenant e.ready (ready_of (x ∷ xs)) u) zero_is (grind (arith, nat_tests, same))
    by_test false s rec =
        let next : further (place e.tenant xs) ≡ Some i = rw s at found_at in
        let found = further_is (place e.tenant xs) i next in
        let there = rec found.0 found.1 u in
        subst (λ (k : ℕ). ready_of (set (x ∷ xs) k e) u ≡ with_ready e.tenant e.ready (ready_of (x ∷ xs)) u) (sym found.2) (grind (arith, nat_tests, there, s))
