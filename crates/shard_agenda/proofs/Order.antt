-- What order the entries stand in, and what the first of all tells.
use Rattle.std.proofs.Common.{◌≡◌, ℕ, zero, suc, ◌<◌, ◌≤◌, List, [], ◌∷◌, length, refl, ap, ◌∙◌, arith, Bool, true, false, Option, Some, None, eqb, inl, inr, subst}
use Rattle.std.proofs.lemmas.Bool.Decides.{nat_tests}
use Rattle.std.specs.Prelude.{slice_get}
use Rattle.shard_agenda.specs.declared.AgendaEntry.{AgendaEntry}
use Rattle.shard_agenda.specs.Agenda.{ready_of, is_member, AreApart}
use Rattle.shard_agenda.specs.Firsts.{is_before, precedes, IsRight}
use Rattle.shard_agenda.specs.Pick.{NotAfter, IsPick, IsNext}
use Rattle.shard_agenda.proofs.Tree.{first_is_least, first_is_there}

-- no other stands before this one
abbrev IsLeast : AgendaEntry → List AgendaEntry → Type 0
IsLeast e [] = Unit
IsLeast e (x ∷ xs) = (precedes x e ≡ false) × IsLeast e xs

IsLeast-at : (e : AgendaEntry) (es : List AgendaEntry) → ((j : ℕ) (x : AgendaEntry) → slice_get es j ≡ Some x → precedes x e ≡ false) → IsLeast e es
IsLeast-at e [] h = tt
IsLeast-at e (x ∷ xs) h = (h 0 x refl, IsLeast-at e xs (λ j y at. h (suc j) y at))

-- the pick
pub not_after : (m t : ℕ) (es : List AgendaEntry) → IsLeast (record { ready = Some m; tenant = t }) es → (u k : ℕ) → ready_of es u ≡ Some k → NotAfter m t k u
not_after m t [] least u k is = absurd (cc)
not_after m t (x ∷ xs) least u k is = by_test (eqb x.tenant u) refl (not_after m t xs least.1 u k)
  where
    here : (r : Option ℕ) → r ≡ Some k → is_before r x.tenant (Some m) t ≡ false → x.tenant ≡ u → NotAfter m t k u
    here None p k' same = absurd (cc)
    here (Some j) p kept same =
        let jk : j ≡ k = cc in
        let le : m ≤ k = grind (arith, nat_tests, kept) in
        by_eq (eqb m k) refl jk le
      where
        by_eq : (b : Bool) → eqb m k ≡ b → j ≡ k → m ≤ k → NotAfter m t k u
        by_eq true e jk le = inr (grind (arith, nat_tests, e), grind (arith, nat_tests, kept, e))
        by_eq false e jk le = inl (grind (arith, nat_tests, e))

    by_test : (b : Bool) → eqb x.tenant u ≡ b → (ready_of xs u ≡ Some k → NotAfter m t k u) → NotAfter m t k u
    by_test true e rec = let is' : x.ready ≡ Some k = rw e at is in here x.ready is' least.0 (grind (arith, nat_tests, e))
    by_test false e rec = let is' : ready_of xs u ≡ Some k = rw e at is in rec is'

pub never : (t : ℕ) (es : List AgendaEntry) → IsLeast (record { ready = None; tenant = t }) es → (u k : ℕ) → ready_of es u ≡ Some k → ⊥
never t [] least u k is = cc
never t (x ∷ xs) least u k is = by_test (eqb x.tenant u) refl (never t xs least.1 u k)
  where
    here : (r : Option ℕ) → r ≡ Some k → is_before r x.tenant None t ≡ false → ⊥
    here None p kept = cc
    here (Some j) p kept = cc

    by_test : (b : Bool) → eqb x.tenant u ≡ b → (ready_of xs u ≡ Some k → ⊥) → ⊥
    by_test true e rec = let is' : x.ready ≡ Some k = rw e at is in here x.ready is' least.0
    by_test false e rec = let is' : ready_of xs u ≡ Some k = rw e at is in rec is'

-- who stands at a place has the moment that stands there
pub is_member-at : (es : List AgendaEntry) (j : ℕ) (x : AgendaEntry) → slice_get es j ≡ Some x → is_member es x.tenant ≡ true
is_member-at [] j x at = absurd (cc)
is_member-at (y ∷ ys) zero x at = let same : y ≡ x = cc in subst (λ (z : AgendaEntry). is_member (y ∷ ys) z.tenant ≡ true) same (grind (arith, nat_tests))
is_member-at (y ∷ ys) (suc j) x at = grind (arith, nat_tests, is_member-at ys j x at)

pub ready_of-at : (es : List AgendaEntry) (j : ℕ) (x : AgendaEntry) → AreApart es → slice_get es j ≡ Some x → ready_of es x.tenant ≡ x.ready
ready_of-at [] j x apart at = absurd (cc)
ready_of-at (y ∷ ys) zero x apart at = let same : y ≡ x = cc in subst (λ (z : AgendaEntry). ready_of (y ∷ ys) z.tenant ≡ z.ready) same (grind (arith, nat_tests))
ready_of-at (y ∷ ys) (suc j) x apart at = by_test (eqb y.tenant x.tenant) refl (ready_of-at ys j x apart.1 at)
  where
    by_test : (b : Bool) → eqb y.tenant x.tenant ≡ b → ready_of ys x.tenant ≡ x.ready → ready_of (y ∷ ys) x.tenant ≡ x.ready
    by_test true e rec =
        let same : y.tenant ≡ x.tenant = grind (arith, nat_tests, e) in
        let there : is_member ys y.tenant ≡ true = ap (is_member ys) same ∙ is_member-at ys j x at in
        let none : is_member ys y.tenant ≡ false = apart.0 in
        absurd (cc)
    by_test false e rec = rw e rec

-- the pick, by what stands first of all
module _ (es fs : List AgendaEntry) (right : IsRight es fs) (x : AgendaEntry) (first : slice_get fs 0 ≡ Some x) where
  least : IsLeast x es
  least = IsLeast-at x es (λ j y at. first_is_least es fs right x first j y at)

  least_ready : (m : ℕ) → x.ready ≡ Some m → IsLeast (record { ready = Some m; tenant = x.tenant }) es
  least_ready m ready = subst (λ (r : Option ℕ). IsLeast (record { ready = r; tenant = x.tenant }) es) ready least

  pub pick_at : (m now : ℕ) → AreApart es → x.ready ≡ Some m → m ≤ now → IsPick (ready_of es) now (Some x.tenant)
  pick_at m now apart ready le =
      let there = first_is_there es fs right x first in
      (m, ready_of-at es there.0 x apart there.1 ∙ ready, le, not_after m x.tenant es (least_ready m ready))

  pub later_at : (m now : ℕ) → x.ready ≡ Some m → now < m → IsPick (ready_of es) now None
  later_at m now ready lt = λ u k at. after (not_after m x.tenant es (least_ready m ready) u k at)
    where
      after : {k u : ℕ} → NotAfter m x.tenant k u → now < k
      after (inl h) = omega arith
      after (inr h) = omega (arith, h.0)

  nobody_ready : x.ready ≡ None → (u k : ℕ) → ready_of es u ≡ Some k → ⊥
  nobody_ready ready = never x.tenant es (subst (λ (r : Option ℕ). IsLeast (record { ready = r; tenant = x.tenant }) es) ready least)

  pub none_at : (now : ℕ) → x.ready ≡ None → IsPick (ready_of es) now None
  none_at now ready = λ u k at. absurd (nobody_ready ready u k at)

  -- the least moment is the one that stands first
  pub next_at : AreApart es → (r : Option ℕ) → x.ready ≡ r → IsNext (ready_of es) r
  next_at apart None ready = λ u. absent (ready_of es u) (nobody_ready ready u)
    where
      absent : (r : Option ℕ) → ((k : ℕ) → r ≡ Some k → ⊥) → r ≡ None
      absent None never_so = refl
      absent (Some k) never_so = absurd (never_so k refl)
  next_at apart (Some m) ready =
      let there = first_is_there es fs right x first in
      ((x.tenant, ready_of-at es there.0 x apart there.1 ∙ ready), λ u k at. by_order u k (not_after m x.tenant es (least_ready m ready) u k at))
    where
      by_order : (u k : ℕ) → NotAfter m x.tenant k u → m ≤ k
      by_order u k (inl earlier) = omega (arith, earlier)
      by_order u k (inr same) = omega (arith, same.0)

pub empty_at : (es fs : List AgendaEntry) (now : ℕ) → length fs ≡ length es → slice_get fs 0 ≡ None → IsPick (ready_of es) now None
empty_at [] fs now even at = λ u k absent. absurd (cc)
empty_at (x ∷ es) [] now even at = absurd (omega arith)
empty_at (x ∷ es) (y ∷ fs) now even at = absurd (cc)
