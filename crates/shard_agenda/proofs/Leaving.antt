-- What becomes of members, moments and places where the last entry takes the place of one that goes.
use Rattle.std.proofs.Common.{◌≡◌, ◌≢◌, ℕ, zero, suc, List, [], ◌∷◌, ◌++◌, length, set, refl, sym, ap, ◌∙◌, arith, Bool, true, false, not, Option, Some, None, eqb, subst, ◌||◌, ◌&&◌, is_some, if◌then◌else◌, cond}
use Rattle.std.proofs.lemmas.Bool.Decides.{nat_tests}
use Rattle.std.specs.Prelude.{slice_get, option_map}
use Rattle.std.specs.Ordering.{nat_cmp}
use Rattle.std.specs.Cmp.{unsigned_ties}
use Rattle.std.specs.BTreeMap.{BTreeMap}
use Rattle.std.specs.BTreeMap as tree
use Rattle.shard_agenda.specs.declared.AgendaEntry.{AgendaEntry}
use Rattle.shard_agenda.specs.Agenda.{ready_of, is_member, AreApart, place, with_ready}
use Rattle.shard_agenda.proofs.Order.{is_member-at}
use Rattle.shard_agenda.proofs.Places.{is_member-place, place_at, is_member-behind, place-behind}

-- who is no member has no place and no moment
no_place : (t : ℕ) (es : List AgendaEntry) → is_member es t ≡ false → place t es ≡ None
no_place t es none = by (place t es) (sym (is_member-place t es) ∙ none)
  where
    by : (o : Option ℕ) → is_some o ≡ false → o ≡ None
    by None h = refl
    by (Some i) h = absurd (cc)

pub no_moment : (es : List AgendaEntry) (t : ℕ) → is_member es t ≡ false → ready_of es t ≡ None
no_moment [] t none = refl
no_moment (x ∷ xs) t none = by (eqb x.tenant t) refl (no_moment xs t)
  where
    by : (b : Bool) → eqb x.tenant t ≡ b → (is_member xs t ≡ false → ready_of xs t ≡ None) → ready_of (x ∷ xs) t ≡ None
    by true e rec = let contrary : true ≡ false = rw e at none in absurd (cc)
    by false e rec = let none' : is_member xs t ≡ false = rw e at none in rw e (rec none')

and_false : (b : Bool) → (b && false) ≡ false
and_false true = refl
and_false false = refl

-- the last of the entries, and one of those before it that goes
module _ (l x : AgendaEntry) where
  -- the last is none of those before it
  pub last_is_none : (es : List AgendaEntry) → AreApart (es ++ l ∷ []) → is_member es l.tenant ≡ false
  last_is_none [] apart = refl
  last_is_none (y ∷ ys) apart =
      let here : (eqb l.tenant y.tenant || is_member ys y.tenant) ≡ false = sym (is_member-behind l ys y.tenant) ∙ apart.0 in
      grind (arith, nat_tests, here, last_is_none ys apart.1)

  pub others_are_apart : (es : List AgendaEntry) → AreApart (es ++ l ∷ []) → AreApart es
  others_are_apart [] apart = tt
  others_are_apart (y ∷ ys) apart =
      let here : (eqb l.tenant y.tenant || is_member ys y.tenant) ≡ false = sym (is_member-behind l ys y.tenant) ∙ apart.0 in
      let none : is_member ys y.tenant ≡ false = grind (arith, nat_tests, here) in
      (none, others_are_apart ys apart.1)

  pub is_member-moved : (es : List AgendaEntry) (at : ℕ) → slice_get es at ≡ Some x → is_member es l.tenant ≡ false → AreApart es → (u : ℕ) → is_member (set es at l) u ≡ (eqb l.tenant u || (not (eqb x.tenant u) && is_member es u))
  is_member-moved [] at is none apart u = absurd (cc)
  is_member-moved (y ∷ ys) zero is none apart u =
      let same : y ≡ x = cc in
      let once : y.tenant ≡ u → is_member ys u ≡ false = λ e. ap (is_member ys) (sym e) ∙ apart.0 in
      subst (λ (z : AgendaEntry). is_member (l ∷ ys) u ≡ (eqb l.tenant u || (not (eqb z.tenant u) && is_member (y ∷ ys) u))) same (by (eqb l.tenant u) (eqb y.tenant u) refl (is_member ys u) once)
    where
      by : (b d : Bool) → eqb y.tenant u ≡ d → (o : Bool) → (y.tenant ≡ u → o ≡ false) → (b || o) ≡ (b || (not d && (d || o)))
      by true d e o once = refl
      by false true e o once = once (grind (arith, nat_tests, e))
      by false false e o once = refl
  is_member-moved (y ∷ ys) (suc at) is none apart u =
      let there : is_member ys x.tenant ≡ true = is_member-at ys at x is in
      let once : y.tenant ≡ x.tenant → is_member ys x.tenant ≡ false = λ e. ap (is_member ys) (sym e) ∙ apart.0 in
      let none' : is_member ys l.tenant ≡ false = grind (arith, nat_tests, none) in
      by (eqb y.tenant u) refl (eqb l.tenant u) refl (eqb x.tenant u) refl (is_member-moved ys at is none' apart.1 u) there once
    where
      by : (b : Bool) → eqb y.tenant u ≡ b → (d : Bool) → eqb l.tenant u ≡ d → (f : Bool) → eqb x.tenant u ≡ f
          → is_member (set ys at l) u ≡ (eqb l.tenant u || (not (eqb x.tenant u) && is_member ys u))
          → is_member ys x.tenant ≡ true → (y.tenant ≡ x.tenant → is_member ys x.tenant ≡ false)
          → (eqb y.tenant u || is_member (set ys at l) u) ≡ (eqb l.tenant u || (not (eqb x.tenant u) && (eqb y.tenant u || is_member ys u)))
      by true s true s' f s'' rec there once = rw (s, s') refl
      by true s false s' true s'' rec there once =
          let same : y.tenant ≡ x.tenant = grind (arith, nat_tests, s, s'') in
          let contrary : true ≡ false = sym there ∙ once same in
          absurd (cc)
      by true s false s' false s'' rec there once = rw (s, s', s'') refl
      by false s true s' f s'' rec there once = let rec' : is_member (set ys at l) u ≡ true = rw s' at rec in rw (s, s') rec'
      by false s false s' f s'' rec there once = let rec' : is_member (set ys at l) u ≡ (not (eqb x.tenant u) && is_member ys u) = rw s' at rec in rw (s, s') rec'

  pub AreApart-moved : (es : List AgendaEntry) (at : ℕ) → slice_get es at ≡ Some x → is_member es l.tenant ≡ false → AreApart es → AreApart (set es at l)
  AreApart-moved [] at is none apart = absurd (cc)
  AreApart-moved (y ∷ ys) zero is none apart = let none' : is_member ys l.tenant ≡ false = grind (arith, nat_tests, none) in (none', apart.1)
  AreApart-moved (y ∷ ys) (suc at) is none apart =
      let none' : is_member ys l.tenant ≡ false = grind (arith, nat_tests, none) in
      let other : eqb l.tenant y.tenant ≡ false = grind (arith, nat_tests, none) in
      let here : is_member (set ys at l) y.tenant ≡ false = is_member-moved ys at is none' apart.1 y.tenant ∙ rw (other, apart.0) (and_false (not (eqb x.tenant y.tenant))) in
      (here, AreApart-moved ys at is none' apart.1)

  pub place-moved : (es : List AgendaEntry) (at : ℕ) → slice_get es at ≡ Some x → is_member es l.tenant ≡ false → AreApart es → (u : ℕ) → place u (set es at l) ≡ (if eqb l.tenant u then Some at else if eqb x.tenant u then None else place u es)
  place-moved [] at is none apart u = absurd (cc)
  place-moved (y ∷ ys) zero is none apart u =
      let same : y ≡ x = cc in
      let once : y.tenant ≡ u → place u ys ≡ None = λ e. no_place u ys (ap (is_member ys) (sym e) ∙ apart.0) in
      subst (λ (z : AgendaEntry). place u (l ∷ ys) ≡ (if eqb l.tenant u then Some 0 else if eqb z.tenant u then None else place u (y ∷ ys))) same (by (eqb l.tenant u) (eqb y.tenant u) refl (place u ys) once)
    where
      by : (b d : Bool) → eqb y.tenant u ≡ d → (o : Option ℕ) → (y.tenant ≡ u → o ≡ None)
          → (if b then Some 0 else option_map (λ at. suc at) o) ≡ (if b then Some 0 else if d then None else if d then Some 0 else option_map (λ at. suc at) o)
      by true d e o once = refl
      by false true e o once = ap (option_map (λ at. suc at)) (once (grind (arith, nat_tests, e)))
      by false false e o once = refl
  place-moved (y ∷ ys) (suc at) is none apart u =
      let there : is_member ys x.tenant ≡ true = is_member-at ys at x is in
      let once : y.tenant ≡ x.tenant → is_member ys x.tenant ≡ false = λ e. ap (is_member ys) (sym e) ∙ apart.0 in
      let none' : is_member ys l.tenant ≡ false = grind (arith, nat_tests, none) in
      by (eqb y.tenant u) refl (eqb l.tenant u) refl (eqb x.tenant u) refl (place-moved ys at is none' apart.1 u) there once
    where
      by : (b : Bool) → eqb y.tenant u ≡ b → (d : Bool) → eqb l.tenant u ≡ d → (f : Bool) → eqb x.tenant u ≡ f
          → place u (set ys at l) ≡ (if eqb l.tenant u then Some at else if eqb x.tenant u then None else place u ys)
          → is_member ys x.tenant ≡ true → (y.tenant ≡ x.tenant → is_member ys x.tenant ≡ false)
          → (if eqb y.tenant u then Some 0 else option_map (λ at. suc at) (place u (set ys at l)))
          ≡ (if eqb l.tenant u then Some (suc at) else if eqb x.tenant u then None else if eqb y.tenant u then Some 0 else option_map (λ at. suc at) (place u ys))
      by true s true s' f s'' rec there once = let same : eqb y.tenant l.tenant ≡ true = grind (arith, nat_tests, s, s') in absurd (grind (arith, nat_tests, same, none))
      by true s false s' true s'' rec there once =
          let same : y.tenant ≡ x.tenant = grind (arith, nat_tests, s, s'') in
          let contrary : true ≡ false = sym there ∙ once same in
          absurd (cc)
      by true s false s' false s'' rec there once = rw (s, s', s'') refl
      by false s true s' f s'' rec there once = let rec' : place u (set ys at l) ≡ Some at = rw s' at rec in rw (s, s', rec') refl
      by false s false s' true s'' rec there once = let rec' : place u (set ys at l) ≡ None = rw (s', s'') at rec in rw (s, s', s'', rec') refl
      by false s false s' false s'' rec there once = let rec' : place u (set ys at l) ≡ place u ys = rw (s', s'') at rec in rw (s, s', s'', rec') refl

  pub ready_of-moved : (es : List AgendaEntry) (at : ℕ) → slice_get es at ≡ Some x → is_member es l.tenant ≡ false → AreApart es → (u : ℕ) → ready_of (set es at l) u ≡ (if eqb l.tenant u then l.ready else if eqb x.tenant u then None else ready_of es u)
  ready_of-moved [] at is none apart u = absurd (cc)
  ready_of-moved (y ∷ ys) zero is none apart u =
      let same : y ≡ x = cc in
      let once : y.tenant ≡ u → ready_of ys u ≡ None = λ e. no_moment ys u (ap (is_member ys) (sym e) ∙ apart.0) in
      subst (λ (z : AgendaEntry). ready_of (l ∷ ys) u ≡ (if eqb l.tenant u then l.ready else if eqb z.tenant u then None else ready_of (y ∷ ys) u)) same (by (eqb l.tenant u) (eqb y.tenant u) refl (ready_of ys u) once)
    where
      by : (b d : Bool) → eqb y.tenant u ≡ d → (o : Option ℕ) → (y.tenant ≡ u → o ≡ None)
          → (if b then l.ready else o) ≡ (if b then l.ready else if d then None else if d then y.ready else o)
      by true d e o once = refl
      by false true e o once = once (grind (arith, nat_tests, e))
      by false false e o once = refl
  ready_of-moved (y ∷ ys) (suc at) is none apart u =
      let there : is_member ys x.tenant ≡ true = is_member-at ys at x is in
      let once : y.tenant ≡ x.tenant → is_member ys x.tenant ≡ false = λ e. ap (is_member ys) (sym e) ∙ apart.0 in
      let none' : is_member ys l.tenant ≡ false = grind (arith, nat_tests, none) in
      by (eqb y.tenant u) refl (eqb l.tenant u) refl (eqb x.tenant u) refl (ready_of-moved ys at is none' apart.1 u) there once
    where
      by : (b : Bool) → eqb y.tenant u ≡ b → (d : Bool) → eqb l.tenant u ≡ d → (f : Bool) → eqb x.tenant u ≡ f
          → ready_of (set ys at l) u ≡ (if eqb l.tenant u then l.ready else if eqb x.tenant u then None else ready_of ys u)
          → is_member ys x.tenant ≡ true → (y.tenant ≡ x.tenant → is_member ys x.tenant ≡ false)
          → (if eqb y.tenant u then y.ready else ready_of (set ys at l) u)
          ≡ (if eqb l.tenant u then l.ready else if eqb x.tenant u then None else if eqb y.tenant u then y.ready else ready_of ys u)
      by true s true s' f s'' rec there once = let same : eqb y.tenant l.tenant ≡ true = grind (arith, nat_tests, s, s') in absurd (grind (arith, nat_tests, same, none))
      by true s false s' true s'' rec there once =
          let same : y.tenant ≡ x.tenant = grind (arith, nat_tests, s, s'') in
          let contrary : true ≡ false = sym there ∙ once same in
          absurd (cc)
      by true s false s' false s'' rec there once = rw (s, s', s'') refl
      by false s true s' f s'' rec there once = let rec' : ready_of (set ys at l) u ≡ l.ready = rw s' at rec in rw (s, s', rec') refl
      by false s false s' true s'' rec there once = let rec' : ready_of (set ys at l) u ≡ None = rw (s', s'') at rec in rw (s, s', s'', rec') refl
      by false s false s' false s'' rec there once = let rec' : ready_of (set ys at l) u ≡ ready_of ys u = rw (s', s'') at rec in rw (s, s', s'', rec') refl

-- the entries without the last, and with the last in the place of another
module _ (l : AgendaEntry) (es : List AgendaEntry) (apart : AreApart (es ++ l ∷ [])) where
  none : is_member es l.tenant ≡ false
  none = last_is_none l l es apart

  absent : (u : ℕ) → eqb l.tenant u ≡ true → is_member es u ≡ false
  absent u e = let same : l.tenant ≡ u = grind (arith, nat_tests, e) in ap (is_member es) (sym same) ∙ none

  pub members_without_last : (u : ℕ) → is_member es u ≡ (not (eqb l.tenant u) && is_member (es ++ l ∷ []) u)
  members_without_last u = by (eqb l.tenant u) refl
    where
      by : (b : Bool) → eqb l.tenant u ≡ b → is_member es u ≡ (not (eqb l.tenant u) && is_member (es ++ l ∷ []) u)
      by true e = rw e (absent u e)
      by false e = rw (e, is_member-behind l es u, e) refl

  pub place_without_last : (u : ℕ) → place u es ≡ (if eqb l.tenant u then None else place u (es ++ l ∷ []))
  place_without_last u = by (eqb l.tenant u) refl
    where
      by : (b : Bool) → eqb l.tenant u ≡ b → place u es ≡ (if eqb l.tenant u then None else place u (es ++ l ∷ []))
      by true e = rw e (no_place u es (absent u e))
      by false e = rw (e, place-behind l es u none, e) refl

  before : (xs : List AgendaEntry) (u : ℕ) → eqb l.tenant u ≡ false → ready_of (xs ++ l ∷ []) u ≡ ready_of xs u
  before [] u e = rw e refl
  before (x ∷ xs) u e = ap (λ (o : Option ℕ). if eqb x.tenant u then x.ready else o) (before xs u e)

  last_ready : (xs : List AgendaEntry) → is_member xs l.tenant ≡ false → (u : ℕ) → eqb l.tenant u ≡ true → ready_of (xs ++ l ∷ []) u ≡ l.ready
  last_ready [] none u e = rw e refl
  last_ready (x ∷ xs) none u e =
      let other : eqb x.tenant u ≡ false = grind (arith, nat_tests, none, e) in
      let none' : is_member xs l.tenant ≡ false = grind (arith, nat_tests, none) in
      rw other (last_ready xs none' u e)

  pub ready_without_last : (u : ℕ) → ready_of es u ≡ (if eqb l.tenant u then None else ready_of (es ++ l ∷ []) u)
  ready_without_last u = by (eqb l.tenant u) refl
    where
      by : (b : Bool) → eqb l.tenant u ≡ b → ready_of es u ≡ (if eqb l.tenant u then None else ready_of (es ++ l ∷ []) u)
      by true e = rw e (no_moment es u (absent u e))
      by false e = rw e (sym (before es u e))

  module _ (x : AgendaEntry) (at : ℕ) (is : slice_get es at ≡ Some x) where
    there : is_member es x.tenant ≡ true
    there = is_member-at es at x is

    others : AreApart es
    others = others_are_apart l x es apart

    pub apart_moved : AreApart (set es at l)
    apart_moved = AreApart-moved l x es at is none others

    -- the last is another than the one that goes
    differ : (u : ℕ) → eqb l.tenant u ≡ true → eqb x.tenant u ≡ false
    differ u e = by (eqb x.tenant u) refl
      where
        by : (b : Bool) → eqb x.tenant u ≡ b → eqb x.tenant u ≡ false
        by true s = let same : x.tenant ≡ u = grind (arith, nat_tests, s) in let contrary : true ≡ false = sym there ∙ (ap (is_member es) same ∙ absent u e) in absurd (cc)
        by false s = s

    pub members_moved : (u : ℕ) → is_member (set es at l) u ≡ (not (eqb x.tenant u) && is_member (es ++ l ∷ []) u)
    members_moved u = is_member-moved l x es at is none others u ∙ by (eqb l.tenant u) refl
      where
        by : (b : Bool) → eqb l.tenant u ≡ b → (eqb l.tenant u || (not (eqb x.tenant u) && is_member es u)) ≡ (not (eqb x.tenant u) && is_member (es ++ l ∷ []) u)
        by true e = rw (is_member-behind l es u, e, differ u e) refl
        by false e = rw (is_member-behind l es u, e) refl

    pub place_moved : (u : ℕ) → place u (set es at l) ≡ (if eqb l.tenant u then Some at else if eqb x.tenant u then None else place u (es ++ l ∷ []))
    place_moved u = place-moved l x es at is none others u ∙ by (eqb l.tenant u) refl
      where
        by : (b : Bool) → eqb l.tenant u ≡ b → (if eqb l.tenant u then Some at else if eqb x.tenant u then None else place u es)
            ≡ (if eqb l.tenant u then Some at else if eqb x.tenant u then None else place u (es ++ l ∷ []))
        by true e = rw e refl
        by false e = rw (place-behind l es u none, e) refl

    pub ready_moved : (u : ℕ) → ready_of (set es at l) u ≡ (if eqb x.tenant u then None else ready_of (es ++ l ∷ []) u)
    ready_moved u = ready_of-moved l x es at is none others u ∙ by (eqb l.tenant u) refl
      where
        by : (b : Bool) → eqb l.tenant u ≡ b → (if eqb l.tenant u then l.ready else if eqb x.tenant u then None else ready_of es u) ≡ (if eqb x.tenant u then None else ready_of (es ++ l ∷ []) u)
        by true e = rw (e, differ u e) (sym (last_ready es none u e))
        by false e = rw e (ap (λ (o : Option ℕ). if eqb x.tenant u then None else o) (sym (before es u e)))

slice_get-last : (l : AgendaEntry) (xs : List AgendaEntry) → slice_get (xs ++ l ∷ []) (length xs) ≡ Some l
slice_get-last l [] = refl
slice_get-last l (x ∷ xs) = slice_get-last l xs

-- ---- the map of places

without : (old new : BTreeMap ℕ ℕ) (t : ℕ) → tree.Updates nat_cmp old new t None → (u : ℕ) → tree.get nat_cmp new u ≡ (if eqb t u then None else tree.get nat_cmp old u)
without old new t updates u = updates.0 u ∙ ap (λ (b : Bool). cond b None (tree.get nat_cmp old u)) (sym (unsigned_ties t u))

put : (old new : BTreeMap ℕ ℕ) (t at : ℕ) → tree.Updates nat_cmp old new t (Some at) → (u : ℕ) → tree.get nat_cmp new u ≡ (if eqb t u then Some at else tree.get nat_cmp old u)
put old new t at updates u = updates.0 u ∙ ap (λ (b : Bool). cond b (Some at) (tree.get nat_cmp old u)) (sym (unsigned_ties t u))

module _ (l : AgendaEntry) (es : List AgendaEntry) (apart : AreApart (es ++ l ∷ [])) (old : BTreeMap ℕ ℕ) (placed : (u : ℕ) → tree.get nat_cmp old u ≡ place u (es ++ l ∷ [])) where
  -- the one whose place is the last is the last
  pub is_last : (t : ℕ) → place t (es ++ l ∷ []) ≡ Some (length es) → l.tenant ≡ t
  is_last t h =
      let found = place_at t (es ++ l ∷ []) (length es) h in
      let same : Some found.0 ≡ Some l = sym found.1 ∙ slice_get-last l es in
      let same' : found.0 ≡ l = cc in
      ap (λ (e : AgendaEntry). e.tenant) (sym same') ∙ found.2

  pub placed_without_last : (new : BTreeMap ℕ ℕ) → tree.Updates nat_cmp old new l.tenant None → (u : ℕ) → tree.get nat_cmp new u ≡ place u es
  placed_without_last new updates u =
      without old new l.tenant updates u ∙ (ap (λ (o : Option ℕ). if eqb l.tenant u then None else o) (placed u) ∙ sym (place_without_last l es apart u))

  -- another place is that of one before the last
  pub is_before_last : (t at : ℕ) → place t (es ++ l ∷ []) ≡ Some at → at ≢ length es → (x : AgendaEntry) × (slice_get es at ≡ Some x) × (x.tenant ≡ t)
  is_before_last t at h apart_from = by (eqb l.tenant t) refl
    where
      is : place t (es ++ l ∷ []) ≡ (if eqb l.tenant t then Some (length es) else place t es)
      is = place-behind l es t (last_is_none l l es apart)

      by : (b : Bool) → eqb l.tenant t ≡ b → (x : AgendaEntry) × (slice_get es at ≡ Some x) × (x.tenant ≡ t)
      by true e =
          let end : Some (length es) ≡ Some at = sym (rw e at is) ∙ h in
          absurd (apart_from (let same : length es ≡ at = cc in sym same))
      by false e = place_at t es at (sym (rw e at is) ∙ h)

  -- the last has a place still, once another has gone
  pub last_stays : (t at : ℕ) → place t (es ++ l ∷ []) ≡ Some at → at ≢ length es → (middle : BTreeMap ℕ ℕ) → tree.Updates nat_cmp old middle t None → tree.get nat_cmp middle l.tenant ≢ None
  last_stays t at h apart_from middle leaves gone = by (eqb t l.tenant) refl
    where
      own : place l.tenant (es ++ l ∷ []) ≡ Some (length es)
      own = own_by (eqb l.tenant l.tenant) refl
        where
          own_by : (b : Bool) → eqb l.tenant l.tenant ≡ b → place l.tenant (es ++ l ∷ []) ≡ Some (length es)
          own_by true e = place-behind l es l.tenant (last_is_none l l es apart) ∙ rw e refl
          own_by false e = absurd (grind (arith, nat_tests, e))

      left : tree.get nat_cmp middle l.tenant ≡ (if eqb t l.tenant then None else tree.get nat_cmp old l.tenant)
      left = without old middle t leaves l.tenant

      by : (b : Bool) → eqb t l.tenant ≡ b → ⊥
      by true e =
          let same : t ≡ l.tenant = grind (arith, nat_tests, e) in
          let end : Some at ≡ Some (length es) = sym h ∙ (ap (λ (u : ℕ). place u (es ++ l ∷ [])) same ∙ own) in
          apart_from (cc)
      by false e =
          let there : Some (length es) ≡ None = sym own ∙ (sym (placed l.tenant) ∙ (sym (rw e at left) ∙ gone)) in
          cc

  pub placed_moved : (x : AgendaEntry) (at : ℕ) → slice_get es at ≡ Some x → (middle new : BTreeMap ℕ ℕ) → tree.Updates nat_cmp old middle x.tenant None → tree.Updates nat_cmp middle new l.tenant (Some at) → (u : ℕ) → tree.get nat_cmp new u ≡ place u (set es at l)
  placed_moved x at is middle new leaves comes u =
      put middle new l.tenant at comes u
      ∙ (ap (λ (o : Option ℕ). if eqb l.tenant u then Some at else o) (without old middle x.tenant leaves u ∙ ap (λ (o : Option ℕ). if eqb x.tenant u then None else o) (placed u))
      ∙ sym (place_moved l es apart x at is u))

-- ---- who is no member

pub members_none : (es : List AgendaEntry) (t : ℕ) → is_member es t ≡ false → (u : ℕ) → is_member es u ≡ (not (eqb t u) && is_member es u)
members_none es t none u = by (eqb t u) refl
  where
    by : (b : Bool) → eqb t u ≡ b → is_member es u ≡ (not (eqb t u) && is_member es u)
    by true e = let same : t ≡ u = grind (arith, nat_tests, e) in rw e (ap (is_member es) (sym same) ∙ none)
    by false e = rw e refl

flipped : (a b : ℕ) → eqb a b ≡ eqb b a
flipped a b = by (eqb a b) refl (eqb b a) refl
  where
    by : (c : Bool) → eqb a b ≡ c → (d : Bool) → eqb b a ≡ d → eqb a b ≡ eqb b a
    by true e true f = e ∙ sym f
    by true e false f = absurd (grind (arith, nat_tests, e, f))
    by false e true f = absurd (grind (arith, nat_tests, e, f))
    by false e false f = e ∙ sym f

-- the moments without one tenant's
pub ready_none : (t : ℕ) (old : ℕ → Option ℕ) (u : ℕ) → (if eqb t u then None else old u) ≡ with_ready t None old u
ready_none t old u = ap (λ (b : Bool). if b then None else old u) (flipped t u)

pub ready_unchanged : (es : List AgendaEntry) (t : ℕ) → is_member es t ≡ false → (u : ℕ) → ready_of es u ≡ with_ready t None (ready_of es) u
ready_unchanged es t none u = by (eqb t u) refl ∙ ready_none t (ready_of es) u
  where
    by : (b : Bool) → eqb t u ≡ b → ready_of es u ≡ (if eqb t u then None else ready_of es u)
    by true e = let same : t ≡ u = grind (arith, nat_tests, e) in rw e (ap (ready_of es) (sym same) ∙ no_moment es t none)
    by false e = rw e refl
