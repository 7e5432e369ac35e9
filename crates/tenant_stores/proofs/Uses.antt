-- What spans that come and leave do to the uses of texts.
use Rattle.std.proofs.Common.{◌≡◌, ◌≢◌, ℕ, zero, suc, ◌+◌, ◌-◌, ◌<◌, ◌≤◌, List, [], ◌∷◌, ◌++◌, refl, sym, ap, ◌∙◌, arith, Bool, true, false, Option, Some, None, eqb, cond}
use Rattle.std.specs.Prelude.{IfSome}
use Rattle.std.proofs.lemmas.Bool.Decides.{nat_tests}
use Rattle.span_pool.specs.Stored.{StoredData}
use Rattle.span_pool.specs.Pool.{with_span, without}
use Rattle.text_pool.specs.Part.{with_text, released, held}
use Rattle.text_pool.specs.declared.pool.CountedText.{CountedText}
use Rattle.tenant_stores.specs.Counts.{count}
use Rattle.tenant_stores.specs.View.{text_keys_of, text_keys_at}
use Rattle.tenant_stores.specs.Invariant.{one, uses_of}
use Rattle.tenant_stores.specs.Changes.{all_released, texts_without}
use Rattle.tenant_stores.proofs.Lists.{count-append, count-self, drop_one, count-drop_one}

-- ---- spans at some keys are taken out

without-none : (ks : List ℕ) (at : ℕ → Option StoredData) (j : ℕ) → at j ≡ None → without ks at j ≡ None
without-none [] at j none = none
without-none (k ∷ ks) at j none = without-none ks (with_span k None at) j (by_test (eqb j k) none)
  where
    by_test : (b : Bool) → at j ≡ None → cond b None (at j) ≡ None
    by_test true none = refl
    by_test false none = none

pub without-other : (ks : List ℕ) (at : ℕ → Option StoredData) (j : ℕ) → count j ks ≡ 0 → without ks at j ≡ at j
without-other [] at j zero' = refl
without-other (k ∷ ks) at j zero' =
    let other : eqb j k ≡ false = grind (arith, nat_tests, zero') in
    let rest : count j ks ≡ 0 = omega arith in
    let here : with_span k None at j ≡ at j = rw other refl in
    without-other ks (with_span k None at) j rest ∙ here

pub without-named : (ks : List ℕ) (at : ℕ → Option StoredData) (j : ℕ) → 0 < count j ks → without ks at j ≡ None
without-named [] at j some = absurd (omega arith)
without-named (k ∷ ks) at j some = by_test (eqb k j) refl some (without-named ks (with_span k None at) j)
  where
    by_test : (b : Bool) → eqb k j ≡ b → 0 < cond b 1 0 + count j ks → (0 < count j ks → without ks (with_span k None at) j ≡ None) → without ks (with_span k None at) j ≡ None
    by_test true is some ih =
        let same : eqb j k ≡ true = grind (arith, nat_tests, is) in
        without-none ks (with_span k None at) j (rw same refl)
    by_test false is some ih = ih (omega arith)

pub one_most : (o : Option StoredData) → one o ≤ 1
one_most None = omega arith
one_most (Some x) = omega arith

-- what is left is named as before
pub one-without : (ks : List ℕ) (at : ℕ → Option StoredData) (j rest : ℕ) → count j ks + rest ≡ one (at j) → rest ≡ one (without ks at j)
one-without ks at j rest named = by_count (count j ks) refl
  where
    by_count : (n : ℕ) → count j ks ≡ n → rest ≡ one (without ks at j)
    by_count zero is = let none : count j ks ≡ 0 = is in omega (arith, named, is, ap one (without-other ks at j none))
    by_count (suc n) is = let some : 0 < count j ks = omega (arith, is) in let m = one_most (at j) in omega (arith, named, is, m, ap one (without-named ks at j some))

-- one more span is named once more
pub one-put : (key : ℕ) (span : StoredData) (at : ℕ → Option StoredData) (j rest : ℕ) → at key ≡ None → rest ≡ one (at j) → count j (key ∷ []) + rest ≡ one (with_span key (Some span) at j)
one-put key span at j rest vacant named = by_test (eqb j key) refl
  where
    by_test : (b : Bool) → eqb j key ≡ b → count j (key ∷ []) + rest ≡ one (cond b (Some span) (at j))
    by_test true is =
        let same : j ≡ key = grind (arith, nat_tests, is) in
        let none : one (at j) ≡ 0 = ap one (ap at same ∙ vacant) in
        let back : eqb key j ≡ true = grind (arith, nat_tests, is) in
        rw back (omega (arith, named, none))
    by_test false is =
        let back : eqb key j ≡ false = grind (arith, nat_tests, is) in
        rw back (omega (arith, named))

-- ---- the keys of texts that spans have

pub names-append : (s : ℕ → Option StoredData) (t : ℕ) (xs ys : List ℕ) → count t (text_keys_at s (xs ++ ys)) ≡ count t (text_keys_at s xs) + count t (text_keys_at s ys)
names-append s t [] ys = omega arith
names-append s t (x ∷ xs) ys =
    let a = count-append t (text_keys_of (s x)) (text_keys_at s (xs ++ ys)) in
    let b = count-append t (text_keys_of (s x)) (text_keys_at s xs) in
    omega (arith, a, b, names-append s t xs ys)

names-drop_one : (s : ℕ → Option StoredData) (t x : ℕ) (ys : List ℕ) → 0 < count x ys → count t (text_keys_at s ys) ≡ count t (text_keys_at s (x ∷ drop_one x ys))
names-drop_one s t x [] some = absurd (omega (arith, some))
names-drop_one s t x (y ∷ ys) some = by_test (eqb y x) refl some (names-drop_one s t x ys)
  where
    by_test : (b : Bool) → eqb y x ≡ b → 0 < cond b 1 0 + count x ys → (0 < count x ys → count t (text_keys_at s ys) ≡ count t (text_keys_at s (x ∷ drop_one x ys))) → count t (text_keys_at s (y ∷ ys)) ≡ count t (text_keys_at s (x ∷ cond b ys (y ∷ drop_one x ys)))
    by_test true e some ih = let same : y ≡ x = grind (arith, nat_tests, e) in ap (λ (z : ℕ). count t (text_keys_at s (z ∷ ys))) same
    by_test false e some ih =
        let rest = ih (omega (arith, some)) in
        let a = count-append t (text_keys_of (s y)) (text_keys_at s ys) in
        let b = count-append t (text_keys_of (s x)) (text_keys_at s (drop_one x ys)) in
        let c = count-append t (text_keys_of (s x)) (text_keys_at s (y ∷ drop_one x ys)) in
        let d = count-append t (text_keys_of (s y)) (text_keys_at s (drop_one x ys)) in
        omega (arith, rest, a, b, c, d)

-- they depend on how often each span is named, and not on the order
pub names-by_count : (s : ℕ → Option StoredData) (t : ℕ) (xs ys : List ℕ) → ((j : ℕ) → count j xs ≡ count j ys) → count t (text_keys_at s xs) ≡ count t (text_keys_at s ys)
names-by_count s t [] [] same = refl
names-by_count s t [] (y ∷ ys) same = absurd (omega (arith, same y, count-self y ys))
names-by_count s t (x ∷ xs) ys same =
    let some : 0 < count x ys = omega (arith, same x, count-self x xs) in
    let rest : (j : ℕ) → count j xs ≡ count j (drop_one x ys) = λ j. omega (arith, same j, count-drop_one x j ys some) in
    let a = count-append t (text_keys_of (s x)) (text_keys_at s xs) in
    let b = count-append t (text_keys_of (s x)) (text_keys_at s (drop_one x ys)) in
    omega (arith, a, b, names-by_count s t xs (drop_one x ys) rest, names-drop_one s t x ys some)

-- a key that isn't named may get any span
pub names-put : (key : ℕ) (slot : Option StoredData) (s : ℕ → Option StoredData) (ks : List ℕ) → count key ks ≡ 0 → text_keys_at (with_span key slot s) ks ≡ text_keys_at s ks
names-put key slot s [] none = refl
names-put key slot s (k ∷ ks) none =
    let other : eqb k key ≡ false = grind (arith, nat_tests, none) in
    let rest : count key ks ≡ 0 = omega arith in
    let here : with_span key slot s k ≡ s k = rw other refl in
    cc (here, names-put key slot s ks rest)

-- and those at other keys may leave
pub names-without : (gone : List ℕ) (s : ℕ → Option StoredData) (ks : List ℕ) → ((j : ℕ) → count j gone + count j ks ≤ 1) → text_keys_at (without gone s) ks ≡ text_keys_at s ks
names-without gone s [] apart = refl
names-without gone s (k ∷ ks) apart =
    let a = apart k in
    let none : count k gone ≡ 0 = omega (arith, a, count-self k ks) in
    let here : without gone s k ≡ s k = without-other gone s k none in
    let rest : (j : ℕ) → count j gone + count j ks ≤ 1 = λ j. let b = apart j in omega arith in
    cc (here, names-without gone s ks rest)

-- ---- uses

-- a text that is there is kept for one at least
abbrev pub IsKept : Option CountedText → Type 0
IsKept o = IfSome o (λ text. 0 < text.uses)

released-uses : (o : Option CountedText) → uses_of (released o) ≡ uses_of o - 1
released-uses None = omega arith
released-uses (Some kept) = by_test (eqb kept.uses 1) refl
  where
    by_test : (b : Bool) → eqb kept.uses 1 ≡ b → uses_of (cond b None (Some (record kept { uses = kept.uses - 1 }))) ≡ kept.uses - 1
    by_test true e = let same : kept.uses ≡ 1 = grind (arith, nat_tests, e) in omega (arith, same)
    by_test false e = refl

released-kept : (o : Option CountedText) → IsKept o → IsKept (released o)
released-kept None is = tt
released-kept (Some kept) is = by_test (eqb kept.uses 1) refl
  where
    by_test : (b : Bool) → eqb kept.uses 1 ≡ b → IsKept (cond b None (Some (record kept { uses = kept.uses - 1 })))
    by_test true e = tt
    by_test false e = let more : kept.uses ≢ 1 = grind (arith, nat_tests, e) in let some : 0 < kept.uses = is in grind (arith, more, some)

text_at-either : (key : ℕ) (slot : Option CountedText) (at : ℕ → Option CountedText) (P : Option CountedText → Type 0) (t : ℕ) → P slot → P (at t) → P (with_text key slot at t)
text_at-either key slot at P t here there = by_test (eqb t key)
  where
    by_test : (b : Bool) → P (cond b slot (at t))
    by_test true = here
    by_test false = there

pub one_released : (key : ℕ) (at : ℕ → Option CountedText) (t : ℕ) → uses_of (with_text key (released (at key)) at t) ≡ uses_of (at t) - count t (key ∷ [])
one_released key at t = by_test (eqb t key) refl
  where
    by_test : (b : Bool) → eqb t key ≡ b → uses_of (cond b (released (at key)) (at t)) ≡ uses_of (at t) - count t (key ∷ [])
    by_test true e =
        let same : t ≡ key = grind (arith, nat_tests, e) in
        let back : eqb key t ≡ true = grind (arith, nat_tests, e) in
        let uses : uses_of (released (at key)) ≡ uses_of (at t) - 1 = released-uses (at key) ∙ ap (λ (k : ℕ). uses_of (at k) - 1) (sym same) in
        rw back (omega (arith, uses))
    by_test false e =
        let back : eqb key t ≡ false = grind (arith, nat_tests, e) in
        rw back (omega arith)

pub one_kept : (key : ℕ) (at : ℕ → Option CountedText) → ((t : ℕ) → IsKept (at t)) → (t : ℕ) → IsKept (with_text key (released (at key)) at t)
one_kept key at kept t = text_at-either key (released (at key)) at IsKept t (released-kept (at key) (kept key)) (kept t)

pub all-released : (ks : List ℕ) (at : ℕ → Option CountedText) (t : ℕ) → uses_of (all_released ks at t) ≡ uses_of (at t) - count t ks
all-released [] at t = omega arith
all-released (k ∷ ks) at t = omega (arith, all-released ks (with_text k (released (at k)) at) t, one_released k at t)

pub all-kept : (ks : List ℕ) (at : ℕ → Option CountedText) → ((t : ℕ) → IsKept (at t)) → (t : ℕ) → IsKept (all_released ks at t)
all-kept [] at kept t = kept t
all-kept (k ∷ ks) at kept t = all-kept ks (with_text k (released (at k)) at) (one_kept k at kept) t

pub uses-without : (gone : List ℕ) (s : ℕ → Option StoredData) (at : ℕ → Option CountedText) (t : ℕ) → ((j : ℕ) → count j gone ≤ 1) → uses_of (texts_without gone s at t) ≡ uses_of (at t) - count t (text_keys_at s gone)
uses-without [] s at t once = omega arith
uses-without (k ∷ ks) s at t once =
    let a = once k in
    let none : count k ks ≡ 0 = omega (arith, a, count-self k ks) in
    let rest : (j : ℕ) → count j ks ≤ 1 = λ j. let b = once j in omega arith in
    let ih = uses-without ks (with_span k None s) (all_released (text_keys_of (s k)) at) t rest in
    let same : count t (text_keys_at (with_span k None s) ks) ≡ count t (text_keys_at s ks) = ap (count t) (names-put k None s ks none) in
    omega (arith, ih, same, all-released (text_keys_of (s k)) at t, count-append t (text_keys_of (s k)) (text_keys_at s ks))

pub kept-without : (gone : List ℕ) (s : ℕ → Option StoredData) (at : ℕ → Option CountedText) → ((t : ℕ) → IsKept (at t)) → (t : ℕ) → IsKept (texts_without gone s at t)
kept-without [] s at kept t = kept t
kept-without (k ∷ ks) s at kept t = kept-without ks (with_span k None s) (all_released (text_keys_of (s k)) at) (all-kept (text_keys_of (s k)) at kept) t

held-uses : (tenant : ℕ) (text : List ℕ) (o : Option CountedText) → uses_of (held tenant text o) ≡ uses_of o + 1
held-uses tenant text None = refl
held-uses tenant text (Some kept) = refl

held-kept : (tenant : ℕ) (text : List ℕ) (o : Option CountedText) → IsKept (held tenant text o)
held-kept tenant text None = omega arith
held-kept tenant text (Some kept) = omega arith

pub one_held : (tenant key : ℕ) (text : List ℕ) (at : ℕ → Option CountedText) (t : ℕ) → uses_of (with_text key (held tenant text (at key)) at t) ≡ uses_of (at t) + count t (key ∷ [])
one_held tenant key text at t = by_test (eqb t key) refl
  where
    by_test : (b : Bool) → eqb t key ≡ b → uses_of (cond b (held tenant text (at key)) (at t)) ≡ uses_of (at t) + count t (key ∷ [])
    by_test true e =
        let same : t ≡ key = grind (arith, nat_tests, e) in
        let back : eqb key t ≡ true = grind (arith, nat_tests, e) in
        let uses : uses_of (held tenant text (at key)) ≡ uses_of (at t) + 1 = held-uses tenant text (at key) ∙ ap (λ (k : ℕ). uses_of (at k) + 1) (sym same) in
        rw back (omega (arith, uses))
    by_test false e =
        let back : eqb key t ≡ false = grind (arith, nat_tests, e) in
        rw back (omega arith)

pub held_kept : (tenant key : ℕ) (text : List ℕ) (at : ℕ → Option CountedText) → ((t : ℕ) → IsKept (at t)) → (t : ℕ) → IsKept (with_text key (held tenant text (at key)) at t)
held_kept tenant key text at kept t = text_at-either key (held tenant text (at key)) at IsKept t (held-kept tenant text (at key)) (kept t)
