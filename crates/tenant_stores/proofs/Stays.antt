-- Texts that are still named keep their bytes as uses come and go.
use Rattle.std.proofs.Common.{◌≡◌, ℕ, ◌-◌, ◌<◌, ◌≤◌, List, [], ◌∷◌, refl, sym, ap, ◌∙◌, arith, Bool, true, false, Option, Some, None, eqb, cond}
use Rattle.std.proofs.lemmas.Bool.Decides.{nat_tests}
use Rattle.span_pool.specs.Stored.{StoredData}
use Rattle.span_pool.specs.Pool.{with_span}
use Rattle.text_pool.specs.Part.{with_text, released, held, text_of}
use Rattle.text_pool.specs.declared.pool.CountedText.{CountedText}
use Rattle.tenant_stores.specs.Counts.{count}
use Rattle.tenant_stores.specs.View.{text_at, text_keys_of, text_keys_at}
use Rattle.tenant_stores.specs.Invariant.{uses_of}
use Rattle.tenant_stores.specs.Changes.{all_released, texts_without}
use Rattle.tenant_stores.proofs.Lists.{count-append, count-self}
use Rattle.tenant_stores.proofs.Uses.{one_released, all-released, names-put}

-- a use more
held_slot : (tenant : ℕ) (text : List ℕ) (o : Option CountedText) → 0 < uses_of o → text_of (held tenant text o) ≡ text_of o
held_slot tenant text None some = absurd (omega (arith, some))
held_slot tenant text (Some kept) some = refl

pub held-stays : (tenant key : ℕ) (text : List ℕ) (at : ℕ → Option CountedText) (t : ℕ) → 0 < uses_of (at t) → text_at (with_text key (held tenant text (at key)) at) t ≡ text_at at t
held-stays tenant key text at t some = by_test (eqb t key) refl
  where
    by_test : (b : Bool) → eqb t key ≡ b → text_of (cond b (held tenant text (at key)) (at t)) ≡ text_of (at t)
    by_test true e =
        let same : t ≡ key = grind (arith, nat_tests, e) in
        let there : 0 < uses_of (at key) = let u : uses_of (at t) ≡ uses_of (at key) = ap (λ (k : ℕ). uses_of (at k)) same in omega (arith, some, u) in
        held_slot tenant text (at key) there ∙ ap (λ (k : ℕ). text_of (at k)) (sym same)
    by_test false e = refl

-- a use less, of two or more
released_slot : (o : Option CountedText) → 1 < uses_of o → text_of (released o) ≡ text_of o
released_slot None some = absurd (omega (arith, some))
released_slot (Some kept) some = by_test (eqb kept.uses 1) refl
  where
    by_test : (b : Bool) → eqb kept.uses 1 ≡ b → text_of (cond b None (Some (record kept { uses = kept.uses - 1 }))) ≡ Some kept.text
    by_test true e = let one : kept.uses ≡ 1 = grind (arith, nat_tests, e) in absurd (omega (arith, some, one))
    by_test false e = refl

one-stays : (key : ℕ) (at : ℕ → Option CountedText) (t : ℕ) → count t (key ∷ []) < uses_of (at t) → text_at (with_text key (released (at key)) at) t ≡ text_at at t
one-stays key at t few = by_test (eqb t key) refl
  where
    by_test : (b : Bool) → eqb t key ≡ b → text_of (cond b (released (at key)) (at t)) ≡ text_of (at t)
    by_test true e =
        let same : t ≡ key = grind (arith, nat_tests, e) in
        let once : count t (key ∷ []) ≡ 1 = ap (λ (k : ℕ). count k (key ∷ [])) same ∙ count-self key [] in
        let u : uses_of (at t) ≡ uses_of (at key) = ap (λ (k : ℕ). uses_of (at k)) same in
        let more : 1 < uses_of (at key) = omega (arith, few, once, u) in
        released_slot (at key) more ∙ ap (λ (k : ℕ). text_of (at k)) (sym same)
    by_test false e = refl

-- uses less, and one is left
pub all-stays : (ks : List ℕ) (at : ℕ → Option CountedText) (t : ℕ) → count t ks < uses_of (at t) → text_at (all_released ks at) t ≡ text_at at t
all-stays [] at t few = refl
all-stays (k ∷ ks) at t few =
    let next = with_text k (released (at k)) at in
    let uses = one_released k at t in
    let sum = count-append t (k ∷ []) ks in
    let rest : count t ks < uses_of (next t) = omega (arith, few, uses, sum) in
    let first : count t (k ∷ []) < uses_of (at t) = omega (arith, few, sum) in
    all-stays ks next t rest ∙ one-stays k at t first

-- the same where spans leave
pub without-stays : (gone : List ℕ) (s : ℕ → Option StoredData) (at : ℕ → Option CountedText) (t : ℕ) → ((j : ℕ) → count j gone ≤ 1) → count t (text_keys_at s gone) < uses_of (at t) → text_at (texts_without gone s at) t ≡ text_at at t
without-stays [] s at t once few = refl
without-stays (k ∷ ks) s at t once few =
    let a = once k in
    let none : count k ks ≡ 0 = omega (arith, a, count-self k ks) in
    let rest : (j : ℕ) → count j ks ≤ 1 = λ j. let b = once j in omega arith in
    let next = all_released (text_keys_of (s k)) at in
    let same : count t (text_keys_at (with_span k None s) ks) ≡ count t (text_keys_at s ks) = ap (count t) (names-put k None s ks none) in
    let sum = count-append t (text_keys_of (s k)) (text_keys_at s ks) in
    let uses = all-released (text_keys_of (s k)) at t in
    let later : count t (text_keys_at (with_span k None s) ks) < uses_of (next t) = omega (arith, few, same, sum, uses) in
    let first : count t (text_keys_of (s k)) < uses_of (at t) = omega (arith, few, sum) in
    without-stays ks (with_span k None s) next t rest later ∙ all-stays (text_keys_of (s k)) at t first
