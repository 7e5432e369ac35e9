-- What a draw and a seed do to the generators.
use Rattle.std.proofs.Common.{◌≡◌, ◌≢◌, ℕ, ◌==◌, List, [], ◌∷◌, length, Bool, true, false, eqb, cond, Option, Some, None, is_some, refl, sym, ap, ◌∙◌, arith}
use Rattle.std.specs.Prelude.{option_map, if◌then◌else◌}
use Rattle.std.proofs.lemmas.Bool.Decides.{nat_tests}
use Rattle.std.proofs.Math.Path.{fun_ext}
use Rattle.std.specs.Ordering.{nat_cmp, is_eq, match_ordering}
use Rattle.std.specs.declared.cmp.Ordering.{Ordering}
use Rattle.std.specs.declared.cmp.Ordering.TheVariants.{Less, Equal, Greater}
use Rattle.std.specs.Cmp.{unsigned_ties}
use Rattle.std.specs.Map.{lookup, remove_entry}
use Rattle.std.specs.BTreeMap.{BTreeMap}
use Rattle.std.specs.BTreeMap as tree
use Rattle.rand_pcg.specs.Lcg.{Lcg}
use Rattle.rand_pcg.specs.Pcg.{pcg32}
use Rattle.shard_machine.specs.Jitter.{start, next_word, moved, first_words, after_words, TenantGenerator, generator_of, or_start, without, IsDraw, IsSeeded, IsRemoved, Drawn, words_of, EachHasItsOwn}

-- what the map has at a tenant is the tenant's generator
pub at_tenant : (m : BTreeMap ℕ Lcg) (tenant : ℕ) → tree.get nat_cmp m tenant ≡ generator_of tenant m.entries
at_tenant m tenant = ap (λ (test : ℕ → Bool). lookup test m.entries) (fun_ext (λ other. sym (unsigned_ties tenant other)))

-- another generator, or none, at one tenant
module _ (m n : BTreeMap ℕ Lcg) (tenant : ℕ) (slot : Option Lcg) (updates : tree.Updates nat_cmp m n tenant slot) where
  own : generator_of tenant n.entries ≡ slot
  own = sym (at_tenant n tenant) ∙ updates.1

  others : (other : ℕ) → other ≢ tenant → generator_of other n.entries ≡ generator_of other m.entries
  others other apart =
      let elsewhere : is_eq (nat_cmp tenant other) ≡ false = grind (arith, nat_tests) in
      sym (at_tenant n other) ∙ (updates.2 other elsewhere ∙ at_tenant m other)

pub drawn : (m n : BTreeMap ℕ Lcg) (tenant word : ℕ) (had has : Lcg) → generator_of tenant m.entries ≡ Some had → ◌≡◌ {A = ℕ × Lcg} (word, has) (pcg32 had) → tree.Updates nat_cmp m n tenant (Some has) → IsDraw tenant m.entries (Some word) n.entries
drawn m n tenant word had has is given updates = record {
  word_is = ap (λ (p : ℕ × Lcg). Some p.0) given ∙ ap (option_map next_word) (sym is);
  own = own m n tenant (Some has) updates ∙ (ap (λ (p : ℕ × Lcg). Some p.1) given ∙ ap (option_map moved) (sym is));
  kept = λ none. let found : Some had ≡ None = sym is ∙ none in absurd (cc);
  others = others m n tenant (Some has) updates;
}

pub none_of : {X : Type 0} (o : Option X) → is_some o ≡ false → o ≡ None
none_of None is = refl
none_of (Some x) is = absurd (cc)

pub seeded : (m n : BTreeMap ℕ Lcg) (tenant seed : ℕ) (starts : Lcg) → generator_of tenant m.entries ≡ None → starts ≡ start seed → tree.Updates nat_cmp m n tenant (Some starts) → IsSeeded tenant seed m.entries n.entries
seeded m n tenant seed starts none is updates = record {
  own = own m n tenant (Some starts) updates ∙ (ap Some is ∙ ap (λ o. Some (or_start o seed)) (sym none));
  others = others m n tenant (Some starts) updates;
}

pub removed : (m n : BTreeMap ℕ Lcg) (tenant : ℕ) → tree.Updates nat_cmp m n tenant None → IsRemoved tenant m.entries n.entries
removed m n tenant updates = record { own = own m n tenant None updates; others = others m n tenant None updates }

-- whether a key is the tenant's, as the map asks for it
abbrev is_tenants : ℕ → ℕ → Bool
is_tenants tenant other = is_eq (nat_cmp tenant other)

pub removed_is : (tenant : ℕ) (es : List TenantGenerator) → remove_entry (is_tenants tenant) es ≡ without tenant es
removed_is tenant es = ap (λ (test : ℕ → Bool). remove_entry test es) (fun_ext (λ other. sym (unsigned_ties tenant other)))

-- what is put where there was none is taken out again
undone_at : (tenant : ℕ) (g : Lcg) (es : List TenantGenerator) → lookup (is_tenants tenant) es ≡ None → remove_entry (is_tenants tenant) (tree.insert_entry nat_cmp es tenant g) ≡ es
undone_at tenant g [] none = let own : is_tenants tenant tenant ≡ true = grind (arith, nat_tests) in rw own refl
undone_at tenant g (e ∷ es) none = by (nat_cmp tenant e.0) refl (undone_at tenant g es)
  where
    by : (o : Ordering) → nat_cmp tenant e.0 ≡ o → (lookup (is_tenants tenant) es ≡ None → remove_entry (is_tenants tenant) (tree.insert_entry nat_cmp es tenant g) ≡ es)
        → remove_entry (is_tenants tenant) (match_ordering o ((tenant, g) ∷ e ∷ es) ((e.0, g) ∷ es) (e ∷ tree.insert_entry nat_cmp es tenant g)) ≡ e ∷ es
    by Less is rest = let own : is_tenants tenant tenant ≡ true = grind (arith, nat_tests) in rw own refl
    by Equal is rest =
        let here : is_tenants tenant e.0 ≡ true = ap is_eq is in
        let found : Some e.1 ≡ None = sym (ap (λ b. cond b (Some e.1) (lookup (is_tenants tenant) es)) here) ∙ none in
        absurd (cc)
    by Greater is rest =
        let other : is_tenants tenant e.0 ≡ false = ap is_eq is in
        let later : lookup (is_tenants tenant) es ≡ None = sym (ap (λ b. cond b (Some e.1) (lookup (is_tenants tenant) es)) other) ∙ none in
        rw other (ap (λ l. e ∷ l) (rest later))

pub undone : (m n : BTreeMap ℕ Lcg) (tenant : ℕ) (g : Lcg) → tree.get nat_cmp m tenant ≡ None → n.entries ≡ tree.insert_entry nat_cmp m.entries tenant g → without tenant n.entries ≡ m.entries
undone m n tenant g none is = ap (without tenant) is ∙ sym (removed_is tenant (tree.insert_entry nat_cmp m.entries tenant g)) ∙ undone_at tenant g m.entries none

-- what one tenant drew, and where its generator stands then
abbrev IsOwn : ℕ → List Drawn → List TenantGenerator → Lcg → Type 0
IsOwn tenant ds new g = (words_of tenant ds ≡ first_words (length (words_of tenant ds)) g) × (generator_of tenant new ≡ Some (after_words (length (words_of tenant ds)) g))

pub own_words : EachHasItsOwn
own_words tenant old new [] g draws is = (refl, ap (generator_of tenant) draws ∙ is)
own_words tenant old new (d ∷ ds) g draws is = by (d.0 == tenant) refl (λ h here. own_words tenant draws.0 new ds h draws.2 here)
  where
    by : (b : Bool) → eqb d.0 tenant ≡ b → ((h : Lcg) → generator_of tenant draws.0 ≡ Some h → IsOwn tenant ds new h)
        → (let ws : List ℕ = if b then d.1 ∷ words_of tenant ds else words_of tenant ds in (ws ≡ first_words (length ws) g) × (generator_of tenant new ≡ Some (after_words (length ws) g)))
    by true e goes =
        let mine : d.0 ≡ tenant = grind (arith, nat_tests) in
        let drawn : Some d.1 ≡ Some (next_word g) = draws.1.word_is ∙ ap (λ t. option_map next_word (generator_of t old)) mine ∙ ap (option_map next_word) is in
        let word : d.1 ≡ next_word g = cc in
        let here : generator_of tenant draws.0 ≡ Some (moved g) = ap (λ t. generator_of t draws.0) (sym mine) ∙ draws.1.own ∙ ap (λ t. option_map moved (generator_of t old)) mine ∙ ap (option_map moved) is in
        let rest = goes (moved g) here in
        ((λ i. word i ∷ rest.0 i), rest.1)
    by false e goes =
        let apart : tenant ≢ d.0 = λ same. let t : eqb d.0 tenant ≡ true = grind (arith, nat_tests, same) in absurd (cc) in
        goes g (draws.1.others tenant apart ∙ is)
