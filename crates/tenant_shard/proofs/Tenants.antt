-- The tenants of a shard, one after another.
use Rattle.std.proofs.Common.{◌≡◌, ℕ, ◌%◌, ◌&&◌, ◌||◌, List, [], ◌∷◌, map, filter, Bool, true, false, eqb, cond, Option, Some, None, refl, ap, sym, ◌∙◌, String, Global}
use Rattle.std.specs.Prelude.{find, is_some, option_map}
use Rattle.std.specs.List.{list_any}
use Rattle.std.specs.Map.{values_of}
use Rattle.std.proofs.lemmas.Bool.{eqb-true}
use Rattle.tail_settings.specs.declared.tenant.Tenant.{Tenant}
use Rattle.tail_settings.specs.Settings.{TenantData, tenant_view, section_at}
use Rattle.tenant_shard.specs.Table.{EachInItsShard}

-- ---- who is among them

abbrev is_in : ℕ → List ℕ → Bool
is_in tenant members = list_any (λ member. eqb member tenant) members

both_false : (b : Bool) → (b && false) ≡ false
both_false true = refl
both_false false = refl

module _ (p : ℕ → Bool) (tenant : ℕ) where
  next_in : (t : TenantData) (o : Option TenantData) (rest : List ℕ) (b c : Bool) → eqb t.number tenant ≡ b → p t.number ≡ c → is_in tenant rest ≡ (is_some o && p tenant)
      → is_in tenant (cond c (t.number ∷ rest) rest) ≡ (is_some (cond b (Some t) o) && p tenant)
  next_in t o rest true true own passes before =
      ap (λ x. x || is_in tenant rest) own ∙ sym (ap p (sym (eqb-true t.number tenant own)) ∙ passes)
  next_in t o rest true false own passes before =
      let none : p tenant ≡ false = ap p (sym (eqb-true t.number tenant own)) ∙ passes in
      before ∙ ap (λ x. is_some o && x) none ∙ both_false (is_some o) ∙ sym none
  next_in t o rest false true own passes before = ap (λ x. x || is_in tenant rest) own ∙ before
  next_in t o rest false false own passes before = before

  -- who stands in the table and passes
  are_in : (ts : List TenantData) → is_in tenant (filter p (map (λ t. t.number) ts)) ≡ (is_some (find (λ t. eqb t.number tenant) ts) && p tenant)
  are_in [] = refl
  are_in (t ∷ ts) =
      next_in t (find (λ t. eqb t.number tenant) ts) (filter p (map (λ t. t.number) ts)) (eqb t.number tenant) (p t.number) refl refl (are_in ts)

section_if : (o : Option TenantData) (b : Bool) → cond (is_some o && b) (option_map (λ t. t.section) o) None ≡ cond b (option_map (λ t. t.section) o) None
section_if None true = refl
section_if None false = refl
section_if (Some t) b = refl

pub in_its_shard : EachInItsShard
in_its_shard table shard tenant =
    ap (λ b. cond b (section_at table tenant) None) (are_in (λ number. eqb (number % table.global.shards) shard) tenant table.tenants)
    ∙ section_if (find (λ t. eqb t.number tenant) table.tenants) (eqb (tenant % table.global.shards) shard)

-- ---- one tenant more

pub numbers_of-entries : (es : List (String Global × Tenant)) → map (λ (t : TenantData). t.number) (map tenant_view es) ≡ map (λ (t : Tenant). t.number) (values_of es)
numbers_of-entries [] = refl
numbers_of-entries (e ∷ es) = ap (λ ns. e.1.number ∷ ns) (numbers_of-entries es)
