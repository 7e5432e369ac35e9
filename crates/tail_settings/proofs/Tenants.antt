-- A map of tenants by name, beside the list of tenants that it stands for.
use Rattle.std.proofs.Common.{◌≡◌, ℕ, ◌+◌, Bool, cond, List, [], ◌∷◌, ◌++◌, map, refl, ap, sym, ◌∙◌, length, String, Global, string_bytes, Option, Some, Ok, Err, ◌||◌, true, false}
use Rattle.std.specs.Prelude.{is_some, option_map, find, sum, sum_by}
use Rattle.std.specs.List.{list_any}
use Rattle.std.specs.Map.{keys_of, values_of, lookup}
use Rattle.std.specs.Str.{bytes_eq}
use Rattle.std.proofs.lemmas.List.{map-append}
use Rattle.std.proofs.lemmas.List.Sums.{sum-map, sum_by-cons}
use Rattle.std.proofs.lemmas.Map.Made.{is_some-lookup}
use Rattle.toml.specs.Data.{Members}
use Rattle.tail_settings.specs.declared.tenant.Tenant.{Tenant}
use Rattle.tail_settings.specs.Fault.{double_tenant}
use Rattle.tail_settings.specs.Settings.{TenantData, tenant_view, new_name, numbered_tenant, with_tenant, spans_of}

abbrev pub Entry : Type 0
Entry = String Global × Tenant

abbrev pub Entries : Type 0
Entries = List Entry

found : (b : Bool) (t : Tenant) (e : TenantData) (o : Option Tenant) (p : Option TenantData) → t.number ≡ e.number → option_map (λ (t : Tenant). t.number) o ≡ option_map (λ (t : TenantData). t.number) p
    → option_map (λ (t : Tenant). t.number) (cond b (Some t) o) ≡ option_map (λ (t : TenantData). t.number) (cond b (Some e) p)
found true t e o p here rest = ap Some here
found false t e o p here rest = rest

-- the number at a name in the map is that of the tenant of this name
pub number-name : (bs : List ℕ) (es : Entries) → option_map (λ (t : Tenant). t.number) (lookup (λ k. bytes_eq bs (string_bytes k)) es) ≡ option_map (λ (t : TenantData). t.number) (find (λ t. bytes_eq bs t.name) (map tenant_view es))
number-name bs [] = refl
number-name bs (e ∷ es) = found (bytes_eq bs (string_bytes e.0)) e.1 (tenant_view e) _ _ refl (number-name bs es)

list_any-name : (bs : List ℕ) (es : Entries) → list_any (λ k. bytes_eq bs (string_bytes k)) (keys_of es) ≡ list_any (λ t. bytes_eq bs t.name) (map tenant_view es)
list_any-name bs [] = refl
list_any-name bs (e ∷ es) = ap (λ b. bytes_eq bs (string_bytes e.0) || b) (list_any-name bs es)

-- a name is known to the map where a tenant has it
is_some-lookup-name : (bs : List ℕ) (es : Entries) → is_some (lookup (λ k. bytes_eq bs (string_bytes k)) es) ≡ list_any (λ t. bytes_eq bs t.name) (map tenant_view es)
is_some-lookup-name bs es = is_some-lookup (λ k. bytes_eq bs (string_bytes k)) es ∙ list_any-name bs es

pub new_name-known : (bs : List ℕ) (es : Entries) → true ≡ is_some (lookup (λ k. bytes_eq bs (string_bytes k)) es) → new_name (map tenant_view es) bs ≡ Err (double_tenant bs)
new_name-known bs es h = rw (sym (is_some-lookup-name bs es) ∙ sym h)

pub new_name-new : (bs : List ℕ) (es : Entries) → false ≡ is_some (lookup (λ k. bytes_eq bs (string_bytes k)) es) → new_name (map tenant_view es) bs ≡ Ok bs
new_name-new bs es h = rw (sym (is_some-lookup-name bs es) ∙ sym h)

-- a tenant behind the others
pub with_tenant-read : (es : Entries) (table : Members) (k : String Global) (t : Tenant) → numbered_tenant (length (map tenant_view es)) (map tenant_view es) table ≡ Ok (tenant_view (k, t))
    → with_tenant (map tenant_view es) table ≡ Ok (map tenant_view (es ++ (k, t) ∷ []))
with_tenant-read es table k t h = rw (h, map-append tenant_view es ((k, t) ∷ []))

sum_by-map : {X Y : Type 0} (h : X → Y) (f : Y → ℕ) (xs : List X) → sum_by f (map h xs) ≡ sum_by (λ x. f (h x)) xs
sum_by-map h f [] = refl
sum_by-map h f (x ∷ xs) = sum_by-cons f (h x) (map h xs) ∙ ap (λ n. f (h x) + n) (sum_by-map h f xs) ∙ sym (sum_by-cons (λ y. f (h y)) x xs)

-- the spans of all tenants are those of the entries, and those of the sections alone
pub spans_of-entries : (es : Entries) → sum_by (λ (e : Entry). e.1.section.max_spans) es ≡ spans_of (map tenant_view es)
spans_of-entries es = sym (sum_by-map tenant_view (λ t. t.section.max_spans) es)

pub sum-sections : (es : Entries) → sum (map (λ (t : Tenant). t.section.max_spans) (values_of es)) ≡ sum_by (λ (e : Entry). e.1.section.max_spans) es
sum-sections es = sum-map (λ (t : Tenant). t.section.max_spans) (values_of es) ∙ sum_by-map (λ (e : Entry). e.1) (λ (t : Tenant). t.section.max_spans) es
