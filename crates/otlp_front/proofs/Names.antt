-- Tenants by name, and names that are no texts.
use Rattle.std.proofs.Common.{◌≡◌, ℕ, Bool, true, false, cond, List, [], ◌∷◌, map, Option, Some, None, refl, sym, subst, String, Global, string_bytes}
use Rattle.std.specs.Prelude.{option_map, find}
use Rattle.std.specs.Str.{IsUtf8, bytes_eq}
use Rattle.std.proofs.lemmas.Str.{IsUtf8-string_bytes}
use Rattle.std.proofs.lemmas.Slice.Eq.{bytes_eq-Decides}
use Rattle.tail_settings.specs.declared.tenant.Tenant.{Tenant}
use Rattle.tail_settings.specs.Settings.{TenantData, tenant_view}
use Rattle.otlp_front.specs.Route.{number_of}

found : (b : Bool) (t : TenantData) (o : Option TenantData) (p : Option (ℕ × List ℕ)) → option_map (λ (u : TenantData). u.number) o ≡ option_map (λ (u : ℕ × List ℕ). u.0) p
    → option_map (λ (u : TenantData). u.number) (cond b (Some t) o) ≡ option_map (λ (u : ℕ × List ℕ). u.0) (cond b (Some (t.number, t.name)) p)
found true t o p h = refl
found false t o p h = h

-- a tenant's number stands beside its name
pub number_by_name : (bs : List ℕ) (ts : List TenantData) → option_map (λ (t : TenantData). t.number) (find (λ (t : TenantData). bytes_eq bs t.name) ts)
    ≡ number_of (map (λ (t : TenantData). (t.number, t.name)) ts) bs
number_by_name bs [] = refl
number_by_name bs (t ∷ ts) = found (bytes_eq bs t.name) t _ _ (number_by_name bs ts)

other_text : (bs : List ℕ) (s : String Global) (b : Bool) → ¬ (IsUtf8 bs) → bytes_eq bs (string_bytes s) ≡ b → b ≡ false
other_text bs s false n e = refl
other_text bs s true n e =
    absurd (n (subst IsUtf8 (sym ((bytes_eq-Decides bs (string_bytes s)).0 e)) (IsUtf8-string_bytes s)))

-- bytes that are no text are no string's
other : (bs : List ℕ) (s : String Global) → ¬ (IsUtf8 bs) → bytes_eq bs (string_bytes s) ≡ false
other bs s n = other_text bs s (bytes_eq bs (string_bytes s)) n refl

-- bytes that are no text name nobody
pub no_number : (bs : List ℕ) (es : List (String Global × Tenant)) → ¬ (IsUtf8 bs)
    → None ≡ number_of (map (λ (t : TenantData). (t.number, t.name)) (map tenant_view es)) bs
no_number bs [] n = refl
no_number bs (e ∷ es) n = rw (other bs e.0 n) (no_number bs es n)
