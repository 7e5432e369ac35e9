-- The consumers of all tenants, as a sum over a map of tenants by name.
use Rattle.std.proofs.Common.{◌≡◌, ℕ, ◌+◌, List, [], ◌∷◌, map, String, Global, refl, ap, sym, ◌∙◌}
use Rattle.std.specs.Prelude.{sum, sum_by}
use Rattle.std.specs.Map.{values_of}
use Rattle.std.proofs.lemmas.List.Sums.{sum-map, sum_by-cons}
use Rattle.tail_settings.specs.declared.tenant.Tenant.{Tenant}
use Rattle.tail_settings.specs.Settings.{TenantData, tenant_view}
use Rattle.settings_check.specs.Doubts.{consumers_of}

sum_by-map : {X Y : Type 0} (h : X → Y) (f : Y → ℕ) (xs : List X) → sum_by f (map h xs) ≡ sum_by (λ x. f (h x)) xs
sum_by-map h f [] = refl
sum_by-map h f (x ∷ xs) = sum_by-cons f (h x) (map h xs) ∙ ap (λ n. f (h x) + n) (sum_by-map h f xs) ∙ sym (sum_by-cons (λ y. f (h y)) x xs)

pub sum-consumers : (es : List (String Global × Tenant)) → sum (map (λ (t : Tenant). t.section.sending_queue.num_consumers) (values_of es)) ≡ consumers_of (map tenant_view es)
sum-consumers es =
    sum-map (λ (t : Tenant). t.section.sending_queue.num_consumers) (values_of es)
    ∙ sum_by-map (λ (e : String Global × Tenant). e.1) (λ (t : Tenant). t.section.sending_queue.num_consumers) es
    ∙ sym (sum_by-map tenant_view (λ (t : TenantData). t.section.sending_queue.num_consumers) es)
