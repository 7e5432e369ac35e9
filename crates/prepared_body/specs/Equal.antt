-- When bodies that were read are equal. This project's own rule.
use Rattle.std.specs.Prelude.{ℕ, ℤ, pos, negsuc, Bool, List, [], ◌∷◌, map, nat_eq}
use Rattle.std.specs.Cmp.{IsPartialEquivalence, partial_equiv_from_equiv, on_per, and_per, nat_eq_equiv}
use Rattle.std.specs.Cmp.Lexicographic.{pointwise, lists_per}
use Rattle.std.specs.Ordering.{on, eq_of_both}
use Rattle.tail_settings.specs.Policy.{StatusData, unset, ok, error, LeafData, always_sample, latency, status_code, string_attribute, numeric_attribute, PolicyData, leaf, and}
use Rattle.span_pool.specs.Stored.{same_bytes}
use Rattle.span_pool.specs.Equal.{origin_eq, bytes_laws, origin_laws}
use Rattle.tenant_rules.specs.Arrivals.{Arrival}
use Rattle.prepared_body.specs.Origin.{OriginTexts}
use Rattle.prepared_body.specs.Arrivals.{origin_view}
use Rattle.prepared_body.specs.Prepared.{PreparedData}

-- the same resource and scope with the same schemas, whose URLs may be missing or empty
abbrev pub same_origin : OriginTexts → OriginTexts → Bool
same_origin = on origin_view origin_eq

-- which is symmetric and transitive
pub same_origin_laws : IsPartialEquivalence same_origin
same_origin_laws = on_per origin_view origin_laws

-- the same text and the same origin
abbrev pub arrival_eq : Arrival → Arrival → Bool
arrival_eq = eq_of_both (on (λ a. a.text) same_bytes) (on (λ a. a.origin) origin_eq)

-- a status code's number in OTLP (Status.StatusCode)
abbrev pub status_number : StatusData → ℕ
status_number unset = 0
status_number ok = 1
status_number error = 2

-- a whole number: whether it is negative, and how far it is from 0 or -1
abbrev pub signed : ℤ → List ℕ
signed (pos n) = 0 ∷ n ∷ []
signed (negsuc n) = 1 ∷ n ∷ []

-- the kind of a policy that holds no other, and then what it says, so that policies that differ have parts that differ
abbrev pub leaf_parts : LeafData → List (List ℕ)
leaf_parts always_sample = (0 ∷ []) ∷ []
leaf_parts (latency threshold) = (1 ∷ []) ∷ (threshold ∷ []) ∷ []
leaf_parts (status_code codes) = (2 ∷ []) ∷ map status_number codes ∷ []
leaf_parts (string_attribute key values) = (3 ∷ []) ∷ key ∷ values
leaf_parts (numeric_attribute key low high) = (4 ∷ []) ∷ key ∷ signed low ∷ signed high ∷ []

-- whether a policy holds others, and then the parts of those that hold none
abbrev pub policy_parts : PolicyData → List (List (List ℕ))
policy_parts (leaf l) = [] ∷ leaf_parts l ∷ []
policy_parts (and ls) = ([] ∷ []) ∷ map leaf_parts ls

-- the same parts
abbrev pub policy_eq : PolicyData → PolicyData → Bool
policy_eq = on policy_parts (pointwise (pointwise same_bytes))

-- the same policies in the same order
abbrev pub same_policies : List PolicyData → List PolicyData → Bool
same_policies = pointwise policy_eq

-- the same tenant, the same policies in the same order
abbrev pub same_tenant : PreparedData → PreparedData → Bool
same_tenant = eq_of_both (on (λ p. p.tenant) nat_eq) (on (λ p. p.policies) same_policies)

-- and as many spans that aren't valid
abbrev pub same_front : PreparedData → PreparedData → Bool
same_front = eq_of_both (on (λ p. p.invalid) nat_eq) same_tenant

-- and the same spans in the same order
abbrev pub prepared_eq : PreparedData → PreparedData → Bool
prepared_eq = eq_of_both same_front (on (λ p. p.arrivals) (pointwise arrival_eq))

-- which is symmetric and transitive
pub arrival_laws : IsPartialEquivalence arrival_eq
arrival_laws = and_per (on_per (λ a. a.text) bytes_laws) (on_per (λ a. a.origin) origin_laws)

policy_laws : IsPartialEquivalence policy_eq
policy_laws = on_per policy_parts (lists_per (lists_per bytes_laws))

tenant_laws : IsPartialEquivalence same_tenant
tenant_laws =
    and_per (on_per (λ p. p.tenant) (partial_equiv_from_equiv nat_eq_equiv))
    (on_per (λ p. p.policies) (lists_per policy_laws))

-- which is symmetric and transitive
pub prepared_laws : IsPartialEquivalence prepared_eq
prepared_laws =
    and_per (and_per (on_per (λ p. p.invalid) (partial_equiv_from_equiv nat_eq_equiv)) tenant_laws)
    (on_per (λ p. p.arrivals) (lists_per arrival_laws))
