-- Tenants of settings have numbers below the next one, and what changes do to their numbers and names.
use Rattle.std.proofs.Common.{◌≡◌, ℕ, ◌+◌, ◌<◌, ◌==◌, Bool, true, false, cond, not, List, [], ◌∷◌, ◌++◌, map, filter, All, Some, None, Result, Ok, Err, option_map, refl, sym, ap, subst, ◌∙◌, arith}
use Rattle.std.specs.Prelude.{find}
use Rattle.std.proofs.lemmas.Bool.Decides.{nat_tests}
use Rattle.std.proofs.lemmas.List.{map-append, append-nil}
use Rattle.std.proofs.lemmas.List.Folds.{find-append}
use Rattle.std.proofs.lemmas.List.Elements.{All-head, All-tail, All-push, All-weaker, All-filter, filter-append}
use Rattle.tail_settings.specs.Change.{Change, admit, strike, joined, struck, admitted, or_before, changed, after}
use Rattle.tail_settings.specs.Fault.{FaultData}
use Rattle.tail_settings.specs.Settings.{TenantData, SettingsData, tenant_at}
use Rattle.tenant_registry.proofs.Admitted.{came_with}

-- no tenant has the next number or one behind it
abbrev pub AreBelow : SettingsData → Type 0
AreBelow s = All (λ t. t.number < s.next) s.tenants

-- a tenant's number and name
abbrev pub named : TenantData → ℕ × List ℕ
named t = (t.number, t.name)

none_yet : (n : ℕ) (ts : List TenantData) → All (λ t. t.number < n) ts → find (λ t. t.number == n) ts ≡ None
none_yet n [] all = refl
none_yet n (t ∷ ts) all =
    let here : t.number < n = All-head (λ (u : TenantData). u.number < n) t ts all in
    let other : (t.number == n) ≡ false = grind (arith, nat_tests) in
    rw other (none_yet n ts (All-tail (λ (u : TenantData). u.number < n) t ts all))

all_stay : (n : ℕ) (ts : List TenantData) → All (λ t. t.number < n) ts → filter (λ t. not (t.number == n)) ts ≡ ts
all_stay n [] all = refl
all_stay n (t ∷ ts) all =
    let here : t.number < n = All-head (λ (u : TenantData). u.number < n) t ts all in
    let other : (t.number == n) ≡ false = grind (arith, nat_tests) in
    rw other (ap (λ us. t ∷ us) (all_stay n ts (All-tail (λ (u : TenantData). u.number < n) t ts all)))

one_goes : (n : ℕ) (t : TenantData) → t.number ≡ n → filter (λ u. not (u.number == n)) (t ∷ []) ≡ []
one_goes n t is =
    let test : (t.number == n) ≡ true = grind (arith, nat_tests) in
    rw test refl

-- ---- one who comes

found_last : (s : SettingsData) (t : TenantData) → AreBelow s → t.number ≡ s.next → tenant_at (joined s t) s.next ≡ Some t
found_last s t below is =
    let test : (t.number == s.next) ≡ true = grind (arith, nat_tests) in
    rw (find-append (λ (u : TenantData). u.number == s.next) s.tenants (t ∷ []), none_yet s.next s.tenants below, test) refl

pub below_joined : (s : SettingsData) (t : TenantData) → AreBelow s → t.number ≡ s.next → AreBelow (joined s t)
below_joined s t below is =
    All-push (λ (u : TenantData). u.number < s.next + 1) s.tenants t
    (All-weaker (λ (u : TenantData). u.number < s.next) (λ (u : TenantData). u.number < s.next + 1) (λ u less. omega (arith, less)) s.tenants below)
    (omega (arith, is))

pair_is : (t : TenantData) (number : ℕ) (name : List ℕ) → t.number ≡ number → t.name ≡ name → named t ≡ (number, name)
pair_is t number name at called = cc

joined_last : (s : SettingsData) (t : TenantData) (number : ℕ) (name : List ℕ) → AreBelow s → t.number ≡ s.next → number ≡ s.next
    → option_map (λ (u : TenantData). u.name) (tenant_at (joined s t) number) ≡ Some name
    → map named (joined s t).tenants ≡ map named s.tenants ++ (number, name) ∷ []
joined_last s t number name below at is called =
    let there : option_map (λ (u : TenantData). u.name) (tenant_at (joined s t) s.next) ≡ Some name =
    subst (λ n. option_map (λ (u : TenantData). u.name) (tenant_at (joined s t) n) ≡ Some name) is called in
    let own : Some t.name ≡ Some name = rw (found_last s t below at) at there in
    let same : t.name ≡ name = cc in
    map-append named s.tenants (t ∷ []) ∙ ap (λ p. map named s.tenants ++ p ∷ []) (pair_is t number name (at ∙ sym is) same)

-- who was let in is the last
pub last_named : (s grown : SettingsData) (text : List ℕ) (number : ℕ) (name : List ℕ) → AreBelow s → admitted s text ≡ Ok grown → number ≡ s.next
    → option_map (λ (t : TenantData). t.name) (tenant_at grown number) ≡ Some name
    → map named grown.tenants ≡ map named s.tenants ++ (number, name) ∷ []
last_named s grown text number name below admits is called =
    let one = came_with s grown text admits in
    subst (λ (g : SettingsData). map named g.tenants ≡ map named s.tenants ++ (number, name) ∷ []) one.2
    (joined_last s one.0 number name below one.1 is
    (subst (λ (g : SettingsData). option_map (λ (t : TenantData). t.name) (tenant_at g number) ≡ Some name) (sym one.2) called))

-- and where that one is struck again the others are there
pub back_again : (s grown : SettingsData) (text : List ℕ) (number : ℕ) → AreBelow s → admitted s text ≡ Ok grown → number ≡ s.next
    → (struck grown number).tenants ≡ s.tenants
back_again s grown text number below admits is =
    let one = came_with s grown text admits in
    let t = one.0 in
    let gone : (struck (joined s t) s.next).tenants ≡ s.tenants =
    filter-append (λ (u : TenantData). not (u.number == s.next)) s.tenants (t ∷ [])
    ∙ ap (λ us. us ++ filter (λ (u : TenantData). not (u.number == s.next)) (t ∷ [])) (all_stay s.next s.tenants below)
    ∙ ap (λ us. s.tenants ++ us) (one_goes s.next t one.1) ∙ append-nil s.tenants in
    subst (λ (g : SettingsData). (struck g number).tenants ≡ s.tenants) one.2
    (subst (λ n. (struck (joined s t) n).tenants ≡ s.tenants) (sym is) gone)

-- ---- after changes

below_or_before : (s : SettingsData) (text : List ℕ) (r : Result SettingsData FaultData) → admitted s text ≡ r → AreBelow s → AreBelow (or_before s r)
below_or_before s text (Ok grown) is below =
    let one = came_with s grown text is in subst AreBelow one.2 (below_joined s one.0 below one.1)
below_or_before s text (Err fault) is below = below

below_changed : (s : SettingsData) (change : Change) → AreBelow s → AreBelow (changed s change)
below_changed s (admit text) below = below_or_before s text (admitted s text) refl below
below_changed s (strike number) below =
    All-filter (λ (t : TenantData). not (t.number == number)) (λ (t : TenantData). t.number < s.next) s.tenants below

pub are_below : (s : SettingsData) (changes : List Change) → AreBelow s → AreBelow (after s changes)
are_below s [] below = below
are_below s (change ∷ changes) below = are_below (changed s change) changes (below_changed s change below)

-- ---- one who goes

kept_or_not : (b : Bool) (x : TenantData) (rest : List TenantData) (others : List (ℕ × List ℕ)) → map named rest ≡ others
    → map named (cond (not b) (x ∷ rest) rest) ≡ cond (not b) (named x ∷ others) others
kept_or_not true x rest others is = is
kept_or_not false x rest others is = ap (λ ts. named x ∷ ts) is

pub named_without : (n : ℕ) (ts : List TenantData) → map named (filter (λ (t : TenantData). not (t.number == n)) ts)
    ≡ filter (λ (t : ℕ × List ℕ). not (t.0 == n)) (map named ts)
named_without n [] = refl
named_without n (t ∷ ts) = kept_or_not (t.number == n) t (filter (λ (u : TenantData). not (u.number == n)) ts) _ (named_without n ts)
