-- What the definitions of Route come to for a tenant's path, and those of TenantMetric and Service for the lists of all
-- figures and families, told as a whole: laws of this project's own rules, and of the format's where it is named.
use Rattle.std.specs.Prelude.{◌≡◌, ◌≢◌, ◌↔◌, ◌⊎◌, ◌++◌, ◌∷◌, ◌-◌, ◌==◌, ◌&&◌, ◌||◌, ℕ, Bool, true, List, [], codes, filter, map, length, drop, is_none, find, not, None}
use Rattle.std.specs.List.{list_all, list_any}
use Rattle.std.specs.Str.{bytes_eq}
use Rattle.admin_pages.specs.Route.{Tenant, Retire, route_of}
use Rattle.admin_pages.specs.Service.{service_families, service_helps}
use Rattle.admin_pages.specs.TenantMetric.{all_counters, all_others, help_of, kind_of, metric_of, word_of}
use Rattle.admin_pages.specs.declared.service.ServiceFigures.{ServiceFigures}
use Rattle.admin_pages.specs.declared.tenant_metric.MetricKind.{MetricKind}
use Rattle.admin_pages.specs.declared.tenant_metric.MetricKind.TheVariants.{Counter, Gauge}
use Rattle.admin_pages.specs.declared.tenant_metric.TenantMetric.{TenantMetric}

-- the path of the tenant of this name, which has a byte
pub record IsPathOf (name path : List ℕ) : Type 0 where
  pub spelled : path ≡ codes "/tenants/" ++ name
  pub named : name ≢ []

-- a tenant's figures are asked for by these methods at its path, and nowhere else
abbrev pub TenantsAreRead : Type 0
TenantsAreRead = (method path name : List ℕ) → (route_of method path ≡ Tenant name)
    ↔ ((method ≡ codes "GET") ⊎ (method ≡ codes "HEAD")) × IsPathOf name path

-- that it goes is asked for by this one at the same path, and nowhere else
abbrev pub TenantsAreRetired : Type 0
TenantsAreRetired = (method path name : List ℕ) → (route_of method path ≡ Retire name)
    ↔ (method ≡ codes "DELETE") × IsPathOf name path

-- the figures of which this is the text
abbrev pub figures_with : (TenantMetric → List ℕ) → List ℕ → List TenantMetric
figures_with text_of text = filter (λ figure. bytes_eq (text_of figure) text) (all_counters ++ all_others)

-- each figure stands in the lists once, and its word is no other's: nothing is told twice or left out
abbrev pub EachHasItsWord : Type 0
EachHasItsWord = (figure : TenantMetric) → figures_with word_of (word_of figure) ≡ figure ∷ []

-- and its metric's name is no other's (the MetricFamily names of a text in OpenMetrics 1.0 are unique)
abbrev pub EachHasItsName : Type 0
EachHasItsName = (figure : TenantMetric) → figures_with metric_of (metric_of figure) ≡ figure ∷ []

-- the names and the kinds of all families on the page that scrapers read, tenants' first
abbrev pub page_families : ServiceFigures → List (List ℕ × MetricKind)
page_families f =
    map (λ figure. (metric_of figure, kind_of figure)) (all_counters ++ all_others) ++ service_families f

-- whether none of these families has the name of a later one
abbrev pub have_own_names : List (List ℕ × MetricKind) → Bool
have_own_names [] = true
have_own_names (family ∷ families) =
    is_none (find (λ other. bytes_eq other.0 family.0) families) && have_own_names families

-- whether a name ends in `_total`
abbrev pub is_total : List ℕ → Bool
is_total name = bytes_eq (drop (length name - 6) name) (codes "_total")

-- whether a family's name ends so exactly where it is a counter's
abbrev pub is_named_by_kind : List ℕ × MetricKind → Bool
is_named_by_kind (name, Counter) = is_total name
is_named_by_kind (name, Gauge) = not (is_total name)

-- each family of the page has a name that no other has (OpenMetrics 1.0: MetricFamily names are unique)
abbrev pub NamesAreUnique : Type 0
NamesAreUnique = (f : ServiceFigures) → have_own_names (page_families f) ≡ true

-- and one that ends in `_total` exactly where it is a counter's (OpenMetrics 1.0, of counters' samples)
abbrev pub NamesShowKinds : Type 0
NamesShowKinds = (f : ServiceFigures) → find (λ family. not (is_named_by_kind family)) (page_families f) ≡ None

-- whether a help text has none of the two bytes that its line escapes, the line feed and the backslash (Prometheus'
-- text format 0.0.4)
abbrev pub is_plain_help : List ℕ → Bool
is_plain_help help = not (list_any (λ byte. byte == 10 || byte == 92) help)

-- each help text of tenants' metrics is such a one
abbrev pub TenantHelpsArePlain : Type 0
TenantHelpsArePlain = (figure : TenantMetric) → is_plain_help (help_of figure) ≡ true

-- and each of the whole service's
abbrev pub ServiceHelpsArePlain : Type 0
ServiceHelpsArePlain = (f : ServiceFigures) → list_all is_plain_help (service_helps f) ≡ true
