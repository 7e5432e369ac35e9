-- What is asked of a tenant, and where.
use Rattle.std.proofs.Common.{inl, inr, subst, ◌≡◌, ◌≢◌, ◌⊎◌, ◌++◌, ℕ, Bool, true, false, cond, ◌||◌, List, [], ◌∷◌, length, take, drop, refl, sym, ap, ◌∙◌, codes}
use Rattle.std.proofs.lemmas.List.{take-append-drop}
use Rattle.std.proofs.lemmas.Slice.Eq.{bytes_eq-Decides}
use Rattle.std.specs.Str.{bytes_eq}
use Rattle.admin_pages.specs.Route.{RouteData, Page, Metrics, Health, Readiness, Drain, Tenants, Add, Tenant, Retire, NoSuchPath, OtherMethod, reads, read_at, of_tenants, of_tenant, of_named, tenants_path, behind_tenants, of_drain, route_of}
use Rattle.admin_pages.specs.Law.{IsPathOf, TenantsAreRead, TenantsAreRetired}

-- none of the routes that aren't asked of one tenant
record IsOfOne (asked : RouteData) : Type 0 where
  pub page : Page ≢ asked
  pub metrics : Metrics ≢ asked
  pub health : Health ≢ asked
  pub readiness : Readiness ≢ asked
  pub drain : Drain ≢ asked
  pub tenants : Tenants ≢ asked
  pub add : Add ≢ asked
  pub nowhere : NoSuchPath ≢ asked
  pub method : (allow : List ℕ) → OtherMethod allow ≢ asked

tenant_is_one : (name : List ℕ) → IsOfOne (Tenant name)
tenant_is_one name = record {
  page = λ e. cc;
  metrics = λ e. cc;
  health = λ e. cc;
  readiness = λ e. cc;
  drain = λ e. cc;
  tenants = λ e. cc;
  add = λ e. cc;
  nowhere = λ e. cc;
  method = λ allow e. cc;
}

retire_is_one : (name : List ℕ) → IsOfOne (Retire name)
retire_is_one name = record {
  page = λ e. cc;
  metrics = λ e. cc;
  health = λ e. cc;
  readiness = λ e. cc;
  drain = λ e. cc;
  tenants = λ e. cc;
  add = λ e. cc;
  nowhere = λ e. cc;
  method = λ allow e. cc;
}

-- one of two that neither is the one that is asked for
both_differ : (b : Bool) (x y asked : RouteData) → x ≢ asked → y ≢ asked → cond b x y ≢ asked
both_differ true x y asked p q = p
both_differ false x y asked p q = q

-- the other one is
goes_on : (b : Bool) (x y asked : RouteData) → x ≢ asked → cond b x y ≡ asked → y ≡ asked
goes_on true x y asked p e = absurd (p e)
goes_on false x y asked p e = e

stops : (b : Bool) (x y asked : RouteData) → y ≢ asked → cond b x y ≡ asked → (b ≡ true) × (x ≡ asked)
stops true x y asked p e = (refl, e)
stops false x y asked p e = absurd (p e)

-- what is asked of one tenant is asked behind the path of all
behind : (method path : List ℕ) (asked : RouteData) → IsOfOne asked → route_of method path ≡ asked
    → behind_tenants method path ≡ asked
unfolding route_of
behind method path asked one e =
    let read : (x : RouteData) → x ≢ asked → read_at method x ≢ asked =
    λ x p. both_differ (reads method) x (OtherMethod (codes "GET, HEAD")) asked p (one.method (codes "GET, HEAD")) in
    let posts = bytes_eq method (codes "POST") in
    let of_all : of_tenants method ≢ asked =
    both_differ (reads method) Tenants (cond posts Add (OtherMethod (codes "GET, HEAD, POST"))) asked one.tenants
    (both_differ posts Add (OtherMethod (codes "GET, HEAD, POST")) asked one.add
    (one.method (codes "GET, HEAD, POST"))) in
    let of_whole : of_drain method ≢ asked =
    both_differ posts Drain (OtherMethod (codes "POST")) asked one.drain (one.method (codes "POST")) in
    goes_on (bytes_eq path (codes "/drain")) (of_drain method) _ asked of_whole
    (goes_on (bytes_eq path (codes "/tenants")) (of_tenants method) _ asked of_all
    (goes_on (bytes_eq path (codes "/readyz")) (read_at method Readiness) _ asked (read Readiness one.readiness)
    (goes_on (bytes_eq path (codes "/healthz")) (read_at method Health) _ asked (read Health one.health)
    (goes_on (bytes_eq path (codes "/metrics")) (read_at method Metrics) _ asked (read Metrics one.metrics)
    (goes_on (bytes_eq path (codes "/")) (read_at method Page) _ asked (read Page one.page) e)))))

-- where it is asked, and of which name
named : (method name : List ℕ) (asked : RouteData) → NoSuchPath ≢ asked → of_named method name ≡ asked
    → (name ≢ []) × (of_tenant method name ≡ asked)
named method [] asked p e = absurd (p e)
named method (byte ∷ bytes) asked p e = (λ q. cc, e)

at_path : (method path : List ℕ) (asked : RouteData) → IsOfOne asked → route_of method path ≡ asked
    → (name : List ℕ) × IsPathOf name path × (of_tenant method name ≡ asked)
at_path method path asked one e =
    let name = drop (length tenants_path) path in
    let s = stops (bytes_eq (take (length tenants_path) path) tenants_path) (of_named method name) NoSuchPath asked
    one.nowhere (behind method path asked one e) in
    let n = named method name asked one.nowhere s.1 in
    let front = (bytes_eq-Decides (take (length tenants_path) path) tenants_path).0 s.0 in
    let spelled : path ≡ tenants_path ++ name =
    sym (take-append-drop (length tenants_path) path) ∙ ap (λ t. t ++ name) front in
    (name, record { spelled = spelled; named = n.0 }, n.1)

-- the method by which it is asked
method_reads : (method : List ℕ) (is_get is_head : Bool) → bytes_eq method (codes "GET") ≡ is_get
    → bytes_eq method (codes "HEAD") ≡ is_head → (is_get || is_head) ≡ true
    → (method ≡ codes "GET") ⊎ (method ≡ codes "HEAD")
method_reads method true is_head g h e = inl ((bytes_eq-Decides method (codes "GET")).0 g)
method_reads method false true g h e = inr ((bytes_eq-Decides method (codes "HEAD")).0 h)
method_reads method false false g h e = cc

reads_tenant : (r d : Bool) (found name allow : List ℕ) → cond r (Tenant found) (cond d (Retire found) (OtherMethod allow)) ≡ Tenant name
    → (r ≡ true) × (found ≡ name)
reads_tenant true d found name allow e = (refl, cc)
reads_tenant false true found name allow e = cc
reads_tenant false false found name allow e = cc

retires_tenant : (r d : Bool) (found name allow : List ℕ) → cond r (Tenant found) (cond d (Retire found) (OtherMethod allow)) ≡ Retire name
    → (d ≡ true) × (found ≡ name)
retires_tenant true d found name allow e = cc
retires_tenant false true found name allow e = (refl, cc)
retires_tenant false false found name allow e = cc

-- and the other way round
asked_at : (method path name : List ℕ) → IsPathOf name path → route_of method path ≡ of_tenant method name
unfolding route_of
asked_at method path [] h = absurd (h.named refl)
asked_at method path (byte ∷ bytes) h = rw h.spelled refl

read_by : (method name : List ℕ) → (method ≡ codes "GET") ⊎ (method ≡ codes "HEAD") → of_tenant method name ≡ Tenant name
read_by method name (inl e) = rw e refl
read_by method name (inr e) = rw e refl

pub tenants_are_read : TenantsAreRead
tenants_are_read method path name = (
  λ e.
      let a = at_path method path (Tenant name) (tenant_is_one name) e in
      let t = reads_tenant (reads method) (bytes_eq method (codes "DELETE")) a.0 name (codes "GET, HEAD, DELETE") a.2 in
      (method_reads method _ _ refl refl t.0, subst (λ (x : List ℕ). IsPathOf x path) t.1 a.1),
  λ h. asked_at method path name h.1 ∙ read_by method name h.0,
)

pub tenants_are_retired : TenantsAreRetired
tenants_are_retired method path name = (
  λ e.
      let a = at_path method path (Retire name) (retire_is_one name) e in
      let t = retires_tenant (reads method) (bytes_eq method (codes "DELETE")) a.0 name (codes "GET, HEAD, DELETE") a.2 in
      ((bytes_eq-Decides method (codes "DELETE")).0 t.0, subst (λ (x : List ℕ). IsPathOf x path) t.1 a.1),
  λ h. asked_at method path name h.1 ∙ rw h.0 refl,
)
