-- What an operator asks for, by method and path. Paths are this project's own; what a method may do is RFC 9110's
-- (section 9.3), and which methods a 405 names is section 15.5.6.
use Rattle.std.specs.Prelude.{ℕ, Bool, ◌||◌, List, [], ◌∷◌, length, drop, take, if◌then◌else◌, codes}
use Rattle.std.specs.Str.{bytes_eq}
use Rattle.admin_pages.specs.declared.route.AdminRoute.{AdminRoute as RouteCode}
use Rattle.admin_pages.specs.declared.route.AdminRoute.TheVariants as code

-- what is asked for
pub data RouteData : Type 0 where
  -- the page to look at
  Page : RouteData
  -- all figures, for a scraper
  Metrics : RouteData
  -- whether the service runs
  Health : RouteData
  -- whether it takes spans
  Readiness : RouteData
  -- that it ends in order
  Drain : RouteData
  -- all tenants' figures
  Tenants : RouteData
  -- that a tenant comes, whose document is the body
  Add : RouteData
  -- the figures of the tenant of this name
  Tenant : List ℕ → RouteData
  -- that the tenant of this name goes
  Retire : List ℕ → RouteData
  -- nothing is at the path
  NoSuchPath : RouteData
  -- there is, and these methods are the ones that it takes
  OtherMethod : List ℕ → RouteData

-- a page is asked for by GET, or by HEAD, whose reply has no body (section 9.3.2)
abbrev pub reads : List ℕ → Bool
reads method = bytes_eq method (codes "GET") || bytes_eq method (codes "HEAD")

-- what is read at a path that takes nothing else
abbrev pub read_at : List ℕ → RouteData → RouteData
read_at method asked = if reads method then asked else OtherMethod (codes "GET, HEAD")

-- what is asked of all tenants
abbrev pub of_tenants : List ℕ → RouteData
of_tenants method =
    if reads method then Tenants
    else if bytes_eq method (codes "POST") then Add else OtherMethod (codes "GET, HEAD, POST")

-- what is asked of the tenant of a name
abbrev pub of_tenant : List ℕ → List ℕ → RouteData
of_tenant method name =
    if reads method then Tenant name
    else if bytes_eq method (codes "DELETE") then Retire name else OtherMethod (codes "GET, HEAD, DELETE")

-- what is asked of what stands behind the path of all tenants: of a tenant, where that is a byte or more
abbrev pub of_named : List ℕ → List ℕ → RouteData
of_named method [] = NoSuchPath
of_named method (byte ∷ bytes) = of_tenant method (byte ∷ bytes)

-- the path of all tenants, behind which a tenant's name stands
abbrev pub tenants_path : List ℕ
tenants_path = codes "/tenants/"

-- what is asked for at such a path
abbrev pub behind_tenants : List ℕ → List ℕ → RouteData
behind_tenants method path =
    if bytes_eq (take (length tenants_path) path) tenants_path then of_named method (drop (length tenants_path) path)
    else NoSuchPath

-- what is asked of the whole service
abbrev pub of_drain : List ℕ → RouteData
of_drain method = if bytes_eq method (codes "POST") then Drain else OtherMethod (codes "POST")

-- what is asked for by a method at a path, byte for byte
unfoldable pub route_of : List ℕ → List ℕ → RouteData
route_of method path =
    if bytes_eq path (codes "/") then read_at method Page
    else if bytes_eq path (codes "/metrics") then read_at method Metrics
    else if bytes_eq path (codes "/healthz") then read_at method Health
    else if bytes_eq path (codes "/readyz") then read_at method Readiness
    else if bytes_eq path (codes "/tenants") then of_tenants method
    else if bytes_eq path (codes "/drain") then of_drain method
    else behind_tenants method path

-- what a route of the code stands for
abbrev pub route_view : RouteCode → RouteData
route_view code.Page = Page
route_view code.Metrics = Metrics
route_view code.Health = Health
route_view code.Readiness = Readiness
route_view code.Drain = Drain
route_view code.Tenants = Tenants
route_view code.Add = Add
route_view (code.Tenant name) = Tenant name.now
route_view (code.Retire name) = Retire name.now
route_view code.NoSuchPath = NoSuchPath
route_view (code.OtherMethod allow) = OtherMethod allow.now
