-- What a post is, told as a whole and not in the order of the rules. The rules are those of Route, after OTLP/HTTP
-- Request and RFC 9110.
use Rattle.std.specs.Prelude.{◌≡◌, ◌↔◌, ℕ, List, [], ◌∷◌, Some, codes, IsTrue}
use Rattle.http1.specs.Text.{eq_ignore_case}
use Rattle.http1.specs.Fields.{values_named}
use Rattle.http_edge.specs.Message.{Request}
use Rattle.otlp_front.specs.Target.{path_of}
use Rattle.otlp_front.specs.Fields.{media_type, are_plain}
use Rattle.otlp_front.specs.Route.{Names, post, number_of, route_of}

-- the request is a post to the tenant of this number, whose name stands in the one field that names a tenant
pub record IsPostTo (names : Names) (request : Request) (tenant : ℕ) : Type 0 where
  pub path : path_of request.target ≡ codes "/v1/traces"
  pub method : request.method ≡ codes "POST"
  pub name : List ℕ
  pub named : values_named names.header request.headers ≡ name ∷ []
  pub known : number_of names.tenants name ≡ Some tenant
  pub type : List ℕ
  pub typed : values_named (codes "content-type") request.headers ≡ type ∷ []
  pub protobuf : IsTrue (eq_ignore_case (media_type type) (codes "application/x-protobuf"))
  pub plain : IsTrue (are_plain request.headers)

-- the requests that go to a tenant are those that pass every rule
abbrev pub PostsPass : Type 0
PostsPass = (names : Names) (request : Request) (tenant : ℕ) → (route_of names request ≡ post tenant)
    ↔ IsPostTo names request tenant
