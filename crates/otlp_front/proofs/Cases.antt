-- The rules one after another, and all of them together.
use Rattle.std.proofs.Common.{◌≡◌, ℕ, Bool, true, false, cond, not, List, [], ◌∷◌, Option, Some, None, option_and_then, refl, codes}
use Rattle.std.proofs.lemmas.Slice.Eq.{bytes_eq-Decides}
use Rattle.http1.specs.Fields.{Header, values_named}
use Rattle.http1.specs.Text.{eq_ignore_case}
use Rattle.http_edge.specs.Message.{Request, Response}
use Rattle.http_edge.specs.Fields.{single, field, only}
use Rattle.otlp_front.specs.Target.{path_of, is_for_traces}
use Rattle.otlp_front.specs.Fields.{media_type, is_protobuf, has_protobuf, are_plain}
use Rattle.otlp_front.specs.Route.{Names, Route, post, refuse, no_such_path, method_not_allowed, unsupported_type, unsupported_encoding, is_post, number_of, tenant_in, route_to, route_of}
use Rattle.otlp_front.specs.Passes.{IsPostTo, PostsPass}

-- two tests, and what comes after them
tests_passed : (p m : Bool) (a b : Response) (rest : Route) (t : ℕ)
    → cond (not p) (refuse a) (cond (not m) (refuse b) rest) ≡ post t → (p ≡ true) × (m ≡ true) × (rest ≡ post t)
tests_passed false m a b rest t e = cc
tests_passed true false a b rest t e = cc
tests_passed true true a b rest t e = (refl, refl, e)

tests_pass : (p m : Bool) (a b : Response) (rest : Route) (t : ℕ) → p ≡ true → m ≡ true → rest ≡ post t
    → cond (not p) (refuse a) (cond (not m) (refuse b) rest) ≡ post t
tests_pass p m a b rest t x y e = rw (x, y) e

same_number : (n t : ℕ) → post n ≡ post t → Some n ≡ Some t
same_number n t e = cc

tenant_found : (hs : List Header) (o : Option ℕ) (t : ℕ) → route_to hs o ≡ post t → (o ≡ Some t)
    × (has_protobuf hs ≡ true) × (are_plain hs ≡ true)
tenant_found hs None t e = cc
tenant_found hs (Some n) t e =
    let p = tests_passed (has_protobuf hs) (are_plain hs) unsupported_type unsupported_encoding (post n) t e in (
      same_number n t p.2,
      p.0,
      p.1,
    )

-- the one value, and what it gives
name_found : (f : List ℕ → Option ℕ) (vs : List (List ℕ)) (t : ℕ) → option_and_then f (only (single vs)) ≡ Some t
    → (name : List ℕ) × (vs ≡ name ∷ []) × (f name ≡ Some t)
name_found f [] t e = cc
name_found f (v ∷ []) t e = (v, refl, e)
name_found f (v ∷ w ∷ vs) t e = cc

type_found : (vs : List (List ℕ)) → is_protobuf (only (single vs)) ≡ true → (type : List ℕ) × (vs ≡ type ∷ [])
    × (eq_ignore_case (media_type type) (codes "application/x-protobuf") ≡ true)
type_found [] e = cc
type_found (v ∷ []) e = (v, refl, e)
type_found (v ∷ w ∷ vs) e = cc

passes : (names : Names) (r : Request) (t : ℕ) → route_of names r ≡ post t → IsPostTo names r t
unfolding route_of field
passes names r t e =
    let p = tests_passed (is_for_traces r.target) (is_post r.method) no_such_path method_not_allowed
    (route_to r.headers (tenant_in names r.headers)) t e in
    let q = tenant_found r.headers (tenant_in names r.headers) t p.2 in
    let n = name_found (number_of names.tenants) (values_named names.header r.headers) t q.0 in
    let y = type_found (values_named (codes "content-type") r.headers) q.1 in
    record {
      path = (bytes_eq-Decides (path_of r.target) (codes "/v1/traces")).0 p.0;
      method = (bytes_eq-Decides r.method (codes "POST")).0 p.1;
      name = n.0;
      named = n.1;
      known = n.2;
      type = y.0;
      typed = y.1;
      protobuf = y.2;
      plain = q.2;
    }

posted : (names : Names) (r : Request) (t : ℕ) → IsPostTo names r t → route_of names r ≡ post t
unfolding route_of field
posted names r t h =
    tests_pass (is_for_traces r.target) (is_post r.method) no_such_path method_not_allowed
    (route_to r.headers (tenant_in names r.headers)) t
    ((bytes_eq-Decides (path_of r.target) (codes "/v1/traces")).1 h.path)
    ((bytes_eq-Decides r.method (codes "POST")).1 h.method)
    (rw (h.named, h.known) (tests_pass (has_protobuf r.headers) (are_plain r.headers) unsupported_type
    unsupported_encoding (post t) t (rw h.typed h.protobuf) h.plain refl))

pub posts_pass : PostsPass
posts_pass names r t = (passes names r t, posted names r t)
