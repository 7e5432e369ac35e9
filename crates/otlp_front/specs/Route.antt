-- Which tenant a request is for, and why one is for none. The first rule that fails settles the answer, in this order:
-- path, method, tenant, content type, content encoding. Paths and methods are of OTLP/HTTP (OTLP/HTTP Request), content
-- and codings of RFC 9110, sections 8.3 and 8.4; the field that names a tenant, and the order, are this project's own
-- rule.
use Rattle.std.specs.Prelude.{ℕ, Bool, not, List, map, find, Option, Some, None, option_map, option_and_then, if◌then◌else◌, codes, bytes_eq}
use Rattle.http1.specs.Fields.{Header}
use Rattle.http_edge.specs.Message.{Request, Response}
use Rattle.http_edge.specs.Reply.{status_body}
use Rattle.http_edge.specs.declared.message.Allow.TheVariants as methods
use Rattle.http_edge.specs.declared.message.MediaType.TheVariants.{Protobuf}
use Rattle.http_edge.specs.Fields.{field, only}
use Rattle.tail_settings.specs.Settings.{SettingsData}
use Rattle.otlp_front.specs.Target.{is_for_traces}
use Rattle.otlp_front.specs.Fields.{has_protobuf, are_plain}

-- what of the settings a route depends on: the name of the field that names a tenant, and the tenants' numbers and
-- names
pub record Names : Type 0 where
  pub header : List ℕ
  pub tenants : List (ℕ × List ℕ)

-- those of some settings
abbrev pub names_in : SettingsData → Names
names_in s = record { header = s.global.tenant_header; tenants = map (λ t. (t.number, t.name)) s.tenants }

-- where a request goes: to the tenant of this number, or nowhere, with this answer
pub data Route : Type 0 where
  post : ℕ → Route
  refuse : Response → Route

-- a refusal: OTLP/HTTP has a `google.rpc.Status` in each
abbrev pub refused : ℕ → List ℕ → Response
refused status message = record { status = status; media = Protobuf; allow = methods.Post; body = status_body message }

-- the path is none to which anything is posted (404, RFC 9110, section 15.5.5)
abbrev pub no_such_path : Response
no_such_path = refused 404 (codes "no such path")

-- the method isn't POST (405, RFC 9110, section 15.5.6)
abbrev pub method_not_allowed : Response
method_not_allowed = refused 405 (codes "method not allowed")

-- no field names the tenant, more than one does, or there is no tenant of that name (403, RFC 9110, section 15.5.4)
abbrev pub unknown_tenant : Response
unknown_tenant = refused 403 (codes "unknown tenant")

-- the content isn't in Protocol Buffers' encoding (415, RFC 9110, section 15.5.16)
abbrev pub unsupported_type : Response
unsupported_type = refused 415 (codes "unsupported content type")

-- the content is compressed (415, RFC 9110, section 15.5.16)
abbrev pub unsupported_encoding : Response
unsupported_encoding = refused 415 (codes "unsupported content encoding")

-- OTLP/HTTP posts; methods are told apart by case (RFC 9110, section 9.1)
abbrev pub is_post : List ℕ → Bool
is_post method = bytes_eq method (codes "POST")

-- the number of the tenant with this name
abbrev pub number_of : List (ℕ × List ℕ) → List ℕ → Option ℕ
number_of tenants name = option_map (λ t. t.0) (find (λ t. bytes_eq name t.1) tenants)

-- the tenant that the one field of that name names, byte for byte
abbrev pub tenant_in : Names → List Header → Option ℕ
tenant_in names headers = option_and_then (number_of names.tenants) (only (field names.header headers))

-- the rules on the content of a post to this tenant
abbrev pub route_to : List Header → Option ℕ → Route
route_to headers None = refuse unknown_tenant
route_to headers (Some tenant) =
    if not (has_protobuf headers) then refuse unsupported_type
    else (if not (are_plain headers) then refuse unsupported_encoding else post tenant)

-- where a request goes
unfoldable pub route_of : Names → Request → Route
route_of names request =
    if not (is_for_traces request.target) then refuse no_such_path
    else (if not (is_post request.method) then refuse method_not_allowed
    else route_to request.headers (tenant_in names request.headers))
