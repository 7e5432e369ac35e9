-- What the code's types stand for. This project's own rule.
use Rattle.http_edge.specs.Message.{Response}
use Rattle.otlp_front.specs.declared.destination.Route.{Route as RouteCode}
use Rattle.otlp_front.specs.declared.destination.Route.TheVariants.{Post, Refuse}
use Rattle.otlp_front.specs.declared.refusal.RouteRefusal.{RouteRefusal}
use Rattle.otlp_front.specs.declared.refusal.RouteRefusal.TheVariants.{NoSuchPath, MethodNotAllowed, UnknownTenant, UnsupportedType, UnsupportedEncoding}
use Rattle.otlp_front.specs.Route.{Route, post, refuse, no_such_path, method_not_allowed, unknown_tenant, unsupported_type, unsupported_encoding}

-- the answer that a refusal gives
abbrev pub response_for : RouteRefusal → Response
response_for NoSuchPath = no_such_path
response_for MethodNotAllowed = method_not_allowed
response_for UnknownTenant = unknown_tenant
response_for UnsupportedType = unsupported_type
response_for UnsupportedEncoding = unsupported_encoding

-- where a message goes
abbrev pub route_by : RouteCode → Route
route_by (Post tenant) = post tenant
route_by (Refuse refusal) = refuse (response_for refusal)
