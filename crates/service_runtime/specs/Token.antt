-- The token that a request at the admin port gives (RFC 6750), whether a page of a browser asks (the
-- Fetch standard), and whether the request is let in.
use Rattle.std.specs.Prelude.{ℕ, Bool, true, false, not, ◌&&◌, ◌||◌, ◌==◌, nat_le, List, [], ◌∷◌, length, take, drop, Option, Some, None, option_and_then, if◌then◌else◌, codes, bytes_eq}
use Rattle.std.specs.List.{list_any}
use Rattle.admin_pages.specs.Route.{RouteData, Page, Health, Readiness, Drain, Add, Retire}
use Rattle.http1.specs.Fields.{Header, is_named}
use Rattle.http1.specs.Text.{eq_ignore_case}
use Rattle.http_edge.specs.Fields.{field, only}

-- what stands behind the spaces at its front
abbrev pub without_spaces : List ℕ → List ℕ
without_spaces [] = []
without_spaces (byte ∷ bytes) = if byte == 32 then without_spaces bytes else byte ∷ bytes

-- the token of credentials, behind the scheme `Bearer`, in any case (RFC 9110, section 11.1), and a space or more (RFC
-- 6750, section 2.1)
abbrev pub bearer : List ℕ → Option (List ℕ)
bearer value =
    if nat_le 7 (length value) && eq_ignore_case (take 7 value) (codes "bearer ")
    then Some (without_spaces (drop 7 value)) else None

-- the token in the one field `Authorization` (RFC 9110, section 11.6.2)
abbrev pub token_of : List Header → Option (List ℕ)
token_of headers = option_and_then bearer (only (field (codes "authorization") headers))

-- the token that is given is the one that is wanted, byte for byte
abbrev pub is_wanted : List ℕ → Option (List ℕ) → Bool
is_wanted wanted None = false
is_wanted wanted (Some given) = bytes_eq wanted given

-- a page asks: a browser puts `Origin` into each request that may change something (the Fetch standard; the field is
-- RFC 6454's); more than one such field is no leave either
abbrev pub is_from_page : List Header → Bool
is_from_page headers = list_any (is_named (codes "origin")) headers

-- a change is asked for: that the service ends, or that a tenant comes or goes
abbrev pub is_change : RouteData → Bool
is_change Drain = true
is_change Add = true
is_change (Retire name) = true
is_change _ = false

-- what is shown to whoever reaches the address, since it tells nothing of any tenant
abbrev pub is_for_all : RouteData → Bool
is_for_all Page = true
is_for_all Health = true
is_for_all Readiness = true
is_for_all _ = false

-- A request with these fields is let in at this route. Where no token is wanted no page may change anything, since it
-- may be any site's (own rule).
abbrev pub is_let_in : Option (List ℕ) → List Header → RouteData → Bool
is_let_in None headers route = not (is_change route && is_from_page headers)
is_let_in (Some wanted) headers route = is_for_all route || is_wanted wanted (token_of headers)
