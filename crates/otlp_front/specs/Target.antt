-- The path of a request's target (RFC 9112, section 3.2). The target is a path with its query (origin-form) or a whole
-- URI (absolute-form). No byte of it is decoded.
use Rattle.std.specs.Prelude.{ℕ, ◌==◌, ◌&&◌, nat_le, Bool, List, [], ◌∷◌, length, take, drop, if◌then◌else◌, codes, bytes_eq}
use Rattle.std.specs.List.{before_first}
use Rattle.http1.specs.Text.{eq_ignore_case}

-- what stands before the query, which begins with the first `?` (RFC 3986, section 3.4)
abbrev pub before_query : List ℕ → List ℕ
before_query target = before_first (λ b. b == 63) target

-- the text begins with this, in any case of ASCII
abbrev pub begins_with : List ℕ → List ℕ → Bool
begins_with front text = nat_le (length front) (length text) && eq_ignore_case (take (length front) text) front

-- from the first `/` on, and nothing where there is none
abbrev pub from_slash : List ℕ → List ℕ
from_slash [] = []
from_slash (b ∷ text) = if b == 47 then b ∷ text else from_slash text

-- the path of a target without its query: after a scheme and its `//` a host stands before it (RFC 9112, section 3.2.2)
abbrev pub path_in : List ℕ → List ℕ
path_in text =
    if begins_with (codes "http://") text then from_slash (drop 7 text)
    else (if begins_with (codes "https://") text then from_slash (drop 8 text) else text)

-- the path of a target
unfoldable pub path_of : List ℕ → List ℕ
path_of target = path_in (before_query target)

-- it is the one to which traces are posted (OTLP/HTTP Request: the default path of traces)
abbrev pub is_for_traces : List ℕ → Bool
is_for_traces target = bytes_eq (path_of target) (codes "/v1/traces")
