-- Which part of a target is its path, as the grammar of a request's target puts targets together: a law over Target.
use Rattle.std.specs.Prelude.{◌≡◌, ◌≢◌, ◌⊎◌, ◌++◌, ℕ, List, [], ◌∷◌, IsTrue, All, codes}
use Rattle.http1.specs.Text.{eq_ignore_case}
use Rattle.otlp_front.specs.Target.{path_of}

-- an absolute-path (RFC 9110, section 4.1): it begins with `/`, and no `?` is in it (RFC 3986, section 3.3)
pub record IsAbsolutePath (path : List ℕ) : Type 0 where
  pub segments : List ℕ
  pub begins : path ≡ 47 ∷ segments
  pub no_query : All (λ b. b ≢ 63) path

-- [ "?" query ], with any bytes as the query
abbrev pub IsQueryPart : List ℕ → Type 0
IsQueryPart part = (part ≡ []) ⊎ ((query : List ℕ) × (part ≡ 63 ∷ query))

-- `http://` or `https://`, in any case (RFC 9110, section 4.2; RFC 3986, section 3.1)
abbrev pub IsSchemePart : List ℕ → Type 0
IsSchemePart part = IsTrue (eq_ignore_case part (codes "http://")) ⊎ IsTrue (eq_ignore_case part (codes "https://"))

-- an authority, the host with its port: it ends before the next `/` or `?` (RFC 3986, section 3.2)
abbrev pub IsAuthority : List ℕ → Type 0
IsAuthority text = All (λ b. (b ≢ 47) × (b ≢ 63)) text

-- the path of a target is the path that its grammar puts there
pub record PathsStandInTargets : Type 0 where
  -- origin-form = absolute-path [ "?" query ] (RFC 9112, section 3.2.1)
  pub origin_form : (path query : List ℕ) → IsAbsolutePath path → IsQueryPart query → path_of (path ++ query) ≡ path
  -- absolute-form = absolute-URI (RFC 9112, section 3.2.2), with a path
  pub absolute_form : (scheme authority path query : List ℕ) → IsSchemePart scheme → IsAuthority authority →
      IsAbsolutePath path → IsQueryPart query → path_of (scheme ++ authority ++ path ++ query) ≡ path
  -- and without one: path-abempty of RFC 3986, section 3.3
  pub without_path : (scheme authority query : List ℕ) → IsSchemePart scheme → IsAuthority authority →
      IsQueryPart query → path_of (scheme ++ authority ++ query) ≡ []
