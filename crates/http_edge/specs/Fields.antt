-- What the fields of a head say of the message's body and of the connection (RFC 9110, RFC 9112). Names are compared in
-- any case; values are those without the blanks around them.
use Rattle.std.specs.Prelude.{ℕ, Bool, true, false, ◌==◌, ◌&&◌, ◌||◌, nat_le, List, [], ◌∷◌, length, Option, Some, None, if◌then◌else◌, codes}
use Rattle.std.specs.List.{list_any}
use Rattle.std.specs.Str.Parse.{digits_value}
use Rattle.http1.specs.Text.{eq_ignore_case}
use Rattle.http1.specs.Fields.{Header, is_named, is_number, is_chunked, values_named, known_fields}
use Rattle.http1.specs.declared.framing.Framing.{Framing}
use Rattle.http1.specs.declared.framing.Framing.TheVariants.{Length, Chunked}

-- what stands under a name that is to stand at most once
pub data Single : Type 0 where
  absent : Single
  one : List ℕ → Single
  repeated : Single

-- what stands there, from the values in order
abbrev pub single : List (List ℕ) → Single
single [] = absent
single (v ∷ []) = one v
single (v ∷ w ∷ vs) = repeated

-- the field with this name
unfoldable pub field : List ℕ → List Header → Single
field name headers = single (values_named name headers)

-- the value, where there is exactly one
abbrev pub only : Single → Option (List ℕ)
only absent = None
only (one value) = Some value
only repeated = None

-- the number that 1 to `most` digits write, where it is below 2 ^ 64
abbrev pub number_of : ℕ → List ℕ → Option ℕ
number_of most text = if nat_le (length text) most && is_number text then Some (digits_value 10 text) else None

-- the framing by a length, where it is one
abbrev pub framing_by_length : Option ℕ → Option Framing
framing_by_length None = None
framing_by_length (Some n) = Some (Length n)

-- how the end of the body is found, from `Transfer-Encoding` and `Content-Length`, and from what no field means:
-- chunks where the coding is `chunked` (any case), or a length of 1 to 19 digits, and never both (RFC 9112, section
-- 6.3)
abbrev pub framing_by_fields : Framing → Single → Single → Option Framing
framing_by_fields unstated absent absent = Some unstated
framing_by_fields unstated absent (one text) = framing_by_length (number_of 19 text)
framing_by_fields unstated absent repeated = None
framing_by_fields unstated (one coding) absent = if is_chunked coding then Some Chunked else None
framing_by_fields unstated (one coding) (one text) = None
framing_by_fields unstated (one coding) repeated = None
framing_by_fields unstated repeated length = None

-- how the end of the body is found, from all fields
unfoldable pub framing_in : Framing → List Header → Option Framing
framing_in unstated headers =
    framing_by_fields unstated (field (codes "transfer-encoding") headers) (field (codes "content-length") headers)

-- one Host, which HTTP/1.0 may leave out (RFC 9112, section 3.2)
abbrev pub is_host_fit : ℕ → Single → Bool
is_host_fit minor absent = minor == 0
is_host_fit minor (one host) = true
is_host_fit minor repeated = false

-- the sender waits for 100 Continue (RFC 9110, section 10.1.1)
abbrev pub is_expectation : Header → Bool
is_expectation h = is_named (codes "expect") h && eq_ignore_case h.1 (codes "100-continue")

-- the sender of this head waits for 100 Continue, which HTTP/1.0 does not know (RFC 9110, section 10.1.1)
unfoldable pub expects_in : ℕ → List Header → Bool
expects_in minor headers = (minor == 1) && list_any is_expectation headers

-- the connection ends after the reply: the version is 1.0, or `Connection` lists `close` (any case; RFC 9112, section
-- 9.3)
unfoldable pub closes_in : ℕ → List Header → Bool
closes_in minor headers = (minor == 0) || (known_fields headers).close
