-- How long is waited for a client, and how much it may send. This project's own rule, but for what begins an answer.
use Rattle.std.specs.Prelude.{◌≡◌, ℕ, ◌+◌, ◌-◌, ◌^◌, min, max, nat_le, Bool, true, List, length, take, codes, Option, Some, None, option_map}
use Rattle.std.specs.Duration.{as_nanos}
use Rattle.std.specs.Str.{bytes_eq}
use Rattle.service_runtime.specs.declared.visit.Patience.{Patience}

-- how many bytes of a request have come with so many more; it never falls, and doesn't rise above 2 ^ 64 - 1
abbrev pub come_with : ℕ → ℕ → ℕ
come_with come more = max come (min (come + more) (2 ^ 64 - 1))

-- whether a request that has so many bytes has no more than it may, which may be any number
abbrev pub is_within : ℕ → Option ℕ → Bool
is_within come None = true
is_within come (Some most) = nat_le come most

-- an answer of the class 1xx, as the leave to send a body, begins so (RFC 9110, section 15.2, and RFC 9112, section 4)
abbrev pub interim_front : List ℕ
interim_front = codes "HTTP/1.1 1"

-- whether bytes begin such an answer, which is no reply: the request that it answers goes on
abbrev pub is_interim : List ℕ → Bool
is_interim bytes = bytes_eq interim_front (take (length interim_front) bytes)

-- so many bytes are read off a connection behind a reply that closes it, which is more than the longest body has
abbrev pub most_read_off : ℕ
most_read_off = 33554432

-- at the admin port a client may rest for a second, and a request may take five and have 262,144 bytes
pub record HasAdminLimits (patience : Patience) : Type 0 where
  pub rest : option_map as_nanos patience.rest ≡ Some 1000000000
  pub request : option_map as_nanos patience.request ≡ Some 5000000000
  pub bytes : patience.bytes ≡ Some 262144
