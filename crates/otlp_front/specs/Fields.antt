-- What the fields of a head say of a post (RFC 9110). Names are compared in any case; values are those without the
-- blanks around them.
use Rattle.std.specs.Prelude.{ℕ, ◌==◌, ◌||◌, not, Bool, false, List, Option, Some, None, codes}
use Rattle.std.specs.List.{before_first, list_all}
use Rattle.httparse.specs.Grammar.{trim_ows}
use Rattle.http1.specs.Text.{eq_ignore_case}
use Rattle.http1.specs.Fields.{Header, is_named, values_named}
use Rattle.http_edge.specs.Fields.{field, only}

-- a media type without its parameters, which begin with the first `;` (RFC 9110, section 8.3.1)
abbrev pub media_type : List ℕ → List ℕ
media_type value = trim_ows (before_first (λ b. b == 59) value)

-- the one `Content-Type` is that of Protocol Buffers in OTLP/HTTP, in any case and with any parameters (OTLP/HTTP,
-- "Binary Protobuf Encoding")
abbrev pub is_protobuf : Option (List ℕ) → Bool
is_protobuf None = false
is_protobuf (Some value) = eq_ignore_case (media_type value) (codes "application/x-protobuf")

-- the content is in Protocol Buffers' encoding
abbrev pub has_protobuf : List Header → Bool
has_protobuf headers = is_protobuf (only (field (codes "content-type") headers))

-- a coding that changes nothing (RFC 9110, section 8.4.1; in any case)
abbrev pub is_identity : List ℕ → Bool
is_identity coding = eq_ignore_case coding (codes "identity")

-- a field says of no coding but that one
abbrev pub is_plain : Header → Bool
is_plain h = not (is_named (codes "content-encoding") h) || is_identity h.1

-- no `Content-Encoding` says that the content is coded: nothing is decompressed here (RFC 9110, section 8.4)
abbrev pub are_plain : List Header → Bool
are_plain headers = list_all is_identity (values_named (codes "content-encoding") headers)
