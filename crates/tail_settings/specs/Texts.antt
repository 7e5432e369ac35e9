-- What the texts of settings may hold, byte by byte (ASCII, RFC 20).
use Rattle.std.specs.Prelude.{ℕ, Bool, ◌&&◌, ◌||◌, ◌==◌, List, length, Result, nat_le}
use Rattle.std.specs.List.{list_all}
use Rattle.toml.specs.Data.{Members}
use Rattle.tail_settings.specs.Fault.{FaultData, ◌>>=◌}
use Rattle.tail_settings.specs.Keys.{allowed, text_at, text_or_at}

-- 1 to high bytes
abbrev pub is_long : ℕ → List ℕ → Bool
is_long high text = nat_le 1 (length text) && nat_le (length text) high

-- A to Z
abbrev pub is_upper : ℕ → Bool
is_upper b = nat_le 65 b && nat_le b 90

-- a to z
abbrev pub is_lower : ℕ → Bool
is_lower b = nat_le 97 b && nat_le b 122

-- 0 to 9
abbrev pub is_digit : ℕ → Bool
is_digit b = nat_le 48 b && nat_le b 57

-- A to Z, a to z, 0 to 9, `_`, `-` and `.`
abbrev pub is_name_byte : ℕ → Bool
is_name_byte b = is_upper b || is_lower b || is_digit b || (b == 95) || (b == 45) || (b == 46)

-- a tenant's name is 1 to 64 of them
abbrev pub is_name : List ℕ → Bool
is_name name = is_long 64 name && list_all is_name_byte name

-- the printable bytes of ASCII without the space
abbrev pub is_address_byte : ℕ → Bool
is_address_byte b = nat_le 33 b && nat_le b 126

-- a host and a port are 1 to 255 of them
abbrev pub is_address : List ℕ → Bool
is_address text = is_long 255 text && list_all is_address_byte text

-- a to z, 0 to 9 and `-`, which are some of the bytes of a field name of HTTP (token, RFC 9110, 5.6.2)
abbrev pub is_header_byte : ℕ → Bool
is_header_byte b = is_lower b || is_digit b || (b == 45)

-- the name of a header field is 1 to 64 of them
abbrev pub is_header : List ℕ → Bool
is_header text = is_long 64 text && list_all is_header_byte text

-- the key of an attribute is 1 to 256 bytes
abbrev pub is_attribute_key : List ℕ → Bool
is_attribute_key = is_long 256

-- the host and the port at a key, or the default
unfoldable pub address_at : List ℕ → List ℕ → Members → Result (List ℕ) FaultData
address_at key default table = do
  text ← text_or_at key default table
  allowed key is_address text

-- the name of a header field at a key, or the default
unfoldable pub header_at : List ℕ → List ℕ → Members → Result (List ℕ) FaultData
header_at key default table = do
  text ← text_or_at key default table
  allowed key is_header text

-- the attribute's key at a key that has to be there
unfoldable pub attribute_key_at : List ℕ → Members → Result (List ℕ) FaultData
attribute_key_at key table = do
  text ← text_at key table
  allowed key is_attribute_key text
