-- What a text has that no address has: host, colon and port, as an authority of RFC 3986 (3.2) is written where it has
-- a port; what comes before `://` is a scheme (3.1). Which hosts there are no text shows. This project's own rule.
use Rattle.std.specs.Prelude.{ℕ, ◌+◌, ◌*◌, ◌-◌, List, [], ◌∷◌, length, Bool, true, false, ◌&&◌, ◌||◌, not, ◌==◌, nat_le, Option, Some, None, if◌then◌else◌}
use Rattle.settings_check.specs.declared.address.TheConstants as words

-- a text that begins with `://`
abbrev pub begins_with_mark : List ℕ → Bool
begins_with_mark (a ∷ b ∷ c ∷ rest) = a == 58 && b == 47 && c == 47
begins_with_mark (a ∷ b ∷ []) = false
begins_with_mark (a ∷ []) = false
begins_with_mark [] = false

-- a text in which `://` stands
abbrev pub has_scheme : List ℕ → Bool
has_scheme [] = false
has_scheme (byte ∷ bytes) = begins_with_mark (byte ∷ bytes) || has_scheme bytes

-- what stands behind the last colon of a text; what was found before it, where it has none
abbrev pub behind_colon : Option (List ℕ) → List ℕ → Option (List ℕ)
behind_colon found [] = found
behind_colon found (byte ∷ bytes) = behind_colon (if byte == 58 then Some bytes else found) bytes

-- digits that go on with a port, behind others that spell a number
abbrev pub goes_on : ℕ → List ℕ → Bool
goes_on port [] = true
goes_on port (digit ∷ digits) =
    nat_le 48 digit && nat_le digit 57 && nat_le (10 * port + (digit - 48)) 65535
    && goes_on (10 * port + (digit - 48)) digits

-- one or more decimal digits that spell at most 65535
abbrev pub is_port : List ℕ → Bool
is_port digits = goes_on 0 digits && not (length digits == 0)

-- what is wrong with a text by what stands behind its last colon
abbrev pub port_fault : List ℕ → Option (List ℕ) → Option (List ℕ)
port_fault text None = Some words.NO_PORT.now
port_fault text (Some port) =
    if is_port port then if length port + 1 == length text then Some words.NO_HOST.now else None
    else Some words.NO_PORT.now

-- what is wrong with a text, in words
abbrev pub address_fault : List ℕ → Option (List ℕ)
address_fault text = if has_scheme text then Some words.SCHEME.now else port_fault text (behind_colon None text)
