-- How the keys and names of a document are shown on a line. They may hold any bytes. This project's own rule.
use Rattle.std.specs.Prelude.{codes, ℕ, List, [], ◌∷◌, ◌++◌, Bool, ◌&&◌, not, ◌==◌, nat_le, if◌then◌else◌}
use Rattle.hex.specs.Hex.{encode_lower}

-- the printable bytes of ASCII but the backslash
abbrev pub is_plain : ℕ → Bool
is_plain byte = nat_le 32 byte && nat_le byte 126 && not (byte == 92)

-- such a byte as it is, any other as `\x` and two hexadecimal digits
abbrev pub shown_byte : ℕ → List ℕ
shown_byte byte = if is_plain byte then byte ∷ [] else codes "\\x" ++ encode_lower (byte ∷ [])

-- a text byte by byte
abbrev pub shown : List ℕ → List ℕ
shown [] = []
shown (byte ∷ bytes) = shown_byte byte ++ shown bytes
