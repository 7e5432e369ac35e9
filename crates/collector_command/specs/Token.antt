-- The token that the admin port asks for. A bearer token is of few characters, with `=` at its end
-- alone (RFC 6750, 2.1, `b64token`): so each client can send it, and no other text can be meant.
use Rattle.std.specs.Prelude.{◌≡◌, ◌↔◌, ℕ, ◌-◌, ◌≤◌, List, [], ◌∷◌, ◌++◌, length, take, drop, replicate, Bool, true, false, ◌&&◌, ◌||◌, not, ◌==◌, Option, Some, None, Ok, if◌then◌else◌}
use Rattle.std.specs.Char.{is_ascii_alphanumeric}
use Rattle.std.specs.List.{list_all}
use Rattle.std.specs.Str.{bytes_eq}
use Rattle.service_runtime.specs.Documents.{Reads}

-- a letter, a digit, or one of - . _ ~ + /
abbrev pub is_token_byte : ℕ → Bool
is_token_byte byte =
    is_ascii_alphanumeric byte || byte == 45 || byte == 46 || byte == 95 || byte == 126 || byte == 43 || byte == 47

-- what may stand behind the first byte, and behind the first `=`, where there was one
abbrev pub goes_on : Bool → List ℕ → Bool
goes_on padded [] = true
goes_on padded (byte ∷ bytes) =
    if byte == 61 then goes_on true bytes else not padded && is_token_byte byte && goes_on padded bytes

-- so many bytes it has at least, since a shorter one is guessed sooner than it should be (own rule)
abbrev pub shortest_token : ℕ
shortest_token = 16

-- a token
abbrev pub is_token : List ℕ → Bool
is_token [] = false
is_token (byte ∷ bytes) = is_token_byte byte && goes_on false bytes

-- RFC 6750's `b64token = 1*( ALPHA / DIGIT / "-" / "." / "_" / "~" / "+" / "/" ) *"="`: at least one such byte, and any
-- number of `=` behind
pub record IsB64Token (text : List ℕ) : Type 0 where
  pub front : List ℕ
  pub padding : ℕ
  pub all : text ≡ front ++ replicate padding 61
  pub some : 1 ≤ length front
  pub bytes : list_all is_token_byte front ≡ true

-- a token is just what is written so
abbrev pub AreAsWritten : Type 0
AreAsWritten = (text : List ℕ) → (is_token text ≡ true) ↔ IsB64Token text

-- a text without this byte at its end, if it stands there
abbrev pub without_last : ℕ → List ℕ → List ℕ
without_last byte text =
    if bytes_eq (drop (length text - 1) text) (byte ∷ []) then take (length text - 1) text else text

-- a text without the end of its line, if it has one there: a line feed, and a carriage return before it
abbrev pub without_end : List ℕ → List ℕ
without_end text = without_last 13 (without_last 10 text)

-- the token that is in the file at a path: all that was read there, but for the end of its line
pub record IsTokenAt (reads : Reads) (path token : List ℕ) : Type 0 where
  pub bytes : List ℕ
  pub read : reads path (Ok bytes)
  pub whole : token ≡ without_end bytes
  pub sound : is_token token ≡ true
  pub long : shortest_token ≤ length token

-- the token that a port asks for: that in the file that is named, and none where none is
abbrev pub IsPortToken : Reads → Option (List ℕ) → Option (List ℕ) → Type 0
IsPortToken reads (Some path) (Some token) = IsTokenAt reads path token
IsPortToken reads (Some path) None = ⊥
IsPortToken reads None (Some token) = ⊥
IsPortToken reads None None = Unit {0}
