-- The words of a script's line, and the names, decimal numbers and hexadecimal bytes that they spell. This project's
-- own rule (docs/SCRIPT.md).
use Rattle.std.specs.Prelude.{ℕ, ◌*◌, ◌^◌, ◌==◌, ◌&&◌, ◌||◌, Bool, nat_le, nat_lt, min, if◌then◌else◌, List, [], length, codes, Option, Some, None, option_map}
use Rattle.std.specs.List.{slice_split, list_all}
use Rattle.std.specs.Char.{is_ascii_alphanumeric, is_ascii_digit}
use Rattle.std.specs.Str.{bytes_eq}
use Rattle.std.specs.Str.Parse.{digits_value}
use Rattle.std.specs.Result.{result_ok}
use Rattle.std.specs.Borrow.{Bor}
use Rattle.hex.specs.Hex.{decode_of}
use Rattle.send_retry.specs.Class.{longest_wait}

-- words are parted by one space each: between two spaces stands an empty word
abbrev pub words_of : List ℕ → List (List ℕ)
words_of text = slice_split (λ byte. byte == 32) text

-- the words of what stands behind a space, where there is one
abbrev pub words_behind : Option (Bor (List ℕ)) → List (List ℕ)
words_behind None = []
words_behind (Some text) = words_of text.now

-- A to Z, a to z, 0 to 9, `_`, `-` and `.`
abbrev pub is_name_byte : ℕ → Bool
is_name_byte byte = is_ascii_alphanumeric byte || byte == 95 || byte == 45 || byte == 46

-- 1 to 64 such bytes
abbrev pub is_name : List ℕ → Bool
is_name word = nat_lt 0 (length word) && nat_le (length word) 64 && list_all is_name_byte word

-- a tenant's name
unfoldable pub name_of : List ℕ → Option (List ℕ)
name_of word = if is_name word then Some word else None

-- 1 to 19 decimal digits
abbrev pub is_number : List ℕ → Bool
is_number word = nat_lt 0 (length word) && nat_le (length word) 19 && list_all is_ascii_digit word

-- the number that a word writes
unfoldable pub number_of : List ℕ → Option ℕ
number_of word = if is_number word then Some (digits_value 10 word) else None

-- bytes: `-` for none, or hexadecimal digits of either case, two a byte, at least two of them
unfoldable pub bytes_of : List ℕ → Option (List ℕ)
bytes_of word =
    if bytes_eq word (codes "-") then Some []
    else if nat_lt 0 (length word) then result_ok (decode_of word)
    else None

-- the most bytes that a post's body may have, and a tenant's document
abbrev pub most_body_bytes : ℕ
most_body_bytes = 20971520

-- a post's body, or a document: so many bytes at most
unfoldable pub body_of : List ℕ → Option (List ℕ)
body_of word = if nat_le (length word) (2 * most_body_bytes) then bytes_of word else None

-- a number, where it is one that passes a test
abbrev pub tested : (ℕ → Bool) → Option ℕ → Option ℕ
tested test None = None
tested test (Some number) = if test number then Some number else None

-- a number below 2^32
unfoldable pub random_word_of : List ℕ → Option ℕ
random_word_of word = tested (λ number. nat_lt number (2 ^ 32)) (number_of word)

-- a status of HTTP: a number from 100 to 999
unfoldable pub status_of : List ℕ → Option ℕ
status_of word = tested (λ number. nat_le 100 number && nat_le number 999) (number_of word)

-- seconds to wait, `-` for none: a day at most is heeded
unfoldable pub seconds_of : List ℕ → Option (Option ℕ)
seconds_of word =
    if bytes_eq word (codes "-") then Some None
    else option_map (λ seconds. Some (min seconds longest_wait)) (number_of word)
