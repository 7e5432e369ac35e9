-- A key with a string, a bool or a number, behind which nothing stands.
use Rattle.std.proofs.Common.{◌≡◌, ℕ, zero, suc, ◌-◌, ◌+◌, ◌*◌, ◌<◌, ◌≤◌, List, [], ◌∷◌, ◌++◌, length, Option, Some, None, IfSome, refl, sym, ap, ◌∙◌, subst, arith}
use Rattle.std.proofs.lemmas.List.{append-nil}
use Rattle.std.proofs.lemmas.Str.{IsUtf8-from_ascii}
use Rattle.std.proofs.lemmas.Str.Ascii.{IsAscii-nil}
use Rattle.std.specs.Str.{IsAscii, IsUtf8}
use Rattle.pb_wire.specs.declared.field.WireType.TheVariants as types
use Rattle.pb_wire.specs.Text.{varint_text, tag_text, bytes_text}
use Rattle.pb_wire.proofs.Written.{groups_one}
use Rattle.otlp_trace.specs.Text.{bytes_field, any_text, key_value_text}
use Rattle.otlp_read.specs.Nested.{known_of_any, known_of_key_value}
use Rattle.otlp_canonical.specs.Parts.{Whole}
use Rattle.otlp_canonical.specs.Sound.{SoundAny, SoundKeyValue}
use Rattle.otlp_canonical.proofs.Fields.{bytes_front, tagged}
use Rattle.otlp_canonical.proofs.Others.{none_kept}
use Rattle.otlp_canonical.proofs.Parts.{nothing}
use Rattle.otlp_canonical.proofs.Values.{string_front, any_whole, key_value_whole}

ascii_front : (xs ys : List ℕ) → IsAscii (xs ++ ys) → IsAscii xs
ascii_front [] ys all i = IsAscii-nil i
ascii_front (x ∷ xs) ys all zero = all zero
ascii_front (x ∷ xs) ys all (suc i) = ascii_front xs ys (λ j. all (suc j)) i

ascii_back : (xs ys : List ℕ) → IsAscii (xs ++ ys) → IsAscii ys
ascii_back [] ys all = all
ascii_back (x ∷ xs) ys all = ascii_back xs ys (λ i. all (suc i))

-- what a field of ASCII holds, and what stands behind it
field_ascii : (n : ℕ) (text bs rest : List ℕ) → text ≡ bytes_field n bs ++ rest → IsAscii text → IsAscii bs
field_ascii n text bs rest parts all =
    let whole : IsAscii (bytes_field n bs) = ascii_front (bytes_field n bs) rest (subst IsAscii parts all) in
    ascii_back (varint_text (length bs)) bs (ascii_back (tag_text n types.Bytes) (varint_text (length bs) ++ bs) whole)

behind_ascii : (n : ℕ) (text bs rest : List ℕ) → text ≡ bytes_field n bs ++ rest → IsAscii text → IsAscii rest
behind_ascii n text bs rest parts all = ascii_back (bytes_field n bs) rest (subst IsAscii parts all)

-- a key, which isn't empty, with a value
pair_of : (room : ℕ) (text key mid bs end : List ℕ) → 2 ≤ room → text ≡ bytes_field 1 key ++ mid → 0 < length key
    → mid ≡ bytes_field 2 bs ++ end → length end ≡ 0 → IsUtf8 key → Whole any_text (SoundAny (room - 1)) bs
    → Whole key_value_text (SoundKeyValue room) text
pair_of room text key mid bs end deep p some q none valid value =
    let outer : room ≡ suc (room - 1) = omega (arith, deep) in
    key_value_whole room (room - 1) text mid bs end outer (bytes_front 1 text key mid valid some p) q value
    (none_kept known_of_key_value (room - 1) end (nothing end none))

-- where something is there, the key is a string and the value one
pub pair_from : {A : Type 0} (o : Option A) (room : ℕ) (text key mid bs end : List ℕ) → 2 ≤ room → text ≡ bytes_field 1 key ++ mid → 0 < length key
    → mid ≡ bytes_field 2 bs ++ end → length end ≡ 0 → IfSome o (λ u. IsUtf8 key) → IfSome o (λ u. Whole any_text (SoundAny (room - 1)) bs)
    → IfSome o (λ u. Whole key_value_text (SoundKeyValue room) text)
pair_from None room text key mid bs end deep p some q none valid value = tt
pair_from (Some x) room text key mid bs end deep p some q none valid value = pair_of room text key mid bs end deep p some q none valid value

pub pair_whole : (room : ℕ) (text key mid bs end string more : List ℕ) → 2 ≤ room → text ≡ bytes_field 1 key ++ mid → 0 < length key
    → mid ≡ bytes_field 2 bs ++ end → length end ≡ 0 → bs ≡ bytes_field 1 string ++ more → length more ≡ 0 → IsUtf8 key → IsUtf8 string
    → Whole key_value_text (SoundKeyValue room) text
pair_whole room text key mid bs end string more deep p some q none r nothing_more valid text_valid =
    let inner : room - 1 ≡ suc (room - 2) = omega (arith, deep) in
    pair_of room text key mid bs end deep p some q none valid
    (any_whole (room - 1) (room - 2) bs more inner (string_front (room - 2) bs string more r text_valid) (none_kept known_of_any (room - 2) more (nothing more nothing_more)))

-- where all of it is ASCII
ascii_pair : (room : ℕ) (text key mid bs end string more : List ℕ) → 2 ≤ room → text ≡ bytes_field 1 key ++ mid → 0 < length key
    → mid ≡ bytes_field 2 bs ++ end → length end ≡ 0 → bs ≡ bytes_field 1 string ++ more → length more ≡ 0 → IsAscii text
    → Whole key_value_text (SoundKeyValue room) text
ascii_pair room text key mid bs end string more deep p some q none r nothing_more all =
    let rest : IsAscii mid = behind_ascii 1 text key mid p all in
    let value : IsAscii bs = field_ascii 2 mid bs end q rest in
    pair_whole room text key mid bs end string more deep p some q none r nothing_more
    (IsUtf8-from_ascii key (field_ascii 1 text key mid p all)) (IsUtf8-from_ascii string (field_ascii 1 bs string more r value))

-- a field behind its tag and its length, each a byte
pub short_parts : (n size : ℕ) (text inside bs rest : List ℕ) → n < 15 → text ≡ (8 * n + 2) ∷ size ∷ inside → size < 128 → length bs ≡ size → inside ≡ bs ++ rest → text ≡ bytes_field n bs ++ rest
short_parts n size text inside bs rest known p small long q =
    let count : size ∷ inside ≡ bytes_text bs ++ rest =
    ap (λ (t : List ℕ). size ∷ t) q ∙ ap (λ (s : ℕ). s ∷ (bs ++ rest)) (sym long)
    ∙ ap (λ (t : List ℕ). (t ++ bs) ++ rest) (sym (groups_one 9 (length bs) (omega (arith, small, long)))) in
    tagged n types.Bytes (8 * n + 2) text (size ∷ inside) (bytes_text bs) rest (omega arith) (omega (arith, known)) p count

-- the length behind a tag, and what stands behind both
short_ascii : (tag size : ℕ) (text inside : List ℕ) → text ≡ tag ∷ size ∷ inside → IsAscii text → (size < 128) × IsAscii inside
short_ascii tag size text inside p all =
    let parts : IsAscii (tag ∷ size ∷ inside) = subst IsAscii p all in
    (parts 1, λ i. parts (suc (suc i)))

-- a key and a string with lengths of one byte, in ASCII
pub short_string : (room key_size value_size string_size : ℕ) (text behind key rest value string : List ℕ) → 2 ≤ room → text ≡ 10 ∷ key_size ∷ behind → 0 < key_size
    → behind ≡ key ++ rest → length key ≡ key_size → rest ≡ 18 ∷ value_size ∷ value → length value ≡ value_size → value ≡ 10 ∷ string_size ∷ string → length string ≡ string_size
    → IsAscii text → Whole key_value_text (SoundKeyValue room) text
short_string room key_size value_size string_size text behind key rest value string deep p some q key_long r value_long s string_long all =
    let outer = short_ascii 10 key_size text behind p all in
    let middle = short_ascii 18 value_size rest value r (ascii_back key rest (subst IsAscii q outer.1)) in
    let inner = short_ascii 10 string_size value string s middle.1 in
    ascii_pair room text key rest value [] string [] deep (short_parts 1 key_size text behind key rest (omega arith) p outer.0 key_long q) (omega (arith, some, key_long))
    (short_parts 2 value_size rest value value [] (omega arith) r middle.0 value_long (sym (append-nil value))) refl
    (short_parts 1 string_size value string string [] (omega arith) s inner.0 string_long (sym (append-nil string))) refl all
