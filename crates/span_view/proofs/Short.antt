-- Fields with tags of one byte, read without their numbers and lengths being gone through byte by byte.
use Rattle.std.proofs.Common.{◌≡◌, ◌≤◌, ◌<◌, ◌∙◌, ◌+◌, ◌*◌, ◌/◌, ◌%◌, ◌&&◌, ◌==◌, ◌||◌, ℕ, Bool, true, false, List, [], ◌∷◌, ◌++◌, length, take, drop, get_or, refl, sym, ap, subst, arith, length-take, length-drop}
use Rattle.std.specs.Prelude.{if◌then◌else◌, None}
use Rattle.std.specs.Int.{w64, from_le_bytes}
use Rattle.std.proofs.lemmas.List.{take-append-drop}
use Rattle.pb_wire.specs.declared.field.WireType.{WireType}
use Rattle.pb_wire.specs.declared.field.WireType.TheVariants as types
use Rattle.pb_wire.specs.Grammar.{Datum, Varint, Eight, Bytes, Four, Group, Entry, last_byte, more_bytes, IsVarint, code, IsTag, IsField, varint_field, eight_field, bytes_field, four_field}
use Rattle.pb_wire.proofs.Again.{next_again}
use Rattle.span_view.specs.Fields.{start, end, told_by, told_and, told}
use Rattle.span_view.specs.Reading.{fields_from, fields_of, is_kind, held}
use Rattle.span_view.specs.Short.{IsBehind, StartsWithBytes, StartsWithNumber, IsPast, none_passed, one_passed, may_tell}
use Rattle.span_view.proofs.Walks.{fields_step}

-- a text by its first two bytes and the rest
pub two_first : (text : List ℕ) → 2 ≤ length text → text ≡ get_or text 0 0 ∷ get_or text 1 0 ∷ drop 2 text
two_first [] room = absurd (omega (arith, room))
two_first (a ∷ []) room = absurd (omega (arith, room))
two_first (a ∷ b ∷ rest) room = refl

-- a number that has one byte
one_byte : (b : ℕ) → b < 128 → IsVarint (b ∷ []) b
one_byte b small = record {
  whole = b;
  spelled = last_byte small;
  short = omega arith;
  kept = omega (arith, small);
}

-- a tag that has one
short_tag : (t : ℕ) (kind : WireType) → 8 ≤ t → t < 128 → t % 8 ≡ code kind → IsTag (t ∷ []) (t / 8) kind
short_tag t kind some small is =
    let whole : 8 * (t / 8) + code kind ≡ t = omega (arith, is) in
    record {
      spelled = subst (λ n. IsVarint (t ∷ []) n) (sym whole) (one_byte t small);
      numbered = omega (arith, some);
      fits = omega (arith, small, whole);
    }

-- what begins with a field
begins : (text front rest : List ℕ) (field : Entry) → text ≡ front ++ rest → IsField 0 front field
    → fields_of text ≡ field ∷ fields_of rest
begins text front rest field parts first =
    fields_step text
    ∙ ap (fields_from fields_of) (next_again 0 text field rest (record { front = front; parts = parts; first = first }))

module _ (text held : List ℕ) (t : ℕ) (front : text ≡ t ∷ held) (some : 8 ≤ t) (small : t < 128) where
  -- a number of one byte
  pub number_first : (x : ℕ) (rest : List ℕ) → t % 8 ≡ 0 → held ≡ x ∷ rest → x < 128 → IsBehind (t / 8) text rest
  number_first x rest kind next one = record {
    value = Varint x;
    first = begins text (t ∷ x ∷ []) rest (record { number = t / 8; value = Varint x }) (front ∙ ap (λ bs. t ∷ bs) next)
        (varint_field (short_tag t types.Varint some small kind) (one_byte x one));
    shorter = let whole : length text ≡ length (t ∷ x ∷ rest) = ap length (front ∙ ap (λ bs. t ∷ bs) next) in omega (arith, whole);
  }

  eight_begins : t % 8 ≡ 1 → 8 ≤ length held
      → fields_of text ≡ record { number = t / 8; value = Eight (take 8 held) } ∷ fields_of (drop 8 held)
  eight_begins kind room =
      begins text (t ∷ take 8 held) (drop 8 held) (record { number = t / 8; value = Eight (take 8 held) })
      (front ∙ ap (λ bs. t ∷ bs) (sym (take-append-drop 8 held)))
      (eight_field (short_tag t types.Eight some small kind) (let size = length-take 8 held in omega (arith, size, room)))

  -- eight bytes
  pub eight_first : t % 8 ≡ 1 → 8 ≤ length held → IsBehind (t / 8) text (drop 8 held)
  eight_first kind room = record {
    value = Eight (take 8 held);
    first = eight_begins kind room;
    shorter = let whole : length text ≡ length (t ∷ held) = ap length front in let left = length-drop 8 held in omega (arith, whole, left);
  }

  -- the same by the number that they spell
  pub eight_starts : t % 8 ≡ 1 → 8 ≤ length held
      → StartsWithNumber (t / 8) text (from_le_bytes w64 (take 8 held)) (drop 8 held)
  eight_starts kind room = record {
    spelling = take 8 held;
    first = eight_begins kind room;
    spells = refl;
  }

  -- at most 127 bytes
  pub bytes_first : (n : ℕ) (rest : List ℕ) → t % 8 ≡ 2 → held ≡ n ∷ rest → n < 128 → n ≤ length rest
      → StartsWithBytes (t / 8) text (take n rest) (drop n rest)
  bytes_first n rest kind next few room =
      let size : length (take n rest) ≡ n = (let most = length-take n rest in omega (arith, most, room)) in
      let parts : n ∷ rest ≡ n ∷ (take n rest ++ drop n rest) = ap (λ bs. n ∷ bs) (sym (take-append-drop n rest)) in
      record {
        first = begins text (t ∷ n ∷ take n rest) (drop n rest) (record { number = t / 8; value = Bytes (take n rest) })
            (front ∙ ap (λ bs. t ∷ bs) (next ∙ parts))
            (bytes_field (short_tag t types.Bytes some small kind) (subst (λ k. IsVarint (n ∷ []) k) (sym size) (one_byte n few)));
        shorter = let whole : length text ≡ length (t ∷ n ∷ rest) = ap length (front ∙ ap (λ bs. t ∷ bs) next) in let left = length-drop n rest in omega (arith, whole, left);
      }

-- number 16 with four bytes
flags_tag : IsTag (133 ∷ 1 ∷ []) 16 types.Four
flags_tag = record {
  spelled = record {
    whole = 133;
    spelled = more_bytes {b = 133} {high = 1} {text = 1 ∷ []} (omega arith) (last_byte (omega arith));
    short = omega arith;
    kept = refl;
  };
  numbered = omega arith;
  fits = omega arith;
}

pub flags_first : (text behind held : List ℕ) → text ≡ 133 ∷ behind → behind ≡ 1 ∷ held → 4 ≤ length held
    → IsBehind 16 text (drop 4 held)
flags_first text behind held front next room =
    let parts : text ≡ 133 ∷ 1 ∷ held = front ∙ ap (λ bs. 133 ∷ bs) next in
    record {
      value = Four (take 4 held);
      first = begins text (133 ∷ 1 ∷ take 4 held) (drop 4 held) (record { number = 16; value = Four (take 4 held) })
          (parts ∙ ap (λ bs. 133 ∷ 1 ∷ bs) (sym (take-append-drop 4 held)))
          (four_field flags_tag (let size = length-take 4 held in omega (arith, size, room)));
      shorter = let whole : length text ≡ length (133 ∷ 1 ∷ held) = ap length parts in let left = length-drop 4 held in omega (arith, whole, left);
    }

-- what bytes stand in it doesn't matter to what passes over the field
pub passed : {n : ℕ} {text content rest : List ℕ} → StartsWithBytes n text content rest → IsBehind n text rest
passed {content = content} starts = record { value = Bytes content; first = starts.first; shorter = starts.shorter }

-- a field of another number isn't held
other_held : (n other : ℕ) (kind : WireType) (v : Datum) (text rest : List ℕ)
    → fields_of text ≡ record { number = other; value = v } ∷ fields_of rest → (other == n) ≡ false
    → held n kind (fields_of text) ≡ held n kind (fields_of rest)
other_held n other kind v text rest first differs =
    ap (held n kind) first
    ∙ ap (λ b. if b && is_kind kind v then v ∷ held n kind (fields_of rest) else held n kind (fields_of rest)) differs

pub other_passed : (n other : ℕ) (kind : WireType) (text rest : List ℕ) → IsBehind other text rest → (other == n) ≡ false
    → held n kind (fields_of text) ≡ held n kind (fields_of rest)
other_passed n other kind text rest behind differs = other_held n other kind behind.value text rest behind.first differs

-- nor is one that was passed over, if any was
pub past_held : (n other : ℕ) (kind : WireType) (text rest : List ℕ) → IsPast other text rest → (other == n) ≡ false
    → held n kind (fields_of text) ≡ held n kind (fields_of rest)
past_held n other kind text rest none_passed differs = refl
past_held n other kind text rest (one_passed behind) differs = other_passed n other kind text rest behind differs

none_of : (a b c d : Bool) → (a || b || c || d) ≡ false → (a ≡ false) × (b ≡ false) × (c ≡ false) × (d ≡ false)
none_of true b c d is = absurd (let clash : true ≡ false = is in cc)
none_of false true c d is = absurd (let clash : true ≡ false = is in cc)
none_of false false true d is = absurd (let clash : true ≡ false = is in cc)
none_of false false false true is = absurd (let clash : true ≡ false = is in cc)
none_of false false false false is = (refl, refl, refl, refl)

-- nor does a field tell anything whose number isn't one of those that do
silent : (n : ℕ) (v : Datum) → may_tell n ≡ false → told_by n v ≡ None
silent n (Varint x) is = refl
silent n (Eight bs) is =
    let each = none_of (n == 7) (n == 8) (n == 9) (n == 15) is in
    rw (each.0, each.1) refl
silent n (Bytes bs) is =
    let each = none_of (n == 7) (n == 8) (n == 9) (n == 15) is in
    rw (each.2, each.3) refl
silent n (Four bs) is = refl
silent n (Group bs) is = refl

pub silent_passed : (n : ℕ) (text rest : List ℕ) → IsBehind n text rest → may_tell n ≡ false
    → told (fields_of text) ≡ told (fields_of rest)
silent_passed n text rest behind is =
    ap told behind.first ∙ ap (λ fact. told_and fact (told (fields_of rest))) (silent n behind.value is)

pub past_told : (n : ℕ) (text rest : List ℕ) → IsPast n text rest → may_tell n ≡ false
    → told (fields_of text) ≡ told (fields_of rest)
past_told n text rest none_passed is = refl
past_told n text rest (one_passed behind) is = silent_passed n text rest behind is

-- a time that stands first is told first
pub start_told : (text rest : List ℕ) (time : ℕ) → StartsWithNumber 7 text time rest
    → told (fields_of text) ≡ start time ∷ told (fields_of rest)
start_told text rest time starts =
    ap told starts.first ∙ ap (λ n. start n ∷ told (fields_of rest)) (sym starts.spells)

pub end_told : (text rest : List ℕ) (time : ℕ) → StartsWithNumber 8 text time rest
    → told (fields_of text) ≡ end time ∷ told (fields_of rest)
end_told text rest time starts =
    ap told starts.first ∙ ap (λ n. end n ∷ told (fields_of rest)) (sym starts.spells)

-- an empty text tells nothing
pub empty_told : (text : List ℕ) → text ≡ [] → told (fields_of text) ≡ []
empty_told text empty = ap (λ bs. told (fields_of bs)) empty ∙ ap told (fields_step [])
