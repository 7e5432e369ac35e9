-- What is told field by field is what a view tells.
use Rattle.std.proofs.Common.{◌≡◌, ◌%◌, ◌^◌, ℕ, Bool, true, false, ◌&&◌, ◌==◌, ◌++◌, List, [], ◌∷◌, map, refl, sym, ap, subst, ◌∙◌, arith}
use Rattle.std.specs.Prelude.{if◌then◌else◌, Option, Some, None}
use Rattle.std.specs.Int.{w32, w64, cast_signed, from_le_bytes}
use Rattle.std.proofs.lemmas.Bool.{eqb-true, ne_eqb}
use Rattle.pb_wire.specs.declared.field.WireType.TheVariants as types
use Rattle.pb_wire.specs.Grammar.{Datum, Varint, Eight, Bytes, Four, Group, Entry}
use Rattle.span_view.specs.Facts.{AttributeFact, AreText}
use Rattle.span_view.specs.Fields.{FieldFact, start, end, status, attribute, told_by, told_and, told, told_of, first_start, first_end, first_status, attributes_told}
use Rattle.span_view.specs.Reading.{fields_of, is_kind, held, first_bytes, first_eight, first_varint, all_bytes, attribute_in, attributes_in, code_in, facts_of}
use Rattle.span_view.proofs.Walks.{fields_step, no_attributes}

-- a number is one of two at most
apart : (n k m : ℕ) → (k ≡ m → false ≡ true) → (n == k) ≡ true → (n == m) ≡ false
apart n k m other is = ne_eqb n m (λ same. let clash : false ≡ true = other (sym (eqb-true n k is) ∙ same) in cc)

-- what isn't of the wire type isn't held
skip : (a : Bool) (d : Datum) (hs : List Datum) → hs ≡ (if a && false then d ∷ hs else hs)
skip true d hs = refl
skip false d hs = refl

-- ---- one field, before others

module _ (fs : List FieldFact) (hs : List Datum) where
  started : (n : ℕ) (v : Datum) → first_start fs ≡ first_eight hs
      → first_start (told_and (told_by n v) fs) ≡ first_eight (if (n == 7) && is_kind types.Eight v then v ∷ hs else hs)
  started n (Varint x) rest = rest ∙ ap first_eight (skip (n == 7) (Varint x) hs)
  started n (Eight bs) rest = by (n == 7) (n == 8)
    where
      by : (a b : Bool) → first_start (told_and (if a then Some (start (from_le_bytes w64 bs)) else if b then Some (end (from_le_bytes w64 bs)) else None) fs) ≡ first_eight (if a && true then Eight bs ∷ hs else hs)
      by true b = refl
      by false true = rest
      by false false = rest
  started n (Bytes bs) rest = by (n == 9) (n == 15) ∙ rest ∙ ap first_eight (skip (n == 7) (Bytes bs) hs)
    where
      by : (a b : Bool) → first_start (told_and (if a then Some (attribute (attribute_in bs)) else if b then Some (status (code_in bs)) else None) fs) ≡ first_start fs
      by true b = refl
      by false true = refl
      by false false = refl
  started n (Four bs) rest = rest ∙ ap first_eight (skip (n == 7) (Four bs) hs)
  started n (Group bs) rest = rest ∙ ap first_eight (skip (n == 7) (Group bs) hs)

  ended : (n : ℕ) (v : Datum) → first_end fs ≡ first_eight hs
      → first_end (told_and (told_by n v) fs) ≡ first_eight (if (n == 8) && is_kind types.Eight v then v ∷ hs else hs)
  ended n (Varint x) rest = rest ∙ ap first_eight (skip (n == 8) (Varint x) hs)
  ended n (Eight bs) rest = by (n == 7) (n == 8) (apart n 7 8 (λ e. absurd (omega (arith, e))))
    where
      by : (a b : Bool) → (a ≡ true → b ≡ false) → first_end (told_and (if a then Some (start (from_le_bytes w64 bs)) else if b then Some (end (from_le_bytes w64 bs)) else None) fs) ≡ first_eight (if b && true then Eight bs ∷ hs else hs)
      by true true other = absurd (let clash : true ≡ false = other refl in cc)
      by true false other = rest
      by false true other = refl
      by false false other = rest
  ended n (Bytes bs) rest = by (n == 9) (n == 15) ∙ rest ∙ ap first_eight (skip (n == 8) (Bytes bs) hs)
    where
      by : (a b : Bool) → first_end (told_and (if a then Some (attribute (attribute_in bs)) else if b then Some (status (code_in bs)) else None) fs) ≡ first_end fs
      by true b = refl
      by false true = refl
      by false false = refl
  ended n (Four bs) rest = rest ∙ ap first_eight (skip (n == 8) (Four bs) hs)
  ended n (Group bs) rest = rest ∙ ap first_eight (skip (n == 8) (Group bs) hs)

  stated : (n : ℕ) (v : Datum) → first_status fs ≡ code_in (first_bytes hs)
      → first_status (told_and (told_by n v) fs) ≡ code_in (first_bytes (if (n == 15) && is_kind types.Bytes v then v ∷ hs else hs))
  stated n (Varint x) rest = rest ∙ ap (λ ds. code_in (first_bytes ds)) (skip (n == 15) (Varint x) hs)
  stated n (Eight bs) rest = by (n == 7) (n == 8) ∙ rest ∙ ap (λ ds. code_in (first_bytes ds)) (skip (n == 15) (Eight bs) hs)
    where
      by : (a b : Bool) → first_status (told_and (if a then Some (start (from_le_bytes w64 bs)) else if b then Some (end (from_le_bytes w64 bs)) else None) fs) ≡ first_status fs
      by true b = refl
      by false true = refl
      by false false = refl
  stated n (Bytes bs) rest = by (n == 9) (n == 15) (apart n 9 15 (λ e. absurd (omega (arith, e))))
    where
      by : (a b : Bool) → (a ≡ true → b ≡ false) → first_status (told_and (if a then Some (attribute (attribute_in bs)) else if b then Some (status (code_in bs)) else None) fs) ≡ code_in (first_bytes (if b && true then Bytes bs ∷ hs else hs))
      by true true other = absurd (let clash : true ≡ false = other refl in cc)
      by true false other = rest
      by false true other = refl
      by false false other = rest
  stated n (Four bs) rest = rest ∙ ap (λ ds. code_in (first_bytes ds)) (skip (n == 15) (Four bs) hs)
  stated n (Group bs) rest = rest ∙ ap (λ ds. code_in (first_bytes ds)) (skip (n == 15) (Group bs) hs)

  owned : (n : ℕ) (v : Datum) → attributes_told fs ≡ map attribute_in (all_bytes hs)
      → attributes_told (told_and (told_by n v) fs) ≡ map attribute_in (all_bytes (if (n == 9) && is_kind types.Bytes v then v ∷ hs else hs))
  owned n (Varint x) rest = rest ∙ ap (λ ds. map attribute_in (all_bytes ds)) (skip (n == 9) (Varint x) hs)
  owned n (Eight bs) rest = by (n == 7) (n == 8) ∙ rest ∙ ap (λ ds. map attribute_in (all_bytes ds)) (skip (n == 9) (Eight bs) hs)
    where
      by : (a b : Bool) → attributes_told (told_and (if a then Some (start (from_le_bytes w64 bs)) else if b then Some (end (from_le_bytes w64 bs)) else None) fs) ≡ attributes_told fs
      by true b = refl
      by false true = refl
      by false false = refl
  owned n (Bytes bs) rest = by (n == 9) (n == 15)
    where
      by : (a b : Bool) → attributes_told (told_and (if a then Some (attribute (attribute_in bs)) else if b then Some (status (code_in bs)) else None) fs) ≡ map attribute_in (all_bytes (if a && true then Bytes bs ∷ hs else hs))
      by true b = ap (λ others. attribute_in bs ∷ others) rest
      by false true = rest
      by false false = rest
  owned n (Four bs) rest = rest ∙ ap (λ ds. map attribute_in (all_bytes ds)) (skip (n == 9) (Four bs) hs)
  owned n (Group bs) rest = rest ∙ ap (λ ds. map attribute_in (all_bytes ds)) (skip (n == 9) (Group bs) hs)

-- ---- the fields of a span

starts : (es : List Entry) → first_start (told es) ≡ first_eight (held 7 types.Eight es)
starts [] = refl
starts (e ∷ es) = started (told es) (held 7 types.Eight es) e.number e.value (starts es)

ends : (es : List Entry) → first_end (told es) ≡ first_eight (held 8 types.Eight es)
ends [] = refl
ends (e ∷ es) = ended (told es) (held 8 types.Eight es) e.number e.value (ends es)

states : (es : List Entry) → first_status (told es) ≡ code_in (first_bytes (held 15 types.Bytes es))
states [] = sym (ap (λ es. cast_signed w32 (first_varint (held 3 types.Varint es) % 2 ^ 32)) (fields_step []))
states (e ∷ es) = stated (told es) (held 15 types.Bytes es) e.number e.value (states es)

owns : (es : List Entry) → attributes_told (told es) ≡ map attribute_in (all_bytes (held 9 types.Bytes es))
owns [] = refl
owns (e ∷ es) = owned (told es) (held 9 types.Bytes es) e.number e.value (owns es)

-- ---- and those of its resource behind them

no_start : (more : List AttributeFact) → first_start (map attribute more) ≡ 0
no_start [] = refl
no_start (a ∷ more) = no_start more

no_end : (more : List AttributeFact) → first_end (map attribute more) ≡ 0
no_end [] = refl
no_end (a ∷ more) = no_end more

no_status : (more : List AttributeFact) → first_status (map attribute more) ≡ first_status []
no_status [] = refl
no_status (a ∷ more) = no_status more

all_attributes : (more : List AttributeFact) → attributes_told (map attribute more) ≡ more
all_attributes [] = refl
all_attributes (a ∷ more) = ap (λ others. a ∷ others) (all_attributes more)

first_start-before : (fs : List FieldFact) (more : List AttributeFact) → first_start (fs ++ map attribute more) ≡ first_start fs
first_start-before [] more = no_start more
first_start-before (start n ∷ fs) more = refl
first_start-before (end n ∷ fs) more = first_start-before fs more
first_start-before (status code ∷ fs) more = first_start-before fs more
first_start-before (attribute a ∷ fs) more = first_start-before fs more

first_end-before : (fs : List FieldFact) (more : List AttributeFact) → first_end (fs ++ map attribute more) ≡ first_end fs
first_end-before [] more = no_end more
first_end-before (start n ∷ fs) more = first_end-before fs more
first_end-before (end n ∷ fs) more = refl
first_end-before (status code ∷ fs) more = first_end-before fs more
first_end-before (attribute a ∷ fs) more = first_end-before fs more

first_status-before : (fs : List FieldFact) (more : List AttributeFact) → first_status (fs ++ map attribute more) ≡ first_status fs
first_status-before [] more = no_status more
first_status-before (start n ∷ fs) more = first_status-before fs more
first_status-before (end n ∷ fs) more = first_status-before fs more
first_status-before (status code ∷ fs) more = refl
first_status-before (attribute a ∷ fs) more = first_status-before fs more

attributes-before : (fs : List FieldFact) (more : List AttributeFact) → attributes_told (fs ++ map attribute more) ≡ attributes_told fs ++ more
attributes-before [] more = all_attributes more
attributes-before (start n ∷ fs) more = attributes-before fs more
attributes-before (end n ∷ fs) more = attributes-before fs more
attributes-before (status code ∷ fs) more = attributes-before fs more
attributes-before (attribute a ∷ fs) more = ap (λ others. a ∷ others) (attributes-before fs more)

-- ---- both texts

pub start_is : (span resource : List ℕ) → first_start (told_of span resource) ≡ (facts_of span resource).start_time_unix_nano
start_is span resource = first_start-before (told (fields_of span)) (attributes_in 1 resource) ∙ starts (fields_of span)

pub end_is : (span resource : List ℕ) → first_end (told_of span resource) ≡ (facts_of span resource).end_time_unix_nano
end_is span resource = first_end-before (told (fields_of span)) (attributes_in 1 resource) ∙ ends (fields_of span)

pub status_is : (span resource : List ℕ) → first_status (told_of span resource) ≡ (facts_of span resource).status
status_is span resource = first_status-before (told (fields_of span)) (attributes_in 1 resource) ∙ states (fields_of span)

pub attributes_are : (span resource : List ℕ) → attributes_told (told_of span resource) ≡ (facts_of span resource).attributes
attributes_are span resource =
    attributes-before (told (fields_of span)) (attributes_in 1 resource)
    ∙ ap (λ own. own ++ attributes_in 1 resource) (owns (fields_of span))

-- ---- where a span has no more to tell

no_own : (resource : List ℕ) → told_of [] resource ≡ map attribute (attributes_in 1 resource)
no_own resource = ap (λ es. told es ++ map attribute (attributes_in 1 resource)) (fields_step [])

behind_own : (span resource : List ℕ) → told (fields_of span) ≡ [] → told_of span resource ≡ map attribute (attributes_in 1 resource)
behind_own span resource none = ap (λ fs. fs ++ map attribute (attributes_in 1 resource)) none

-- nothing at all is told
pub nothing_told : told_of [] [] ≡ []
nothing_told = no_own [] ∙ ap (map attribute) (no_attributes 1)

pub none_told : (span resource : List ℕ) → told (fields_of span) ≡ [] → attributes_in 1 resource ≡ [] → told_of span resource ≡ []
none_told span resource none nor = behind_own span resource none ∙ ap (map attribute) nor

-- an attribute of the resource is told next
pub resource_told : (span resource rest : List ℕ) (a : AttributeFact) → told (fields_of span) ≡ []
    → attributes_in 1 resource ≡ a ∷ attributes_in 1 rest → told_of span resource ≡ attribute a ∷ told_of [] rest
resource_told span resource rest a none found =
    behind_own span resource none ∙ ap (map attribute) found ∙ ap (λ others. attribute a ∷ others) (sym (no_own rest))

-- ---- what is text

-- what is text with others is text by itself
pub text_before : (fs : List FieldFact) (more : List AttributeFact) → AreText (attributes_told (fs ++ map attribute more)) → AreText (attributes_told fs)
text_before [] more text = tt
text_before (start n ∷ fs) more text = text_before fs more text
text_before (end n ∷ fs) more text = text_before fs more text
text_before (status code ∷ fs) more text = text_before fs more text
text_before (attribute a ∷ fs) more text = (text.0, text_before fs more text.1)

-- those behind it
pub text_behind : (o : Option FieldFact) (fs : List FieldFact) → AreText (attributes_told (told_and o fs)) → AreText (attributes_told fs)
text_behind None fs text = text
text_behind (Some (start n)) fs text = text
text_behind (Some (end n)) fs text = text
text_behind (Some (status code)) fs text = text
text_behind (Some (attribute a)) fs text = text.1

-- what comes behind an attribute of the resource
pub text_left : (span resource rest : List ℕ) (a : AttributeFact) → told_of span resource ≡ attribute a ∷ told_of [] rest
    → AreText (attributes_told (told_of span resource)) → AreText (attributes_told (told_of [] rest))
text_left span resource rest a next text =
    let all : AreText (a ∷ attributes_told (told_of [] rest)) = subst (λ fs. AreText (attributes_told fs)) next text in
    all.1
