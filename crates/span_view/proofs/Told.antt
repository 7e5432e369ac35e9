-- What a view tells over canonical text is what the message is.
use Rattle.std.proofs.Common.{◌≡◌, ℕ, ℤ, zero, suc, true, false, ◌<◌, ◌^◌, ◌%◌, ◌==◌, List, [], ◌∷◌, ◌++◌, length, map, filter, Option, Some, None, option_map, IfSome, refl, sym, ap, subst, ◌∙◌, arith, length-append, append-nil}
use Rattle.std.proofs.lemmas.Bool.Decides.{nat_tests}
use Rattle.std.proofs.lemmas.Bool.{ne_eqb}
use Rattle.std.proofs.lemmas.Int.{to_z-of_z}
use Rattle.std.proofs.lemmas.Nat.{from_le_bytes-to_le_bytes_8}
use Rattle.std.specs.Int.{w32, w64, cast_signed, cast_unsigned, to_le_bytes}
use Rattle.std.specs.List.{AllByRecursion}
use Rattle.pb_wire.specs.declared.field.WireType.TheVariants as types
use Rattle.pb_wire.specs.Grammar.{Datum, Varint, Eight, Bytes, Four, Group, Entry}
use Rattle.otlp_trace.specs.Data.{AnyValueData, any_value, KindData, KeyValueData, bare_key, key_value, ResourceData, StatusData, SpanData}
use Rattle.otlp_trace.specs.Data as otlp
use Rattle.otlp_trace.specs.Text.{bytes_field, any_text, kind_text, key_value_text, status_text, repeated, embedded}
use Rattle.otlp_trace.proofs.Spelled.{bytes_within}
use Rattle.span_view.specs.Canonical.{NotInSpan, NotInStatus, NotInResource, NotInKeyValue, NotInAnyValue, Skipped, SoundKind, SoundValue, SoundKeyValue, SoundStatus, IsSpanText, IsResourceText}
use Rattle.span_view.specs.Facts.{ValueFact, unset, int, AttributeFact, SpanFacts, kind_fact, value_fact, key_value_fact, status_fact, resource_attributes, facts, IsValueText, IsAttributeText, AreText}
use Rattle.span_view.specs.Reading.{fields_of, is_kind, has, held, first_bytes, first_eight, first_varint, all_bytes, member, first_member, value_in, attribute_in, attributes_in, code_in, facts_of}
use Rattle.span_view.proofs.Walks.{no_attributes, fields_step}
use Rattle.span_view.proofs.Parts.{numbered, parts_text, parts_fields, parts_short, not_kind, not_number, canonical_fields, canonical_held, parts_held, unless, some}
use Rattle.otlp_trace.proofs.Signed.{low32}
use Rattle.span_view.proofs.Messages.{kind_parts, kind_are, bare_parts, bare_are, pair_parts, pair_are, status_parts, status_are, resource_parts, resource_are, span_parts, span_are, span_same}

-- ---- what is left out at its default

filled : (n : ℕ) → (suc n == 0) ≡ false
filled n = grind (arith, nat_tests)

some_bytes_told : (n : ℕ) (bs : List ℕ) → first_bytes (filter (is_kind types.Bytes) (unless (length bs == 0) n (Bytes bs)).values ++ []) ≡ bs
some_bytes_told n [] = refl
some_bytes_told n (b ∷ bs) = rw (filled (length bs)) refl

some_eight_told : (n x : ℕ) → x < 2 ^ 64 → first_eight (filter (is_kind types.Eight) (unless (x == 0) n (Eight (to_le_bytes w64 x))).values ++ []) ≡ x
some_eight_told n zero fits = refl
some_eight_told n (suc x) fits = rw (filled x) (from_le_bytes-to_le_bytes_8 (suc x) fits)

some_number_told : (n x : ℕ) → first_varint (filter (is_kind types.Varint) (unless (x == 0) n (Varint x)).values ++ []) ≡ x
some_number_told n zero = refl
some_number_told n (suc x) = rw (filled x) refl

many_told : {A : Type 0} (text : A → List ℕ) (xs : List A) → all_bytes (filter (is_kind types.Bytes) (map (λ x. Bytes (text x)) xs) ++ []) ≡ map text xs
many_told text [] = refl
many_told text (x ∷ xs) = ap (λ bs. text x ∷ bs) (many_told text xs)

-- ---- what is kept isn't read

span_bytes : (m : ℕ) (v : Datum) → NotInSpan m v → (has 1 types.Bytes (numbered m v) ≡ false) × (has 2 types.Bytes (numbered m v) ≡ false) × (has 9 types.Bytes (numbered m v) ≡ false) × (has 15 types.Bytes (numbered m v) ≡ false)
span_bytes m (Bytes bs) h = (not_number m 1 h.0, not_number m 2 h.1, not_number m 9 h.2, not_number m 15 h.3)
span_bytes m (Varint x) h = (not_kind (m == 1), not_kind (m == 2), not_kind (m == 9), not_kind (m == 15))
span_bytes m (Eight bs) h = (not_kind (m == 1), not_kind (m == 2), not_kind (m == 9), not_kind (m == 15))
span_bytes m (Four bs) h = (not_kind (m == 1), not_kind (m == 2), not_kind (m == 9), not_kind (m == 15))
span_bytes m (Group bs) h = (not_kind (m == 1), not_kind (m == 2), not_kind (m == 9), not_kind (m == 15))

span_eights : (m : ℕ) (v : Datum) → NotInSpan m v → (has 7 types.Eight (numbered m v) ≡ false) × (has 8 types.Eight (numbered m v) ≡ false)
span_eights m (Eight bs) h = (not_number m 7 h.0, not_number m 8 h.1)
span_eights m (Varint x) h = (not_kind (m == 7), not_kind (m == 8))
span_eights m (Bytes bs) h = (not_kind (m == 7), not_kind (m == 8))
span_eights m (Four bs) h = (not_kind (m == 7), not_kind (m == 8))
span_eights m (Group bs) h = (not_kind (m == 7), not_kind (m == 8))

status_code : (m : ℕ) (v : Datum) → NotInStatus m v → has 3 types.Varint (numbered m v) ≡ false
status_code m (Varint x) h = not_number m 3 h
status_code m (Eight bs) h = not_kind (m == 3)
status_code m (Bytes bs) h = not_kind (m == 3)
status_code m (Four bs) h = not_kind (m == 3)
status_code m (Group bs) h = not_kind (m == 3)

resource_bytes : (m : ℕ) (v : Datum) → NotInResource m v → has 1 types.Bytes (numbered m v) ≡ false
resource_bytes m (Bytes bs) h = not_number m 1 h
resource_bytes m (Varint x) h = not_kind (m == 1)
resource_bytes m (Eight bs) h = not_kind (m == 1)
resource_bytes m (Four bs) h = not_kind (m == 1)
resource_bytes m (Group bs) h = not_kind (m == 1)

key_value_bytes : (m : ℕ) (v : Datum) → NotInKeyValue m v → (has 1 types.Bytes (numbered m v) ≡ false) × (has 2 types.Bytes (numbered m v) ≡ false)
key_value_bytes m (Bytes bs) h = (not_number m 1 h.0, not_number m 2 h.1)
key_value_bytes m (Varint x) h = (not_kind (m == 1), not_kind (m == 2))
key_value_bytes m (Eight bs) h = (not_kind (m == 1), not_kind (m == 2))
key_value_bytes m (Four bs) h = (not_kind (m == 1), not_kind (m == 2))
key_value_bytes m (Group bs) h = (not_kind (m == 1), not_kind (m == 2))

no_member : (m : ℕ) (v : Datum) → NotInAnyValue m v → member m v ≡ unset
no_member m (Varint x) h = rw (ne_eqb m 2 h.0, ne_eqb m 3 h.1) refl
no_member m (Eight bs) h = rw (ne_eqb m 4 h) refl
no_member m (Bytes bs) h = rw (ne_eqb m 1 h.0, ne_eqb m 5 h.1, ne_eqb m 6 h.2, ne_eqb m 7 h.3) refl
no_member m (Four bs) h = refl
no_member m (Group bs) h = refl

no_first_member : (es : List Entry) → AllByRecursion (λ e. NotInAnyValue e.number e.value) es → first_member es ≡ unset
no_first_member [] h = refl
no_first_member (e ∷ es) h = no_member e.number e.value h.0

-- ---- values

kind_told : (kind : KindData) (unknown : List ℕ) → SoundKind kind → Skipped NotInAnyValue unknown → length (parts_text (kind_parts kind) unknown) < 2 ^ 64 → value_in (parts_text (kind_parts kind) unknown) ≡ kind_fact kind
kind_told kind unknown sound kept short = ap first_member (canonical_fields (kind_parts kind) (kind_are kind sound) NotInAnyValue unknown kept short) ∙ first kind sound
  where
    first : (kind : KindData) → SoundKind kind → first_member (parts_fields (kind_parts kind) kept.fields) ≡ kind_fact kind
    first otlp.unset h = no_first_member kept.fields kept.unread
    first (otlp.string bs) h = refl
    first (otlp.boolean true) h = refl
    first (otlp.boolean false) h = refl
    first (otlp.int z) h = ap int (to_z-of_z w64 z h)
    first (otlp.double bs) h = refl
    first (otlp.array a) h = refl
    first (otlp.kvlist l) h = refl
    first (otlp.bytes bs) h = refl

kind_same : (kind : KindData) (unknown : List ℕ) → parts_text (kind_parts kind) unknown ≡ kind_text kind ++ unknown
kind_same otlp.unset unknown = refl
kind_same (otlp.string bs) unknown = refl
kind_same (otlp.boolean b) unknown = refl
kind_same (otlp.int z) unknown = refl
kind_same (otlp.double bs) unknown = refl
kind_same (otlp.array a) unknown = refl
kind_same (otlp.kvlist l) unknown = refl
kind_same (otlp.bytes bs) unknown = refl

value_told : (v : AnyValueData) → SoundValue v → length (any_text v) < 2 ^ 64 → value_in (any_text v) ≡ value_fact v
value_told (any_value kind unknown) sound short =
    ap value_in (sym (kind_same kind unknown)) ∙ kind_told kind unknown sound.0 sound.1 (subst (λ t. length t < 2 ^ 64) (sym (kind_same kind unknown)) short)

-- ---- attributes

attribute_is : {k l : List ℕ} {u v : ValueFact} → k ≡ l → u ≡ v → ◌≡◌ {A = AttributeFact} (record { key = k; value = u }) (record { key = l; value = v })
attribute_is {k} {l} {u} {v} key value = ap (λ k. record { key = k; value = u }) key ∙ ap (λ v. record { key = l; value = v }) value

-- an empty text has no value
no_value : value_in [] ≡ unset
no_value = ap first_member (fields_step [])

key_value_told : (p : KeyValueData) → SoundKeyValue p → length (key_value_text p) < 2 ^ 64 → attribute_in (key_value_text p) ≡ key_value_fact p
key_value_told (bare_key key unknown) sound short =
    let text = parts_text (bare_parts key) unknown in
    let keys : held 1 types.Bytes (fields_of text) ≡ _ = canonical_held (bare_parts key) (bare_are key) NotInKeyValue unknown sound.1 short 1 types.Bytes (λ m v h. (key_value_bytes m v h).0) in
    let values : held 2 types.Bytes (fields_of text) ≡ [] = canonical_held (bare_parts key) (bare_are key) NotInKeyValue unknown sound.1 short 2 types.Bytes (λ m v h. (key_value_bytes m v h).1) in
    attribute_is (ap first_bytes keys ∙ some_bytes_told 1 key) (ap (λ ds. value_in (first_bytes ds)) values ∙ no_value)
key_value_told (key_value key v unknown) sound short =
    let ps = pair_parts key (any_text v) in
    let text = parts_text ps unknown in
    let keys : held 1 types.Bytes (fields_of text) ≡ _ = canonical_held ps (pair_are key (any_text v)) NotInKeyValue unknown sound.2 short 1 types.Bytes (λ m v h. (key_value_bytes m v h).0) in
    let values : held 2 types.Bytes (fields_of text) ≡ Bytes (any_text v) ∷ [] = canonical_held ps (pair_are key (any_text v)) NotInKeyValue unknown sound.2 short 2 types.Bytes (λ m v h. (key_value_bytes m v h).1) in
    let fits : length (any_text v) < 2 ^ 64 = omega (arith, (parts_short ps unknown short).1.0, bytes_within 2 (any_text v)) in
    attribute_is (ap first_bytes keys ∙ some_bytes_told 1 key) (ap (λ ds. value_in (first_bytes ds)) values ∙ value_told v sound.1 fits)

key_values_told : (n : ℕ) (ps : List KeyValueData) → AllByRecursion SoundKeyValue ps → length (repeated n key_value_text ps) < 2 ^ 64 → map attribute_in (map key_value_text ps) ≡ map key_value_fact ps
key_values_told n [] sound short = refl
key_values_told n (p ∷ ps) sound short =
    let long = length-append (bytes_field n (key_value_text p)) (repeated n key_value_text ps) in
    rw (key_value_told p sound.0 (omega (arith, short, long, bytes_within n (key_value_text p)))) (ap (λ others. key_value_fact p ∷ others) (key_values_told n ps sound.1 (omega (arith, short, long))))

-- ---- a resource

resource_told : (text : List ℕ) (r : Option ResourceData) → IsResourceText text r → attributes_in 1 text ≡ map key_value_fact (resource_attributes r)
resource_told text None is = ap (attributes_in 1) is ∙ no_attributes 1
resource_told text (Some r) is =
    let ps = resource_parts r in
    let short : length (parts_text ps r.unknown) < 2 ^ 64 = subst (λ t. length t < 2 ^ 64) is.same is.short in
    let all : held 1 types.Bytes (fields_of (parts_text ps r.unknown)) ≡ _ = canonical_held ps (resource_are r is.sound.dropped_attributes_count) NotInResource r.unknown is.sound.unknown short 1 types.Bytes resource_bytes in
    ap (attributes_in 1) is.same ∙ ap (λ ds. map attribute_in (all_bytes ds)) all ∙ ap (map attribute_in) (many_told key_value_text r.attributes)
    ∙ key_values_told 1 r.attributes is.sound.attributes (parts_short ps r.unknown short).0

-- ---- a span

code_told : (s : StatusData) → SoundStatus s → length (status_text s) < 2 ^ 64 → code_in (status_text s) ≡ s.code
code_told s sound short =
    let codes : held 3 types.Varint (fields_of (parts_text (status_parts s) s.unknown)) ≡ _ = canonical_held (status_parts s) (status_are s sound.code) NotInStatus s.unknown sound.unknown short 3 types.Varint status_code in
    ap (λ ds. cast_signed w32 (first_varint ds % 2 ^ 32)) codes ∙ ap (λ x. cast_signed w32 (x % 2 ^ 32)) (some_number_told 3 (cast_unsigned w64 s.code)) ∙ low32 s.code sound.code

-- a missing status is UNSET
status_told : (o : Option StatusData) → IfSome o SoundStatus → length (embedded 15 (option_map status_text o)) < 2 ^ 64 → code_in (first_bytes (filter (is_kind types.Bytes) (some 15 (option_map status_text o)).values ++ [])) ≡ status_fact o
status_told None sound short = ap (λ es. cast_signed w32 (first_varint (held 3 types.Varint es) % 2 ^ 32)) (fields_step [])
status_told (Some s) sound short = code_told s sound (omega (arith, short, bytes_within 15 (status_text s)))

facts_are : {t u p q : List ℕ} {a b c d : ℕ} {x y : ℤ} {l m : List AttributeFact} → t ≡ u → p ≡ q → a ≡ b → c ≡ d → x ≡ y → l ≡ m
    → ◌≡◌ {A = SpanFacts} (record { trace_id = t; span_id = p; start_time_unix_nano = a; end_time_unix_nano = c; status = x; attributes = l }) (record { trace_id = u; span_id = q; start_time_unix_nano = b; end_time_unix_nano = d; status = y; attributes = m })
facts_are ids own_ids starts ends codes attributes = rw (ids, own_ids, starts, ends, codes, attributes) refl

pub span_told : (text resource : List ℕ) (s : SpanData) (r : Option ResourceData) → IsSpanText text s → IsResourceText resource r → facts_of text resource ≡ facts s r
span_told text resource s r is its =
    let ps = span_parts s in
    let same : text ≡ parts_text ps s.unknown = is.same ∙ span_same s in
    let short : length (parts_text ps s.unknown) < 2 ^ 64 = subst (λ t. length t < 2 ^ 64) same is.short in
    let each = parts_short ps s.unknown short in
    let bytes_at : (n : ℕ) → ((m : ℕ) (v : Datum) → NotInSpan m v → has n types.Bytes (numbered m v) ≡ false) → held n types.Bytes (fields_of text) ≡ parts_held n types.Bytes ps [] = λ n unread. ap (λ t. held n types.Bytes (fields_of t)) same ∙ canonical_held ps (span_are s is.sound) NotInSpan s.unknown is.sound.unknown short n types.Bytes unread in
    let eight_at : (n : ℕ) → ((m : ℕ) (v : Datum) → NotInSpan m v → has n types.Eight (numbered m v) ≡ false) → held n types.Eight (fields_of text) ≡ parts_held n types.Eight ps [] = λ n unread. ap (λ t. held n types.Eight (fields_of t)) same ∙ canonical_held ps (span_are s is.sound) NotInSpan s.unknown is.sound.unknown short n types.Eight unread in
    let own : attributes_in 9 text ≡ map key_value_fact s.attributes =
    ap (λ ds. map attribute_in (all_bytes ds)) (bytes_at 9 (λ m v h. (span_bytes m v h).2)) ∙ ap (map attribute_in) (many_told key_value_text s.attributes)
    ∙ key_values_told 9 s.attributes is.sound.attributes each.1.1.1.1.1.1.1.1.0 in
    facts_are
    (ap first_bytes (bytes_at 1 (λ m v h. (span_bytes m v h).0)) ∙ some_bytes_told 1 s.trace_id)
    (ap first_bytes (bytes_at 2 (λ m v h. (span_bytes m v h).1)) ∙ some_bytes_told 2 s.span_id)
    (ap first_eight (eight_at 7 (λ m v h. (span_eights m v h).0)) ∙ some_eight_told 7 s.start_time_unix_nano is.sound.start_time_unix_nano)
    (ap first_eight (eight_at 8 (λ m v h. (span_eights m v h).1)) ∙ some_eight_told 8 s.end_time_unix_nano is.sound.end_time_unix_nano)
    (ap (λ ds. code_in (first_bytes ds)) (bytes_at 15 (λ m v h. (span_bytes m v h).3)) ∙ status_told s.status is.sound.status each.1.1.1.1.1.1.1.1.1.1.1.1.1.1.0)
    (ap (λ l. l ++ attributes_in 1 resource) own ∙ ap (λ l. map key_value_fact s.attributes ++ l) (resource_told resource r its))

-- ---- what is text is UTF-8

key_value_is_text : (p : KeyValueData) → SoundKeyValue p → IsAttributeText (key_value_fact p)
key_value_is_text (bare_key key unknown) sound = record { key = sound.0; value = tt }
key_value_is_text (key_value key (any_value kind u) unknown) sound = record { key = sound.0; value = kind_is_text kind sound.1.0 }
  where
    kind_is_text : (kind : KindData) → SoundKind kind → IsValueText (kind_fact kind)
    kind_is_text otlp.unset h = tt
    kind_is_text (otlp.string bs) h = h
    kind_is_text (otlp.boolean b) h = tt
    kind_is_text (otlp.int z) h = tt
    kind_is_text (otlp.double bs) h = tt
    kind_is_text (otlp.array a) h = tt
    kind_is_text (otlp.kvlist l) h = tt
    kind_is_text (otlp.bytes bs) h = tt

key_values_are_text : (ps : List KeyValueData) (others : List AttributeFact) → AllByRecursion SoundKeyValue ps → AreText others → AreText (map key_value_fact ps ++ others)
key_values_are_text [] others sound text = text
key_values_are_text (p ∷ ps) others sound text = (key_value_is_text p sound.0, key_values_are_text ps others sound.1 text)

resource_is_text : (text : List ℕ) (r : Option ResourceData) → IsResourceText text r → AreText (map key_value_fact (resource_attributes r))
resource_is_text text None is = tt
resource_is_text text (Some r) is = subst AreText (append-nil (map key_value_fact r.attributes)) (key_values_are_text r.attributes [] is.sound.attributes tt)

pub span_is_text : (text resource : List ℕ) (s : SpanData) (r : Option ResourceData) → IsSpanText text s → IsResourceText resource r → AreText (facts_of text resource).attributes
span_is_text text resource s r is its =
    subst (λ (f : SpanFacts). AreText f.attributes) (sym (span_told text resource s r is its)) (key_values_are_text s.attributes (map key_value_fact (resource_attributes r)) is.sound.attributes (resource_is_text resource r its))
