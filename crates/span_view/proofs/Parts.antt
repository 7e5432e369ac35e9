-- Canonical text in parts: each is the fields of one number, and what is kept stands behind them.
use Rattle.std.proofs.Common.{◌≡◌, ◌≢◌, ℕ, ◌+◌, ◌<◌, ◌^◌, Bool, true, false, cond, ◌&&◌, ◌==◌, if◌then◌else◌, List, [], ◌∷◌, ◌++◌, length, map, filter, flat_map, Option, Some, None, refl, sym, ap, subst, ◌∙◌, arith, append_assoc, append-nil, length-append, ◌⊎◌, inl, inr}
use Rattle.std.proofs.lemmas.Bool.{ne_eqb}
use Rattle.std.specs.List.{AllByRecursion}
use Rattle.pb_wire.specs.declared.field.WireType.{WireType}
use Rattle.pb_wire.specs.Grammar.{Datum, Varint, Eight, Bytes, Four, Group, Entry, IsField, Begins, Fields, no_fields, more_fields}
use Rattle.pb_wire.specs.Text.{field_text, IsWritable}
use Rattle.pb_wire.proofs.Again.{next_again}
use Rattle.pb_wire.proofs.Written.{field_written}
use Rattle.otlp_trace.specs.Text.{bytes_field, embedded, repeated}
use Rattle.otlp_trace.proofs.Spelled.{is_number, number_some, number_fits, bytes_within}
use Rattle.span_view.specs.Canonical.{Skipped}
use Rattle.span_view.specs.Reading.{fields_from, fields_of, is_kind, has, held}
use Rattle.span_view.proofs.Walks.{fields_step}
use Rattle.span_view.proofs.Shallower.{field_shallower, fields_shallower}

-- the fields of a text are those that the grammar has in it
pub fields_whole : {d : ℕ} {text : List ℕ} {fields : List Entry} → Fields d text fields → fields_of text ≡ fields
fields_whole (no_fields {depth = d}) = fields_step []
fields_whole (more_fields {depth = d} {front = front} {rest = rest} {field = field} first others) =
    let begins : Begins 0 (front ++ rest) field rest = record { front = front; parts = refl; first = field_shallower first 0 (omega arith) } in
    fields_step (front ++ rest) ∙ ap (fields_from fields_of) (next_again 0 (front ++ rest) field rest begins) ∙ ap (λ es. field ∷ es) (fields_whole others)

-- ---- parts

abbrev pub numbered : ℕ → Datum → Entry
numbered n d = record { number = n; value = d }

pub record Part : Type 0 where
  pub number : ℕ
  pub values : List Datum
  pub text : List ℕ

-- what a field can hold, if its text isn't too long
abbrev pub Storable : Datum → Type 0
Storable (Varint x) = x < 2 ^ 64
Storable (Eight bs) = length bs ≡ 8
Storable (Bytes bs) = Unit {0}
Storable (Four bs) = length bs ≡ 4
Storable (Group bs) = ⊥

pub record IsPart (p : Part) : Type 0 where
  pub number : is_number p.number ≡ true
  pub values : AllByRecursion Storable p.values
  pub same : flat_map (λ d. field_text (numbered p.number d)) p.values ≡ p.text

abbrev pub parts_text : List Part → List ℕ → List ℕ
parts_text [] rest = rest
parts_text (p ∷ ps) rest = p.text ++ parts_text ps rest

abbrev pub parts_fields : List Part → List Entry → List Entry
parts_fields [] es = es
parts_fields (p ∷ ps) es = map (numbered p.number) p.values ++ parts_fields ps es

-- what their fields of this number and wire type hold
abbrev pub parts_held : ℕ → WireType → List Part → List Datum → List Datum
parts_held n k [] ds = ds
parts_held n k (p ∷ ps) ds = cond (p.number == n) (filter (is_kind k) p.values) [] ++ parts_held n k ps ds

writable : (n : ℕ) (d : Datum) → Storable d → length (field_text (numbered n d)) < 2 ^ 64 → IsWritable 0 d
writable n (Varint x) h short = h
writable n (Eight bs) h short = h
writable n (Bytes bs) h short = omega (arith, bytes_within n bs, short)
writable n (Four bs) h short = h
writable n (Group bs) h short = absurd h

values_stand : (n : ℕ) → is_number n ≡ true → (ds : List Datum) → AllByRecursion Storable ds → (rest : List ℕ) (es : List Entry) → Fields 0 rest es
    → length (flat_map (λ d. field_text (numbered n d)) ds ++ rest) < 2 ^ 64 → Fields 0 (flat_map (λ d. field_text (numbered n d)) ds ++ rest) (map (numbered n) ds ++ es)
values_stand n is [] h rest es are short = are
values_stand n is (d ∷ ds) h rest es are short =
    let one = field_text (numbered n d) in
    let more = flat_map (λ d. field_text (numbered n d)) ds in
    let regrouped : (one ++ more) ++ rest ≡ one ++ (more ++ rest) = append_assoc one more rest in
    let long : length ((one ++ more) ++ rest) ≡ length one + length (more ++ rest) = ap length regrouped ∙ length-append one (more ++ rest) in
    let first : IsField 0 one (numbered n d) = field_written 0 (numbered n d) (number_some n is) (number_fits n is) (writable n d h.0 (omega (arith, short, long))) in
    let others : Fields 0 (more ++ rest) (map (numbered n) ds ++ es) = values_stand n is ds h.1 rest es are (omega (arith, short, long)) in
    let all : Fields 0 (one ++ (more ++ rest)) (numbered n d ∷ (map (numbered n) ds ++ es)) = more_fields first others in
    subst (λ text. Fields 0 text (numbered n d ∷ (map (numbered n) ds ++ es))) (sym regrouped) all

pub parts_stand : (ps : List Part) → AllByRecursion IsPart ps → (rest : List ℕ) (es : List Entry) → Fields 0 rest es → length (parts_text ps rest) < 2 ^ 64 → Fields 0 (parts_text ps rest) (parts_fields ps es)
parts_stand [] are rest es left short = left
parts_stand (p ∷ ps) are rest es left short =
    let others : Fields 0 (parts_text ps rest) (parts_fields ps es) = parts_stand ps are.1 rest es left (omega (arith, short, length-append p.text (parts_text ps rest))) in
    subst (λ text. Fields 0 (text ++ parts_text ps rest) (map (numbered p.number) p.values ++ parts_fields ps es)) are.0.same
    (values_stand p.number are.0.number p.values are.0.values (parts_text ps rest) (parts_fields ps es) others (subst (λ text. length (text ++ parts_text ps rest) < 2 ^ 64) (sym are.0.same) short))

-- no part is longer than the whole
pub parts_short : (ps : List Part) (rest : List ℕ) → length (parts_text ps rest) < 2 ^ 64 → AllByRecursion (λ p. length p.text < 2 ^ 64) ps
parts_short [] rest short = tt
parts_short (p ∷ ps) rest short =
    let long = length-append p.text (parts_text ps rest) in
    (omega (arith, short, long), parts_short ps rest (omega (arith, short, long)))

-- ---- what parts hold

pub test_of : (b : Bool) → (b ≡ true) ⊎ (b ≡ false)
test_of true = inl refl
test_of false = inr refl

held_all : (n m : ℕ) (k : WireType) → (m == n) ≡ true → (ds : List Datum) (es : List Entry) → held n k (map (numbered m) ds ++ es) ≡ filter (is_kind k) ds ++ held n k es
held_all n m k is [] es = refl
held_all n m k is (d ∷ ds) es = elim (test_of (is_kind k d)) [
  | inl same ↦ rw (is, same) (ap (λ t. d ∷ t) (held_all n m k is ds es))
  | inr other ↦ rw (is, other) (held_all n m k is ds es)
]

held_no : (n m : ℕ) (k : WireType) → (m == n) ≡ false → (ds : List Datum) (es : List Entry) → held n k (map (numbered m) ds ++ es) ≡ held n k es
held_no n m k is [] es = refl
held_no n m k is (d ∷ ds) es = rw is (held_no n m k is ds es)

pub held_parts : (n : ℕ) (k : WireType) (ps : List Part) (es : List Entry) → held n k (parts_fields ps es) ≡ parts_held n k ps (held n k es)
held_parts n k [] es = refl
held_parts n k (p ∷ ps) es = elim (test_of (p.number == n)) [
  | inl same ↦ held_all n p.number k same p.values (parts_fields ps es) ∙ rw same (ap (λ t. filter (is_kind k) p.values ++ t) (held_parts n k ps es))
  | inr other ↦ held_no n p.number k other p.values (parts_fields ps es) ∙ rw other (held_parts n k ps es)
]

-- ---- what is kept

pub not_kind : (b : Bool) → (b && false) ≡ false
not_kind true = refl
not_kind false = refl

pub not_number : (m n : ℕ) → m ≢ n → ((m == n) && true) ≡ false
not_number m n h = rw (ne_eqb m n h) refl

held_skipped : (NotRead : ℕ → Datum → Type 0) (n : ℕ) (k : WireType) → ((m : ℕ) (v : Datum) → NotRead m v → has n k (numbered m v) ≡ false) → (es : List Entry) → AllByRecursion (λ e. NotRead e.number e.value) es → held n k es ≡ []
held_skipped NotRead n k unread [] h = refl
held_skipped NotRead n k unread (e ∷ es) h = rw (unread e.number e.value h.0) (held_skipped NotRead n k unread es h.1)

module _ (ps : List Part) (are : AllByRecursion IsPart ps) (NotRead : ℕ → Datum → Type 0) (kept : List ℕ) (skipped : Skipped NotRead kept) (short : length (parts_text ps kept) < 2 ^ 64) where
  pub canonical_fields : fields_of (parts_text ps kept) ≡ parts_fields ps skipped.fields
  canonical_fields = fields_whole (parts_stand ps are kept skipped.fields (fields_shallower skipped.are 0 (omega arith)) short)

  pub canonical_held : (n : ℕ) (k : WireType) → ((m : ℕ) (v : Datum) → NotRead m v → has n k (numbered m v) ≡ false) → held n k (fields_of (parts_text ps kept)) ≡ parts_held n k ps []
  canonical_held n k unread = ap (held n k) canonical_fields ∙ held_parts n k ps skipped.fields ∙ ap (parts_held n k ps) (held_skipped NotRead n k unread skipped.fields skipped.unread)

-- ---- the parts that there are

-- a field that is always written
abbrev pub one : ℕ → Datum → Part
one n d = record { number = n; values = d ∷ []; text = field_text (numbered n d) }

pub one_is : (n : ℕ) (d : Datum) → is_number n ≡ true → Storable d → IsPart (one n d)
one_is n d is h = record { number = is; values = (h, tt); same = append-nil (field_text (numbered n d)) }

-- a field that is left out at its default
abbrev pub unless : Bool → ℕ → Datum → Part
unless left_out n d = record { number = n; values = if left_out then [] else d ∷ []; text = if left_out then [] else field_text (numbered n d) }

pub unless_is : (left_out : Bool) (n : ℕ) (d : Datum) → is_number n ≡ true → Storable d → IsPart (unless left_out n d)
unless_is true n d is h = record { number = is; values = tt; same = refl }
unless_is false n d is h = one_is n d is h

abbrev pub option_values : Option (List ℕ) → List Datum
option_values None = []
option_values (Some bs) = Bytes bs ∷ []

abbrev pub some : ℕ → Option (List ℕ) → Part
some n o = record { number = n; values = option_values o; text = embedded n o }

pub some_is : (n : ℕ) (o : Option (List ℕ)) → is_number n ≡ true → IsPart (some n o)
some_is n None is = record { number = is; values = tt; same = refl }
some_is n (Some bs) is = one_is n (Bytes bs) is tt

abbrev pub many : {A : Type 0} → ℕ → (A → List ℕ) → List A → Part
many n text xs = record { number = n; values = map (λ x. Bytes (text x)) xs; text = repeated n text xs }

pub many_is : {A : Type 0} (n : ℕ) (text : A → List ℕ) (xs : List A) → is_number n ≡ true → IsPart (many n text xs)
many_is n text [] is = record { number = is; values = tt; same = refl }
many_is n text (x ∷ xs) is =
    let others = many_is n text xs is in
    record { number = is; values = (tt, others.values); same = ap (λ t. bytes_field n (text x) ++ t) others.same }
