-- What a message has kept since it doesn't know it is nothing that a view reads.
use Rattle.std.proofs.Common.{◌≡◌, ◌≢◌, ℕ, List, [], ◌∷◌, map, Option, None, refl, sym, ap, ◌∙◌}
use Rattle.std.specs.List.{AllByRecursion}
use Rattle.std.specs.Option.{IsSome}
use Rattle.pb_wire.specs.Grammar.{Datum, Varint, Eight, Bytes, Four, Group}
use Rattle.otlp_read.specs.AnyValue.{no_value, no_key_value}
use Rattle.otlp_read.specs.Nested.{IsUnknown, Kept, known_of_any, known_of_key_value}
use Rattle.otlp_trace.specs.Defaults.{no_resource, no_span, no_status}
use Rattle.otlp_read.specs.Value.{resource_known, span_known, status_known}
use Rattle.otlp_read.specs.Walk.{Known, Piece}
use Rattle.otlp_read.proofs.Laws.{pieces_fields}
use Rattle.span_view.specs.Canonical.{NotInSpan, NotInStatus, NotInResource, NotInKeyValue, NotInAnyValue, Skipped}

-- a number that a message doesn't know is none that it knows
other : {R : Type 0} (known : ℕ → Option R) (n m : ℕ) → known n ≡ None → IsSome (known m) → n ≢ m
other known n m unknown is same =
    let missing : known m ≡ None = ap known (sym same) ∙ unknown in cc

each_unread : {A : Type 0} (known : Known A) (a : A) (NotRead : ℕ → Datum → Type 0) → ((n : ℕ) (v : Datum) → known a n v ≡ None → NotRead n v) → (pieces : List Piece)
    → AllByRecursion (IsUnknown known) pieces → AllByRecursion (λ e. NotRead e.number e.value) (map (λ p. p.field) pieces)
each_unread known a NotRead unread [] all = tt
each_unread known a NotRead unread (p ∷ ps) all = (unread p.field.number p.field.value (all.0 a), each_unread known a NotRead unread ps all.1)

-- so what is kept can be skipped, if the message knows what a view reads of it
pub skipped : {A : Type 0} (known : ℕ → Known A) (a : A) (NotRead : ℕ → Datum → Type 0) (room : ℕ) (kept : List ℕ) → ((n : ℕ) (v : Datum) → known room a n v ≡ None → NotRead n v)
    → Kept known room kept → Skipped NotRead kept
skipped known a NotRead room kept unread is = record {
  depth = _;
  fields = map (λ p. p.field) is.pieces;
  are = pieces_fields is.are;
  unread = each_unread (known room) a NotRead unread is.pieces is.unknown;
}

-- ---- what each message knows

pub span_unread : (room n : ℕ) (v : Datum) → span_known room no_span n v ≡ None → NotInSpan n v
span_unread room n (Bytes bs) h =
    let known = λ (m : ℕ). span_known room no_span m (Bytes bs) in
    (other known n 1 h refl, other known n 2 h refl, other known n 9 h refl, other known n 15 h refl)
span_unread room n (Eight bs) h =
    let known = λ (m : ℕ). span_known room no_span m (Eight bs) in
    (other known n 7 h refl, other known n 8 h refl)
span_unread room n (Varint x) h = tt
span_unread room n (Four bs) h = tt
span_unread room n (Group bs) h = tt

pub status_unread : (n : ℕ) (v : Datum) → status_known no_status n v ≡ None → NotInStatus n v
status_unread n (Varint x) h = other (λ m. status_known no_status m (Varint x)) n 3 h refl
status_unread n (Bytes bs) h = tt
status_unread n (Eight bs) h = tt
status_unread n (Four bs) h = tt
status_unread n (Group bs) h = tt

pub resource_unread : (room n : ℕ) (v : Datum) → resource_known room no_resource n v ≡ None → NotInResource n v
resource_unread room n (Bytes bs) h = other (λ m. resource_known room no_resource m (Bytes bs)) n 1 h refl
resource_unread room n (Varint x) h = tt
resource_unread room n (Eight bs) h = tt
resource_unread room n (Four bs) h = tt
resource_unread room n (Group bs) h = tt

pub key_value_unread : (room n : ℕ) (v : Datum) → known_of_key_value room no_key_value n v ≡ None → NotInKeyValue n v
key_value_unread room n (Bytes bs) h =
    let known = λ (m : ℕ). known_of_key_value room no_key_value m (Bytes bs) in
    (other known n 1 h refl, other known n 2 h refl)
key_value_unread room n (Varint x) h = tt
key_value_unread room n (Eight bs) h = tt
key_value_unread room n (Four bs) h = tt
key_value_unread room n (Group bs) h = tt

pub any_unread : (room n : ℕ) (v : Datum) → known_of_any room no_value n v ≡ None → NotInAnyValue n v
any_unread room n (Varint x) h =
    let known = λ (m : ℕ). known_of_any room no_value m (Varint x) in
    (other known n 2 h refl, other known n 3 h refl)
any_unread room n (Eight bs) h = other (λ m. known_of_any room no_value m (Eight bs)) n 4 h refl
any_unread room n (Bytes bs) h =
    let known = λ (m : ℕ). known_of_any room no_value m (Bytes bs) in
    (other known n 1 h refl, other known n 5 h refl, other known n 6 h refl, other known n 7 h refl)
any_unread room n (Four bs) h = tt
any_unread room n (Group bs) h = tt
