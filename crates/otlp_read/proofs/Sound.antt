-- What a walk keeps of a message from field to field: that it is nested no deeper than there is room, and, where the text
-- is bytes, that it is typed.
use Rattle.std.proofs.Common.{◌≡◌, ℕ, zero, suc, ◌-◌, ◌<◌, ◌^◌, Bool, true, false, FitsSigned, List, [], ◌∷◌, ◌++◌, length, Option, Some, None, unwrap_or, IfSome, Result, Ok, Err, refl, sym, subst, arith, append-nil, append_assoc}
use Rattle.std.proofs.Math.Facts.{sfits_to_z, Fits-of_lt}
use Rattle.std.proofs.lemmas.Str.{IsUtf8-from_is_utf8}
use Rattle.std.specs.Int.{w32, w64}
use Rattle.std.specs.List.{AllByRecursion}
use Rattle.std.specs.Str.{IsUtf8, is_utf8}
use Rattle.pb_wire.specs.Grammar.{Datum, Varint, Eight, Bytes, Four, Group, Entry, IsVarint, IsField, varint_field, eight_field, bytes_field, four_field, group_field}
use Rattle.otlp_read.specs.declared.fault.ReadFault.{ReadFault}
use Rattle.otlp_read.specs.declared.fault.ReadFault.TheVariants.{NotUtf8}
use Rattle.otlp_read.specs.Nested.{IsUnknown, Kept}
use Rattle.otlp_read.specs.Numbers.{utf8, int32, uint32, int64, fixed64, fixed32}
use Rattle.otlp_read.specs.Walk.{◌>>=◌, Step, Known, known_or_kept, known_or_dropped, Piece, Pieces, no_pieces, more_pieces, fold_fields, walk, read_with, with_another}
use Rattle.otlp_read.proofs.Laws.{bind_ok, makes}

-- ---- lists

abbrev pub AreBytes : List ℕ → Type 0
AreBytes = AllByRecursion (λ b. b < 256)

pub each_front : {X : Type 0} (P : X → Type 0) (xs ys : List X) → AllByRecursion P (xs ++ ys) → AllByRecursion P xs
each_front P [] ys each = tt
each_front P (x ∷ xs) ys each = (each.0, each_front P xs ys each.1)

pub each_rest : {X : Type 0} (P : X → Type 0) (xs ys : List X) → AllByRecursion P (xs ++ ys) → AllByRecursion P ys
each_rest P [] ys each = each
each_rest P (x ∷ xs) ys each = each_rest P xs ys each.1

pub each_push : {X : Type 0} (P : X → Type 0) (xs : List X) (x : X) → AllByRecursion P xs → P x → AllByRecursion P (xs ++ x ∷ [])
each_push P [] x each one = (one, tt)
each_push P (y ∷ xs) x each one = (each.0, each_push P xs x each.1 one)

bytes_front : (xs ys : List ℕ) → AreBytes (xs ++ ys) → AreBytes xs
bytes_front = each_front (λ b. b < 256)

bytes_rest : (xs ys : List ℕ) → AreBytes (xs ++ ys) → AreBytes ys
bytes_rest = each_rest (λ b. b < 256)

-- ---- numbers and strings

pub int32_fits : (x : ℕ) → FitsSigned w32 (int32 x)
int32_fits x = sfits_to_z (Fits-of_lt (omega arith))

pub int64_fits : (x : ℕ) → x < 2 ^ 64 → FitsSigned w64 (int64 x)
int64_fits x fits = sfits_to_z (Fits-of_lt fits)

pub uint32_fits : (x : ℕ) → uint32 x < 2 ^ 32
uint32_fits x = omega arith

pub fixed32_fits : (bs : List ℕ) → length bs ≡ 4 → AreBytes bs → fixed32 bs < 2 ^ 32
fixed32_fits [] long are = absurd (omega (arith, long))
fixed32_fits (a ∷ []) long are = absurd (omega (arith, long))
fixed32_fits (a ∷ b ∷ []) long are = absurd (omega (arith, long))
fixed32_fits (a ∷ b ∷ c ∷ []) long are = absurd (omega (arith, long))
fixed32_fits (a ∷ b ∷ c ∷ d ∷ []) long are = omega (arith, are.0, are.1.0, are.1.1.0, are.1.1.1.0)
fixed32_fits (a ∷ b ∷ c ∷ d ∷ e ∷ bs) long are = absurd (omega (arith, long))

pub fixed64_fits : (bs : List ℕ) → length bs ≡ 8 → AreBytes bs → fixed64 bs < 2 ^ 64
fixed64_fits [] long are = absurd (omega (arith, long))
fixed64_fits (a ∷ []) long are = absurd (omega (arith, long))
fixed64_fits (a ∷ b ∷ []) long are = absurd (omega (arith, long))
fixed64_fits (a ∷ b ∷ c ∷ []) long are = absurd (omega (arith, long))
fixed64_fits (a ∷ b ∷ c ∷ d ∷ []) long are = absurd (omega (arith, long))
fixed64_fits (a ∷ b ∷ c ∷ d ∷ e ∷ []) long are = absurd (omega (arith, long))
fixed64_fits (a ∷ b ∷ c ∷ d ∷ e ∷ f ∷ []) long are = absurd (omega (arith, long))
fixed64_fits (a ∷ b ∷ c ∷ d ∷ e ∷ f ∷ g ∷ []) long are = absurd (omega (arith, long))
fixed64_fits (a ∷ b ∷ c ∷ d ∷ e ∷ f ∷ g ∷ h ∷ []) long are = omega (arith, are.0, are.1.0, are.1.1.0, are.1.1.1.0, are.1.1.1.1.0, are.1.1.1.1.1.0, are.1.1.1.1.1.1.0, are.1.1.1.1.1.1.1.0)
fixed64_fits (a ∷ b ∷ c ∷ d ∷ e ∷ f ∷ g ∷ h ∷ i ∷ bs) long are = absurd (omega (arith, long))

ok_is : {A : Type 0} (x y : A) → ◌≡◌ {A = Result A ReadFault} (Ok x) (Ok y) → x ≡ y
ok_is x y e = cc

pub err_not_ok : {A : Type 0} {Y : Type 0} (f : ReadFault) (y : A) → ◌≡◌ {A = Result A ReadFault} (Err f) (Ok y) → Y
err_not_ok f y e = absurd cc

pub by_test : {G : Type 0} (b : Bool) → (b ≡ true → G) → (b ≡ false → G) → G
by_test true passed failed = passed refl
by_test false passed failed = failed refl

string_valid : (bs text : List ℕ) → utf8 bs ≡ Ok text → IsUtf8 text
unfolding utf8
string_valid bs text e = by_test (is_utf8 bs) (λ is. subst IsUtf8 (ok_is bs text (rw is at e)) (IsUtf8-from_is_utf8 bs is)) (λ is. err_not_ok NotUtf8 text (rw is at e))

-- ---- what the wire gives of a field's value; bytes are below 256 where F says so

abbrev pub FromWire : Type 0 → Datum → Type 0
FromWire F (Varint x) = x < 2 ^ 64
FromWire F (Eight bs) = (length bs ≡ 8) × (F → AreBytes bs)
FromWire F (Bytes bs) = F → AreBytes bs
FromWire F (Four bs) = (length bs ≡ 4) × (F → AreBytes bs)
FromWire F (Group bs) = Unit {0}

varint_below : {text : List ℕ} {x : ℕ} → IsVarint text x → x < 2 ^ 64
varint_below is = omega (arith, is.kept)

from_wire : (F : Type 0) {d : ℕ} {text : List ℕ} {field : Entry} → IsField d text field → (F → AreBytes text) → FromWire F field.value
from_wire F (varint_field is spelled) are = varint_below spelled
from_wire F (eight_field {tag = tag} {text = text} is long) are = (long, λ f. bytes_rest tag text (are f))
from_wire F (bytes_field {tag = tag} {size = size} {text = text} is spelled) are = λ f. bytes_rest size text (bytes_rest tag (size ++ text) (are f))
from_wire F (four_field {tag = tag} {text = text} is long) are = (long, λ f. bytes_rest tag text (are f))
from_wire F (group_field lt is inner closed) are = tt

-- ---- a step

-- what a message makes of a field keeps P, or it doesn't know the field, and then Q
pub data Fine {A : Type 0} (P : A → Type 0) (Q : Type 0) : Option (Result A ReadFault) → Type 0 where
  not_known : Q → Fine P Q None
  made : (b : A) → P b → Fine P Q (Some (Ok b))
  refused : {f : ReadFault} → Fine P Q (Some (Err f))

-- a field whose value is read
pub read_fine : {A B : Type 0} {P : A → Type 0} {Q : Type 0} (r : Result B ReadFault) (put : B → A) → ((x : B) → r ≡ Ok x → P (put x)) → Fine P Q (Some (r >>= λ x. Ok (put x)))
read_fine (Ok x) put keeps = made (put x) (keeps x refl)
read_fine (Err f) put keeps = refused

pub string_fine : {A : Type 0} {P : A → Type 0} {Q : Type 0} (bs : List ℕ) (put : List ℕ → A) → ((text : List ℕ) → IsUtf8 text → P (put text)) → Fine P Q (Some (utf8 bs >>= λ text. Ok (put text)))
string_fine bs put keeps = read_fine (utf8 bs) put (λ text e. keeps text (string_valid bs text e))

pub another_fine : {A B : Type 0} {P : A → Type 0} {Q : Type 0} (others : List B) (r : Result B ReadFault) (put : List B → A) → ((x : B) → r ≡ Ok x → P (put (others ++ x ∷ []))) → Fine P Q (Some (with_another others r >>= λ l. Ok (put l)))
another_fine others (Ok x) put keeps = made (put (others ++ x ∷ [])) (keeps x refl)
another_fine others (Err f) put keeps = refused

-- each field of a text at depth d keeps P
abbrev pub Keeps : {A : Type 0} → Type 0 → Step A → ℕ → (A → Type 0) → Type 0
Keeps {A} F step d P = (a b : A) (e : Entry) (spelled : List ℕ) → IsField d spelled e → (F → AreBytes spelled) → P a → step a e spelled ≡ Ok b → P b

fine_kept : {A : Type 0} {P : A → Type 0} {Q : Type 0} {r : Option (Result A ReadFault)} (otherwise b : A) → Fine P Q r → (Q → P otherwise) → unwrap_or r (Ok otherwise) ≡ Ok b → P b
fine_kept {P = P} otherwise b (not_known q) keeps e = subst P (ok_is otherwise b e) (keeps q)
fine_kept {P = P} otherwise b (made c p) keeps e = subst P (ok_is c b e) p
fine_kept otherwise b (refused {f = f}) keeps e = err_not_ok f b e

module _ {A : Type 0} (F : Type 0) (known : Known A) (d : ℕ) (P : A → Type 0) (fine : (a : A) (n : ℕ) (v : Datum) → FromWire F v → P a → Fine P ((x : A) → known x n v ≡ None) (known a n v)) where
  pub kept_keeps : (keep : A → List ℕ → A) → ((a : A) (e : Entry) (spelled : List ℕ) → IsField d spelled e → ((x : A) → known x e.number e.value ≡ None) → P a → P (keep a spelled)) → Keeps F (known_or_kept known keep) d P
  kept_keeps keep keeps a b e spelled is are p e' = fine_kept (keep a spelled) b (fine a e.number e.value (from_wire F is are) p) (λ q. keeps a e spelled is q p) e'

  pub dropped_keeps : Keeps F (known_or_dropped known) d P
  dropped_keeps a b e spelled is are p e' = fine_kept a b (fine a e.number e.value (from_wire F is are) p) (λ q. p) e'

-- ---- what isn't known

pub nothing_kept : {A : Type 0} (known : ℕ → Known A) (room : ℕ) → Kept known room []
nothing_kept known room = record { pieces = []; are = no_pieces; unknown = tt }

one_more : {d : ℕ} {text spelled : List ℕ} {pieces : List Piece} {e : Entry} → Pieces d text pieces → IsField d spelled e → Pieces d (text ++ spelled) (pieces ++ record { field = e; spelled = spelled } ∷ [])
one_more {d = d} {spelled = spelled} {e = e} no_pieces is = subst (λ t. Pieces d t (record { field = e; spelled = spelled } ∷ [])) (append-nil spelled) (more_pieces is no_pieces)
one_more {d = d} {spelled = spelled} {e = e} (more_pieces {front = front} {rest = rest} {field = field} {pieces = pieces} first inner) is =
    subst (λ t. Pieces d t (record { field = field; spelled = front } ∷ pieces ++ record { field = e; spelled = spelled } ∷ [])) (sym (append_assoc front rest spelled)) (more_pieces first (one_more inner is))

pub kept_more : {A : Type 0} (known : ℕ → Known A) (room : ℕ) (kept spelled : List ℕ) (e : Entry) → Kept known room kept → IsField (100 - room) spelled e → ((x : A) → known room x e.number e.value ≡ None) → Kept known room (kept ++ spelled)
kept_more known room kept spelled e k is none = record {
  pieces = k.pieces ++ record { field = e; spelled = spelled } ∷ [];
  are = one_more k.are is;
  unknown = each_push (IsUnknown (known room)) k.pieces (record { field = e; spelled = spelled }) k.unknown none;
}

-- ---- a walk

fold_kept : {A : Type 0} (F : Type 0) (step : Step A) (d : ℕ) (P : A → Type 0) → Keeps F step d P → {text : List ℕ} {pieces : List Piece} → Pieces d text pieces → (F → AreBytes text) → (a b : A) → P a → fold_fields step a pieces ≡ Ok b → P b
fold_kept F step d P keeps no_pieces are a b p e = subst P (ok_is a b e) p
fold_kept F step d P keeps (more_pieces {front = front} {rest = rest} {field = field} {pieces = pieces} first inner) are a b p e =
    let one = bind_ok (step a field front) (λ c. fold_fields step c pieces) b e in
    fold_kept F step d P keeps inner (λ f. bytes_rest front rest (are f)) one.0 b (keeps a one.0 field front first (λ f. bytes_front front rest (are f)) p one.1) one.2

pub walk_kept : {A : Type 0} (F : Type 0) (step : Step A) (d : ℕ) (P : A → Type 0) → Keeps F step d P → (a b : A) (text : List ℕ) → (F → AreBytes text) → P a → walk step d a text ≡ Ok b → P b
walk_kept F step d P keeps a b text are p e = let m = makes step d a b text e in fold_kept F step d P keeps m.are are a b p m.made

-- ---- a reader

-- nested in this room, and typed where F
abbrev pub Good : {A : Type 0} → Type 0 → (ℕ → A → Type 0) → (A → Type 0) → ℕ → A → Type 0
Good F Nested Typed room a = Nested room a × (F → Typed a)

-- what a reader may start from: where there is no room it reads nothing
abbrev pub Before : {A : Type 0} → (ℕ → A → Type 0) → ℕ → A → Type 0
Before Nested zero a = Unit {0}
Before Nested (suc room) a = Nested (suc room) a

-- what it reads is good, if what it starts from is
abbrev pub Reads : {A : Type 0} → Type 0 → (ℕ → A → Type 0) → (A → Type 0) → (ℕ → A → List ℕ → Result A ReadFault) → ℕ → Type 0
Reads {A} F Nested Typed read room = (a b : A) (text : List ℕ) → (F → AreBytes text) → Before Nested room a → (F → Typed a) → read room a text ≡ Ok b → Good F Nested Typed room b

pub message_reads : {A : Type 0} (F : Type 0) (Nested : ℕ → A → Type 0) (Typed : A → Type 0) (step : ℕ → Step A) → ((room : ℕ) → Keeps F (step room) (100 - room) (Good F Nested Typed (suc room))) → (room : ℕ) → Reads F Nested Typed (read_with step) room
unfolding read_with
message_reads F Nested Typed step keeps zero a b text are before typed e = err_not_ok _ b e
message_reads F Nested Typed step keeps (suc room) a b text are before typed e = walk_kept F (step room) (100 - room) (Good F Nested Typed (suc room)) (keeps room) a b text are (before, typed) e

-- the message of no fields, at any room
pub fresh : {A : Type 0} (Nested : ℕ → A → Type 0) (a : A) → ((room : ℕ) → Nested (suc room) a) → (room : ℕ) → Before Nested room a
fresh Nested a empty zero = tt
fresh Nested a empty (suc room) = empty room

-- the message that stands in a field, or one of no fields
pub standing : {A : Type 0} (Nested : ℕ → A → Type 0) (a : A) → ((room : ℕ) → Nested (suc room) a) → (room : ℕ) (o : Option A) → IfSome o (Nested room) → Before Nested room (unwrap_or o a)
standing Nested a empty zero o nested = tt
standing Nested a empty (suc room) None nested = empty room
standing Nested a empty (suc room) (Some b) nested = nested

pub typed_standing : {A : Type 0} (Typed : A → Type 0) (a : A) (o : Option A) → Typed a → IfSome o Typed → Typed (unwrap_or o a)
typed_standing Typed a None empty typed = empty
typed_standing Typed a (Some b) empty typed = typed

-- a message that is nested in this room
pub from_nested : {A : Type 0} (Nested : ℕ → A → Type 0) (room : ℕ) (a : A) → Nested room a → Before Nested room a
from_nested Nested zero a nested = tt
from_nested Nested (suc room) a nested = nested

-- whatever field a message has, what it makes of it is good
abbrev pub FieldsFine : {A : Type 0} → Type 0 → (ℕ → A → Type 0) → (A → Type 0) → (ℕ → Known A) → ℕ → Type 0
FieldsFine {A} F Nested Typed known room = (a : A) (n : ℕ) (v : Datum) → FromWire F v → Good F Nested Typed (suc room) a → Fine (Good F Nested Typed (suc room)) ((x : A) → known room x n v ≡ None) (known room a n v)
