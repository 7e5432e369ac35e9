-- Fields that a message doesn't know, one after the other.
use Rattle.std.proofs.Common.{◌≡◌, ℕ, ◌-◌, false, List, [], ◌∷◌, ◌++◌, Option, Some, None, is_some, sym, subst, refl}
use Rattle.pb_wire.specs.Grammar.{Entry, IsField, Begins}
use Rattle.otlp_read.specs.Nested.{Kept}
use Rattle.otlp_read.specs.Walk.{Known, no_pieces, more_pieces}

-- nothing is kept
pub none_kept : {A : Type 0} (known : ℕ → Known A) (room : ℕ) (text : List ℕ) → text ≡ [] → Kept known room text
none_kept known room text none = rw none (record { pieces = []; are = no_pieces; unknown = tt })

pub none_of : {A : Type 0} (o : Option A) → is_some o ≡ false → o ≡ None
none_of None e = refl
none_of (Some x) e = absurd (cc)

-- one more field at the front
kept_front : {A : Type 0} (known : ℕ → Known A) (room : ℕ) (front rest : List ℕ) (field : Entry) → IsField (100 - room) front field → ((a : A) → known room a field.number field.value ≡ None) → Kept known room rest → Kept known room (front ++ rest)
kept_front known room front rest field is not_known k = record {
  pieces = record { field = field; spelled = front } ∷ k.pieces;
  are = more_pieces {d = 100 - room} {front = front} {rest = rest} {field = field} {pieces = k.pieces} is k.are;
  unknown = (not_known, k.unknown);
}

pub one_kept : {A : Type 0} (known : ℕ → Known A) (room d : ℕ) (left rest : List ℕ) (field : Entry) → d ≡ 100 - room → Begins d left field rest → ((a : A) → known room a field.number field.value ≡ None) → Kept known room rest → Kept known room left
one_kept known room d left rest field at begins not_known k =
    let is : IsField (100 - room) begins.front field = subst (λ (n : ℕ). IsField n begins.front field) at begins.first in
    subst (λ (t : List ℕ). Kept known room t) (sym begins.parts) (kept_front known room begins.front rest field is not_known k)
