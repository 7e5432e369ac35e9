-- Fields that a message doesn't know, gathered from among those that it knows.
use Rattle.std.proofs.Common.{◌≡◌, ℕ, true, false, is_some, List, [], ◌++◌, Result, Ok, Some, refl, sym, ap, ◌∙◌, append_assoc, append-nil}
use Rattle.pb_wire.specs.Grammar.{Entry, IsField}
use Rattle.pb_wire.specs.Reading.{next_at}
use Rattle.pb_wire.proofs.Again.{next_takes}
use Rattle.otlp_read.specs.declared.fault.ReadFault.{ReadFault}
use Rattle.otlp_read.specs.Walk.{◌>>=◌, Known, before, walk}
use Rattle.otlp_read.proofs.Walks.{before_rest, turn_end}
use Rattle.otlp_canonical.specs.Anew.{gather}
use Rattle.otlp_canonical.proofs.Dropped.{front_walked}

pub gather_known : {A : Type 0} (known : ℕ → Known A) (a : A) (kept spelled : List ℕ) (field : Entry) → is_some (known 0 a field.number field.value) ≡ true → gather known a kept field spelled ≡ Ok kept
gather_known known a kept spelled field is = rw is refl

pub gather_unknown : {A : Type 0} (known : ℕ → Known A) (a : A) (kept spelled : List ℕ) (field : Entry) → is_some (known 0 a field.number field.value) ≡ false → gather known a kept field spelled ≡ Ok (kept ++ spelled)
gather_unknown known a kept spelled field is = rw is refl

-- one more field behind those that went by
pub gathered_on : {A : Type 0} (known : ℕ → Known A) (a : A) (d : ℕ) (gone front kept more : List ℕ) (field : Entry) → IsField d front field → gather known a kept field front ≡ Ok more
    → ((rest : List ℕ) → walk (gather known a) d [] (gone ++ rest) ≡ walk (gather known a) d kept rest) → (rest : List ℕ) → walk (gather known a) d [] ((gone ++ front) ++ rest) ≡ walk (gather known a) d more rest
gathered_on known a d gone front kept more field first is so_far rest =
    ap (walk (gather known a) d []) (append_assoc gone front rest) ∙ so_far (front ++ rest) ∙ front_walked (gather known a) d kept front rest field first
    ∙ ap (λ (r : Result (List ℕ) ReadFault). r >>= λ k. walk (gather known a) d k rest) is

-- what is put for the fields that went by, whichever of the message's values is chosen
pub record Gathering {A : Type 0} (known : ℕ → Known A) (d : ℕ) (text left old copy : List ℕ) : Type 0 where
  pub gone : List ℕ
  pub parts : text ≡ gone ++ left
  pub kept : List ℕ
  pub copied : copy ≡ old ++ kept
  pub so_far : (a : A) (rest : List ℕ) → walk (gather known a) d [] (gone ++ rest) ≡ walk (gather known a) d kept rest

pub none_gathered : {A : Type 0} (known : ℕ → Known A) (d : ℕ) (text old : List ℕ) → Gathering known d text text old old
none_gathered known d text old = record { gone = []; parts = refl; kept = []; copied = sym (append-nil old); so_far = λ a rest. refl }

module _ {A : Type 0} (known : ℕ → Known A) (d : ℕ) (text left rest old copy : List ℕ) (field : Entry) (found : next_at d left ≡ Ok (Some (field, rest))) (g : Gathering known d text left old copy) where
  pub known_gathered : ((a : A) → is_some (known 0 a field.number field.value) ≡ true) → Gathering known d text rest old copy
  known_gathered is =
      let b = next_takes d left field rest found in
      record {
        gone = g.gone ++ b.front;
        parts = g.parts ∙ ap (λ (t : List ℕ). g.gone ++ t) b.parts ∙ sym (append_assoc g.gone b.front rest);
        kept = g.kept;
        copied = g.copied;
        so_far = λ a. gathered_on known a d g.gone b.front g.kept g.kept field b.first (gather_known known a g.kept b.front field (is a)) (g.so_far a);
      }

  pub unknown_gathered : (longer : List ℕ) → longer ≡ copy ++ before left rest → ((a : A) → is_some (known 0 a field.number field.value) ≡ false) → Gathering known d text rest old longer
  unknown_gathered longer put is =
      let b = next_takes d left field rest found in
      let run : before left rest ≡ b.front = ap (λ (t : List ℕ). before t rest) b.parts ∙ before_rest b.front rest in
      record {
        gone = g.gone ++ b.front;
        parts = g.parts ∙ ap (λ (t : List ℕ). g.gone ++ t) b.parts ∙ sym (append_assoc g.gone b.front rest);
        kept = g.kept ++ b.front;
        copied = put ∙ ap (λ (t : List ℕ). copy ++ t) run ∙ ap (λ (t : List ℕ). t ++ b.front) g.copied ∙ append_assoc old g.kept b.front;
        so_far = λ a. gathered_on known a d g.gone b.front g.kept (g.kept ++ b.front) field b.first (gather_unknown known a g.kept b.front field (is a)) (g.so_far a);
      }

ok_same : {A : Type 0} (r : Result A ReadFault) (x y : A) → r ≡ Ok x → r ≡ Ok y → x ≡ y
ok_same r x y e f = cc

pub all_gathered : {A : Type 0} (known : ℕ → Known A) (a : A) (d : ℕ) (text left old copy kept : List ℕ) → left ≡ [] → walk (gather known a) d [] text ≡ Ok kept → Gathering known d text left old copy → copy ≡ old ++ kept
all_gathered known a d text left old copy kept none gathered g =
    let all : text ≡ g.gone ++ [] = g.parts ∙ ap (λ (t : List ℕ). g.gone ++ t) none in
    let same : walk (gather known a) d [] text ≡ Ok g.kept = ap (walk (gather known a) d []) all ∙ g.so_far a [] ∙ turn_end (gather known a) d g.kept [] refl in
    g.copied ∙ ap (λ (t : List ℕ). old ++ t) (ok_same (walk (gather known a) d [] text) g.kept kept same gathered)
