-- What several values of an attribute hold is read as one value that holds it.
use Rattle.std.proofs.Common.{◌≡◌, ℕ, zero, suc, ◌-◌, ◌<◌, ◌^◌, Bool, true, false, List, [], ◌++◌, length, Some, Result, Ok, Err, refl, sym, ap, subst, ◌∙◌, append_assoc, arith}
use Rattle.std.proofs.lemmas.Str.{IsUtf8-nil}
use Rattle.std.specs.Str.{IsUtf8}
use Rattle.pb_wire.specs.Grammar.{Entry, IsField}
use Rattle.pb_wire.specs.Reading.{next_at}
use Rattle.otlp_trace.specs.Data.{AnyValueData, KeyValueData, key_value}
use Rattle.otlp_trace.specs.Text.{bytes_field}
use Rattle.otlp_read.specs.declared.fault.ReadFault.{ReadFault}
use Rattle.otlp_read.specs.AnyValue.{no_value, no_key_value, any_step_in, key_value_step, read_any}
use Rattle.otlp_read.specs.Nested.{known_of_key_value}
use Rattle.otlp_read.specs.Walk.{◌>>=◌, Step, Piece, Pieces, no_pieces, more_pieces, before, walk}
use Rattle.otlp_read.proofs.Walks.{turn_end}
use Rattle.otlp_canonical.specs.Anew.{gather, pair_of, IsPairIn}
use Rattle.otlp_canonical.specs.Inner.{ReadAlike, FieldAlike}
use Rattle.otlp_canonical.specs.Status.{AreFields}
use Rattle.otlp_canonical.proofs.Dropped.{front_walked}
use Rattle.otlp_canonical.proofs.Gathered.{gathered_on, gather_unknown}
use Rattle.otlp_canonical.proofs.Inside.{holding}
use Rattle.otlp_canonical.proofs.Respelled.{Again, Unkeyed, ends, then_walked, spelled_is, next_before, keep_none, keyed, kept_on, again_on, value_behind}
use Rattle.otlp_canonical.proofs.Sorted.{pieces_append, passed_on}

-- ---- a value behind another

behind_walked : {A : Type 0} (step : Step A) (d : ℕ) (others rest : List ℕ) (r : Result A ReadFault) → ((b : A) → walk step d b (others ++ rest) ≡ (walk step d b others >>= λ c. walk step d c rest))
    → (r >>= λ b. walk step d b (others ++ rest)) ≡ ((r >>= λ b. walk step d b others) >>= λ c. walk step d c rest)
behind_walked step d others rest (Ok b) same = same b
behind_walked step d others rest (Err f) same = refl

pieces_walked : {A : Type 0} (step : Step A) {d : ℕ} {text : List ℕ} {pieces : List Piece} → Pieces d text pieces → (a : A) (rest : List ℕ) → walk step d a (text ++ rest) ≡ (walk step d a text >>= λ b. walk step d b rest)
pieces_walked {A} step (no_pieces {d = d}) a rest = ap (λ (r : Result A ReadFault). r >>= λ b. walk step d b rest) (sym (turn_end step d a [] refl))
pieces_walked {A} step (more_pieces {d = d} {front = front} {rest = others} {field = field} first inner) a rest =
    ap (walk step d a) (append_assoc front others rest) ∙ front_walked step d a front (others ++ rest) field first
    ∙ behind_walked step d others rest (step a field front) (λ b. pieces_walked step inner b rest)
    ∙ ap (λ (r : Result A ReadFault). r >>= λ b. walk step d b rest) (sym (front_walked step d a front others field first))

any_behind : (room e : ℕ) (values later : List ℕ) → AreFields e values → e ≡ 101 - room → read_any room no_value (values ++ later) ≡ (read_any room no_value values >>= λ v. read_any room v later)
unfolding read_any
any_behind zero e values later fields at = refl
any_behind (suc room) e values later fields at =
    let same : 101 - suc room ≡ 100 - room = omega arith in
    let are : Pieces (100 - room) values fields.pieces = subst (λ (d : ℕ). Pieces d values fields.pieces) (at ∙ same) fields.are in
    pieces_walked (any_step_in room) are no_value later

-- the pair with what stands in all its values
value_more : (room e : ℕ) (key values later kept spelled : List ℕ) → AreFields e values → e ≡ 101 - room
    → (pair_of room key values true kept >>= λ p. key_value_step room p (holding 2 later) spelled) ≡ pair_of room key (values ++ later) true kept
value_more room e key values later kept spelled fields at =
    value_behind room key later kept spelled (read_any room no_value values) ∙ ap (λ (r : Result AnyValueData ReadFault). r >>= λ v. Ok (key_value key v kept)) (sym (any_behind room e values later fields at))

both_fields : (e : ℕ) (first second : List ℕ) → AreFields e first → AreFields e second → AreFields e (first ++ second)
both_fields e first second one other = record { pieces = one.pieces ++ other.pieces; are = pieces_append one.are other.are }

-- ---- the fields that went by

pub record Joining (d e : ℕ) (text left key values : List ℕ) (has : Bool) (size : ℕ) : Type 0 where
  pub gone : List ℕ
  pub parts : text ≡ gone ++ left
  pub valid : IsUtf8 key
  pub kept : List ℕ
  pub none : size ≡ 0 → kept ≡ []
  pub empty : has ≡ false → values ≡ []
  pub gathered : (rest : List ℕ) → walk (gather known_of_key_value no_key_value) d [] (gone ++ rest) ≡ walk (gather known_of_key_value no_key_value) d kept rest
  pub again : Again d kept
  pub fields : AreFields e values
  pub so_far : (room : ℕ) → e ≡ 101 - room → (rest : List ℕ) → walk (key_value_step room) d no_key_value (gone ++ rest) ≡ (pair_of room key values has kept >>= λ p. walk (key_value_step room) d p rest)

pub none_joined : (d e : ℕ) (text : List ℕ) → Joining d e text text [] [] false 0
none_joined d e text = record {
  gone = [];
  parts = refl;
  valid = IsUtf8-nil;
  kept = [];
  none = λ is. refl;
  empty = λ is. refl;
  gathered = λ rest. refl;
  again = λ room p rest. ap (λ (q : KeyValueData). walk (key_value_step room) d q rest) (sym (keep_none p));
  fields = record { pieces = []; are = no_pieces };
  so_far = λ room at rest. refl;
}

one_joined : (d e : ℕ) (text left rest key values later more_values more : List ℕ) (has now : Bool) (size larger : ℕ) (field : Entry) → next_at d left ≡ Ok (Some (field, rest)) → IsUtf8 later → (larger ≡ 0 → more ≡ []) → (now ≡ false → more_values ≡ []) → Again d more → AreFields e more_values
    → (j : Joining d e text left key values has size) → gather known_of_key_value no_key_value j.kept field (before left rest) ≡ Ok more
    → ((room : ℕ) → e ≡ 101 - room → (pair_of room key values has j.kept >>= λ q. key_value_step room q field (before left rest)) ≡ pair_of room later more_values now more)
    → Joining d e text rest later more_values now larger
one_joined d e text left rest key values later more_values more has now size larger field found valid none empty again fields j gathers same =
    let front = before left rest in
    let first : IsField d front field = spelled_is d left rest field found in
    record {
      gone = j.gone ++ front;
      parts = passed_on j.gone front rest j.parts (next_before d left rest field found);
      valid = valid;
      kept = more;
      none = none;
      empty = empty;
      gathered = gathered_on known_of_key_value no_key_value d j.gone front j.kept more field first gathers j.gathered;
      again = again;
      fields = fields;
      so_far = λ room at behind.
          ap (walk (key_value_step room) d no_key_value) (append_assoc j.gone front behind) ∙ j.so_far room at (front ++ behind)
          ∙ then_walked (key_value_step room) d (pair_of room key values has j.kept) front behind field first
          ∙ ap (λ (r : Result KeyValueData ReadFault). r >>= λ q. walk (key_value_step room) d q behind) (same room at);
    }

pub key_joined : (d e : ℕ) (text left rest key values later : List ℕ) (has : Bool) (size : ℕ) → next_at d left ≡ Ok (Some (holding 1 later, rest)) → IsUtf8 later → Joining d e text left key values has size → Joining d e text rest later values has size
key_joined d e text left rest key values later has size found valid j =
    one_joined d e text left rest key values later values j.kept has has size size (holding 1 later) found valid j.none j.empty j.again j.fields j refl (λ room at. keyed key values later j.kept has valid room (before left rest))

pub unknown_joined : (d e : ℕ) (text left rest key values : List ℕ) (has : Bool) (size larger : ℕ) (field : Entry) → next_at d left ≡ Ok (Some (field, rest)) → Unkeyed field → 0 < larger → Joining d e text left key values has size
    → Joining d e text rest key values has larger
unknown_joined d e text left rest key values has size larger field found unknown some j =
    one_joined d e text left rest key values key values (j.kept ++ before left rest) has has size larger field found j.valid (λ none. absurd (omega (arith, none, some))) j.empty (again_on d j.kept (before left rest) field (spelled_is d left rest field found) unknown j.again) j.fields j
    (gather_unknown known_of_key_value no_key_value j.kept (before left rest) field (unknown 0 no_key_value)) (λ room at. kept_on key values j.kept (before left rest) has field unknown room)

value_same : (room e : ℕ) (key values later kept spelled : List ℕ) (has : Bool) → AreFields e values → e ≡ 101 - room → (has ≡ false → values ≡ [])
    → (pair_of room key values has kept >>= λ p. key_value_step room p (holding 2 later) spelled) ≡ pair_of room key (values ++ later) true kept
value_same room e key values later kept spelled true fields at empty = value_more room e key values later kept spelled fields at
value_same room e key values later kept spelled false fields at empty = ap (λ (t : List ℕ). pair_of room key (t ++ later) true kept) (sym (empty refl))

pub value_joined : (d e : ℕ) (text left rest key values later longer : List ℕ) (has : Bool) (size : ℕ) → next_at d left ≡ Ok (Some (holding 2 later, rest)) → AreFields e later → longer ≡ values ++ later → Joining d e text left key values has size
    → Joining d e text rest key longer true size
value_joined d e text left rest key values later longer has size found later_fields is j =
    one_joined d e text left rest key values key longer j.kept has true size size (holding 2 later) found j.valid j.none (λ never. absurd (let no : true ≡ false = never in cc)) j.again (subst (AreFields e) (sym is) (both_fields e values later j.fields later_fields)) j refl
    (λ room at. value_same room e key values later j.kept (before left rest) has j.fields at j.empty ∙ ap (λ (t : List ℕ). pair_of room key t true j.kept) (sym is))

pub all_joined : (room : ℕ) (text left key values : List ℕ) (size : ℕ) → 0 < room → left ≡ [] → Joining (101 - room) (101 - (room - 1)) text left key values true size → IsPairIn (room - 1) (101 - room) text key values true size
all_joined room text left key values size some none j =
    let d = 101 - room in
    let inner = room - 1 in
    let gone : text ≡ j.gone ++ [] = j.parts ∙ ap (λ (t : List ℕ). j.gone ++ t) none in
    record {
      valid = j.valid;
      kept = j.kept;
      none = j.none;
      gathered = ap (walk (gather known_of_key_value no_key_value) d []) gone ∙ j.gathered [] ∙ turn_end (gather known_of_key_value no_key_value) d j.kept [] refl;
      again = j.again;
      read = ap (walk (key_value_step inner) d no_key_value) gone ∙ j.so_far inner refl [] ∙ ends (key_value_step inner) d (pair_of inner key values true j.kept);
    }

-- ---- a message's text, in a field

pub framed : {A : Type 0} (step : ℕ → Step A) (none : A) (room number : ℕ) (text held old new : List ℕ) → length held < 2 ^ 64 → new ≡ old ++ bytes_field number held → ReadAlike step none room text [] held → FieldAlike step none room number text old new
framed step none room number text held old new short is a = record {
  put = a.put;
  copied = is ∙ ap (λ (t : List ℕ). old ++ bytes_field number t) a.copied;
  short = subst (λ (t : List ℕ). length t < 2 ^ 64) a.copied short;
  same = a.same;
}
