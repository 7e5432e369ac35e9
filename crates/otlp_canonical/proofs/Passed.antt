-- A message's fields go by: the last one at a place, its attributes, and what isn't known.
use Rattle.std.proofs.Common.{◌≡◌, ◌==◌, ℕ, ◌<◌, true, false, if◌then◌else◌, List, [], ◌∷◌, ◌++◌, length, Option, Some, None, Result, Ok, Err, refl, sym, ap, subst, ◌∙◌, append_assoc, append-nil, arith}
use Rattle.std.proofs.lemmas.Bool.{eqb-true}
use Rattle.std.specs.List.{AllByRecursion}
use Rattle.pb_wire.specs.Grammar.{Datum, Varint, Eight, Bytes, Four, Group, Entry, IsField}
use Rattle.pb_wire.specs.Reading.{next_at}
use Rattle.pb_wire.proofs.Written.{field_written}
use Rattle.otlp_trace.specs.Data.{KeyValueData}
use Rattle.otlp_trace.specs.Text.{bytes_field}
use Rattle.otlp_read.specs.declared.fault.ReadFault.{ReadFault}
use Rattle.otlp_read.specs.AnyValue.{no_key_value, key_value_step}
use Rattle.otlp_read.specs.Numbers.{uint32, fixed32, fixed64}
use Rattle.otlp_read.specs.Walk.{◌>>=◌, Step, Piece, Pieces, no_pieces, before, fold_fields, walk, read_with, with_another}
use Rattle.otlp_read.proofs.Laws.{fold_append}
use Rattle.otlp_canonical.specs.Anew.{Spelled}
use Rattle.otlp_canonical.specs.Inner.{FieldAlike}
use Rattle.otlp_canonical.specs.Layout.{Held, nothing_held, held_in, is_nothing, held_by, Layout, place_in, IsSound, held_at, attributes_at, kept_at, LayoutLaws, AreSound, kept_in, PlacePut, KeptPut}
use Rattle.otlp_canonical.proofs.Inside.{holding}
use Rattle.otlp_canonical.proofs.Laid.{all_append, kept_append, plain_sound, same_right, this_place}
use Rattle.otlp_canonical.proofs.Parts.{nothing}
use Rattle.otlp_canonical.proofs.Respelled.{ends, then_walked, spelled_is, next_before}
use Rattle.otlp_canonical.proofs.Sorted.{piece, pieces_append, one_piece, passed_on}

-- a walk over what went by, which comes to this
abbrev pub Comes : {A : Type 0} → Step A → ℕ → A → List ℕ → Result A ReadFault → Type 0
Comes step d a gone state = (rest : List ℕ) → walk step d a (gone ++ rest) ≡ (state >>= λ b. walk step d b rest)

comes_first : {A : Type 0} (step : Step A) (d : ℕ) (a : A) → Comes step d a [] (Ok a)
comes_first step d a rest = refl

comes_on : {A : Type 0} (step : Step A) (d : ℕ) (a : A) (gone front : List ℕ) (field : Entry) (state : Result A ReadFault) → IsField d front field → Comes step d a gone state → Comes step d a (gone ++ front) (state >>= λ b. step b field front)
comes_on step d a gone front field state first so_far rest =
    ap (walk step d a) (append_assoc gone front rest) ∙ so_far (front ++ rest) ∙ then_walked step d state front rest field first

comes_all : {A : Type 0} (step : Step A) (d : ℕ) (a : A) (text gone left : List ℕ) (state : Result A ReadFault) → text ≡ gone ++ left → left ≡ [] → Comes step d a gone state → walk step d a text ≡ state
comes_all step d a text gone left state parts none so_far =
    ap (walk step d a) (parts ∙ ap (λ (t : List ℕ). gone ++ t) none) ∙ so_far [] ∙ ends step d state

-- what holds its default holds nothing
pub nothing_is : (v : Datum) → is_nothing v ≡ true → held_in v ≡ nothing_held
nothing_is (Varint x) is = ap (λ (y : ℕ). record nothing_held { number = uint32 y }) (eqb-true x 0 is)
nothing_is (Eight bs) is = ap (λ (y : ℕ). record nothing_held { number = y }) (eqb-true (fixed64 bs) 0 is)
nothing_is (Bytes bs) is = ap (λ (t : List ℕ). record nothing_held { bytes = t }) (nothing bs (eqb-true (length bs) 0 is))
nothing_is (Four bs) is = ap (λ (y : ℕ). record nothing_held { number = y }) (eqb-true (fixed32 bs) 0 is)
nothing_is (Group bs) is = absurd (let no : false ≡ true = is in cc)

module _ {A : Type 0} (l : Layout A) (d : ℕ) (text : List ℕ) where
  -- ---- sound fields

  pub record Sounding (left : List ℕ) : Type 0 where
    pub gone : List ℕ
    pub parts : text ≡ gone ++ left
    pub pieces : List Piece
    pub are : Pieces d gone pieces
    pub sound : AllByRecursion (λ p. IsSound l p.field) pieces

  pub none_sounding : Sounding text
  none_sounding = record { gone = []; parts = refl; pieces = []; are = no_pieces; sound = tt }

  pub one_sounding : (left rest : List ℕ) (field : Entry) → next_at d left ≡ Ok (Some (field, rest)) → IsSound l field → Sounding left → Sounding rest
  one_sounding left rest field found is s =
      let front = before left rest in
      let first : IsField d front field = spelled_is d left rest field found in
      record {
        gone = s.gone ++ front;
        parts = passed_on s.gone front rest s.parts (next_before d left rest field found);
        pieces = s.pieces ++ piece field front ∷ [];
        are = pieces_append s.are (one_piece d front field first);
        sound = all_append (λ p. IsSound l p.field) s.pieces (piece field front ∷ []) s.sound (is, tt);
      }

  pub all_sounding : (left : List ℕ) → left ≡ [] → Sounding left → AreSound l d text
  all_sounding left none s = record {
    pieces = s.pieces;
    are = subst (λ (t : List ℕ). Pieces d t s.pieces) (sym (s.parts ∙ ap (λ (t : List ℕ). s.gone ++ t) none ∙ append-nil s.gone)) s.are;
    sound = s.sound;
  }

  -- ---- the last one at a place

  pub record Lasting (n : ℕ) (left : List ℕ) (last : Option Entry) : Type 0 where
    pub gone : List ℕ
    pub parts : text ≡ gone ++ left
    pub so_far : Comes (held_at l n) d nothing_held gone (Ok (held_by last))

  pub none_lasting : (n : ℕ) → Lasting n text None
  none_lasting n = record { gone = []; parts = refl; so_far = comes_first (held_at l n) d nothing_held }

  lasting_on : (n : ℕ) (left rest : List ℕ) (last later : Option Entry) (field : Entry) → next_at d left ≡ Ok (Some (field, rest)) → (if place_in l field == n then held_in field.value else held_by last) ≡ held_by later
      → Lasting n left last → Lasting n rest later
  lasting_on n left rest last later field found same p =
      let front = before left rest in
      let first : IsField d front field = spelled_is d left rest field found in
      record {
        gone = p.gone ++ front;
        parts = passed_on p.gone front rest p.parts (next_before d left rest field found);
        so_far = λ others. comes_on (held_at l n) d nothing_held p.gone front field (Ok (held_by last)) first p.so_far others ∙ ap (λ (h : Held). walk (held_at l n) d h others) same;
      }

  pub here_lasting : (n : ℕ) (left rest : List ℕ) (last : Option Entry) (field : Entry) → next_at d left ≡ Ok (Some (field, rest)) → (place_in l field == n) ≡ true → Lasting n left last → Lasting n rest (Some field)
  here_lasting n left rest last field found is p = lasting_on n left rest last (Some field) field found (rw is refl) p

  pub other_lasting : (n : ℕ) (left rest : List ℕ) (last : Option Entry) (field : Entry) → next_at d left ≡ Ok (Some (field, rest)) → (place_in l field == n) ≡ false → Lasting n left last → Lasting n rest last
  other_lasting n left rest last field found is p = lasting_on n left rest last last field found (rw is refl) p

  pub all_lasting : (n : ℕ) (left : List ℕ) (last : Option Entry) → left ≡ [] → Lasting n left last → walk (held_at l n) d nothing_held text ≡ Ok (held_by last)
  all_lasting n left last none p = comes_all (held_at l n) d nothing_held text p.gone left (Ok (held_by last)) p.parts none p.so_far

  -- nothing is put for nothing
  pub nothing_placed : (room n : ℕ) (old new : List ℕ) → new ≡ old → (n == l.attributes) ≡ false → walk (held_at l n) d nothing_held text ≡ Ok nothing_held → PlacePut l room d n text old new
  nothing_placed room n old new same off found = record {
    put = [];
    copied = same ∙ sym (append-nil old);
    pieces = [];
    are = no_pieces;
    sound = tt;
    at = tt;
    last = λ is. found;
    attributes = λ is. absurd (let no : true ≡ false = sym is ∙ off in cc);
  }

  -- the last one, in another spelling
  pub last_placed : (room n : ℕ) (old new : List ℕ) (field low : Entry) → (n == l.attributes) ≡ false → walk (held_at l n) d nothing_held text ≡ Ok (held_in field.value) → held_in low.value ≡ held_in field.value → place_in l low ≡ n → IsSound l low → Spelled low old new
      → PlacePut l room d n text old new
  last_placed room n old new field low off found same at sound s =
      let here : (if place_in l low == n then held_in low.value else nothing_held) ≡ held_in field.value = rw (this_place n (place_in l low) at) same in
      record {
        put = s.put;
        copied = s.copied;
        pieces = piece low s.put ∷ [];
        are = one_piece d s.put low (s.first d);
        sound = (sound, tt);
        at = (at, tt);
        last = λ is. found ∙ ap (λ (h : Held). Ok h) (sym here);
        attributes = λ is. absurd (let no : true ≡ false = sym is ∙ off in cc);
      }

  -- ---- attributes

  pub record Attributing (room : ℕ) (old copy left : List ℕ) : Type 0 where
    pub gone : List ℕ
    pub parts : text ≡ gone ++ left
    pub put : List ℕ
    pub copied : copy ≡ old ++ put
    pub pieces : List Piece
    pub are : Pieces d put pieces
    pub at : AllByRecursion (λ p. place_in l p.field ≡ l.attributes) pieces
    pub so_far : Comes (attributes_at l room) d [] gone (fold_fields (attributes_at l room) [] pieces)

  pub none_attributed : (room : ℕ) (old : List ℕ) → Attributing room old old text
  none_attributed room old = record {
    gone = [];
    parts = refl;
    put = [];
    copied = sym (append-nil old);
    pieces = [];
    are = no_pieces;
    at = tt;
    so_far = comes_first (attributes_at l room) d [];
  }

  passes : (room : ℕ) (r : Result (List KeyValueData) ReadFault) (field : Entry) (spelled : List ℕ) → (place_in l field == l.attributes) ≡ false → (r >>= λ ps. attributes_at l room ps field spelled) ≡ r
  passes room (Ok ps) field spelled off = rw off refl
  passes room (Err f) field spelled off = refl

  pub other_attributed : (room : ℕ) (old copy left rest : List ℕ) (field : Entry) → next_at d left ≡ Ok (Some (field, rest)) → (place_in l field == l.attributes) ≡ false → Attributing room old copy left → Attributing room old copy rest
  other_attributed room old copy left rest field found off p =
      let front = before left rest in
      let first : IsField d front field = spelled_is d left rest field found in
      let state = fold_fields (attributes_at l room) [] p.pieces in
      record {
        gone = p.gone ++ front;
        parts = passed_on p.gone front rest p.parts (next_before d left rest field found);
        put = p.put;
        copied = p.copied;
        pieces = p.pieces;
        are = p.are;
        at = p.at;
        so_far = λ others. comes_on (attributes_at l room) d [] p.gone front field state first p.so_far others ∙ ap (λ (r : Result (List KeyValueData) ReadFault). r >>= λ ps. walk (attributes_at l room) d ps others) (passes room state field front off);
      }

  takes : (room : ℕ) (r : Result (List KeyValueData) ReadFault) (n : ℕ) (bs put spelled other : List ℕ) → (place_in l (holding n bs) == l.attributes) ≡ true → (place_in l (holding n put) == l.attributes) ≡ true
      → read_with key_value_step room no_key_value bs ≡ read_with key_value_step room no_key_value put
      → (r >>= λ ps. attributes_at l room ps (holding n bs) spelled) ≡ (r >>= λ ps. attributes_at l room ps (holding n put) other >>= λ qs. Ok qs)
  takes room (Ok ps) n bs put spelled other is at same =
      rw (is, at) (ap (with_another ps) same ∙ sym (same_right (with_another ps (read_with key_value_step room no_key_value put))))
  takes room (Err f) n bs put spelled other is at same = refl

  pub one_attributed : LayoutLaws l → (room : ℕ) (old copy longer left rest : List ℕ) (n : ℕ) (bs : List ℕ) → 0 < n → n < 16 → next_at d left ≡ Ok (Some (holding n bs, rest)) → place_in l (holding n bs) ≡ l.attributes
      → FieldAlike key_value_step no_key_value room n bs copy longer → Attributing room old copy left → Attributing room old longer rest
  one_attributed laws room old copy longer left rest n bs some fits found here f p =
      let front = before left rest in
      let first : IsField d front (holding n bs) = spelled_is d left rest (holding n bs) found in
      let field = bytes_field n f.put in
      let written : IsField d field (holding n f.put) = field_written d (holding n f.put) some (omega (arith, fits)) f.short in
      let there : place_in l (holding n f.put) ≡ l.attributes = laws.held_alike n f.put bs ∙ here in
      let state = fold_fields (attributes_at l room) [] p.pieces in
      let is : (place_in l (holding n bs) == l.attributes) ≡ true = this_place l.attributes (place_in l (holding n bs)) here in
      let at : (place_in l (holding n f.put) == l.attributes) ≡ true = this_place l.attributes (place_in l (holding n f.put)) there in
      let made : (state >>= λ ps. attributes_at l room ps (holding n bs) front) ≡ fold_fields (attributes_at l room) [] (p.pieces ++ piece (holding n f.put) field ∷ []) =
      takes room state n bs f.put front field is at f.same ∙ sym (fold_append (attributes_at l room) [] p.pieces (piece (holding n f.put) field ∷ [])) in
      record {
        gone = p.gone ++ front;
        parts = passed_on p.gone front rest p.parts (next_before d left rest (holding n bs) found);
        put = p.put ++ field;
        copied = f.copied ∙ ap (λ (t : List ℕ). t ++ field) p.copied ∙ append_assoc old p.put field;
        pieces = p.pieces ++ piece (holding n f.put) field ∷ [];
        are = pieces_append p.are (one_piece d field (holding n f.put) written);
        at = all_append (λ p. place_in l p.field ≡ l.attributes) p.pieces (piece (holding n f.put) field ∷ []) p.at (there, tt);
        so_far = λ others. comes_on (attributes_at l room) d [] p.gone front (holding n bs) state first p.so_far others ∙ ap (λ (r : Result (List KeyValueData) ReadFault). r >>= λ ps. walk (attributes_at l room) d ps others) made;
      }

  pub all_attributed : LayoutLaws l → (room : ℕ) (old copy left : List ℕ) → left ≡ [] → Attributing room old copy left → PlacePut l room d l.attributes text old copy
  all_attributed laws room old copy left none p = record {
    put = p.put;
    copied = p.copied;
    pieces = p.pieces;
    are = p.are;
    sound = plain_sound l l.attributes laws.attributes_plain p.pieces p.at;
    at = p.at;
    last = λ off. absurd (let on : (l.attributes == l.attributes) ≡ true = this_place l.attributes l.attributes refl in let no : true ≡ false = sym on ∙ off in cc);
    attributes = λ is. comes_all (attributes_at l room) d [] text p.gone left (fold_fields (attributes_at l room) [] p.pieces) p.parts none p.so_far;
  }

  -- ---- what isn't known

  pub record Keeping (old copy left : List ℕ) : Type 0 where
    pub gone : List ℕ
    pub parts : text ≡ gone ++ left
    pub put : List ℕ
    pub copied : copy ≡ old ++ put
    pub pieces : List Piece
    pub are : Pieces d put pieces
    pub at : AllByRecursion (λ p. place_in l p.field ≡ l.unknown) pieces
    pub so_far : Comes (kept_at l) d [] gone (Ok (kept_in l [] pieces))

  pub none_kept : (old : List ℕ) → Keeping old old text
  none_kept old = record {
    gone = [];
    parts = refl;
    put = [];
    copied = sym (append-nil old);
    pieces = [];
    are = no_pieces;
    at = tt;
    so_far = comes_first (kept_at l) d [];
  }

  pub other_kept : (old copy left rest : List ℕ) (field : Entry) → next_at d left ≡ Ok (Some (field, rest)) → (place_in l field == l.unknown) ≡ false → Keeping old copy left → Keeping old copy rest
  other_kept old copy left rest field found off p =
      let front = before left rest in
      let first : IsField d front field = spelled_is d left rest field found in
      let same : (if place_in l field == l.unknown then kept_in l [] p.pieces ++ front else kept_in l [] p.pieces) ≡ kept_in l [] p.pieces = rw off refl in
      record {
        gone = p.gone ++ front;
        parts = passed_on p.gone front rest p.parts (next_before d left rest field found);
        put = p.put;
        copied = p.copied;
        pieces = p.pieces;
        are = p.are;
        at = p.at;
        so_far = λ others. comes_on (kept_at l) d [] p.gone front field (Ok (kept_in l [] p.pieces)) first p.so_far others ∙ ap (λ (k : List ℕ). walk (kept_at l) d k others) same;
      }

  pub one_kept : (old copy longer left rest : List ℕ) (field : Entry) → next_at d left ≡ Ok (Some (field, rest)) → place_in l field ≡ l.unknown → longer ≡ copy ++ before left rest → Keeping old copy left → Keeping old longer rest
  one_kept old copy longer left rest field found here is p =
      let front = before left rest in
      let first : IsField d front field = spelled_is d left rest field found in
      record {
        gone = p.gone ++ front;
        parts = passed_on p.gone front rest p.parts (next_before d left rest field found);
        put = p.put ++ front;
        copied = is ∙ ap (λ (t : List ℕ). t ++ front) p.copied ∙ append_assoc old p.put front;
        pieces = p.pieces ++ piece field front ∷ [];
        are = pieces_append p.are (one_piece d front field first);
        at = all_append (λ p. place_in l p.field ≡ l.unknown) p.pieces (piece field front ∷ []) p.at (here, tt);
        so_far = λ others. comes_on (kept_at l) d [] p.gone front field (Ok (kept_in l [] p.pieces)) first p.so_far others ∙ ap (λ (k : List ℕ). walk (kept_at l) d k others) (sym (kept_append l [] p.pieces (piece field front ∷ [])));
      }

  pub all_kept : (old copy left : List ℕ) → left ≡ [] → Keeping old copy left → KeptPut l d text old copy
  all_kept old copy left none p = record {
    put = p.put;
    copied = p.copied;
    pieces = p.pieces;
    are = p.are;
    at = p.at;
    kept = comes_all (kept_at l) d [] text p.gone left (Ok (kept_in l [] p.pieces)) p.parts none p.so_far;
  }
