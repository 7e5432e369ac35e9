-- A text's fields are put in order part by part.
use Rattle.std.proofs.Common.{◌≡◌, ℕ, suc, ◌+◌, ◌-◌, ◌<◌, ◌≤◌, Bool, true, false, not, ◌&&◌, nat_lt, arith, List, [], ◌∷◌, ◌++◌, Option, Some, Result, Ok, refl, sym, ap, subst, ◌∙◌, append_assoc, append-nil}
use Rattle.std.proofs.lemmas.Bool.Decides.{nat_tests}
use Rattle.std.proofs.lemmas.List.Elements.{filter-append}
use Rattle.std.specs.List.{AllByRecursion}
use Rattle.pb_wire.specs.declared.field.WireFault.{WireFault}
use Rattle.pb_wire.specs.Grammar.{Entry, IsField}
use Rattle.pb_wire.specs.Reading.{next_at}
use Rattle.pb_wire.proofs.Again.{next_takes}
use Rattle.otlp_trace.specs.Data.{SpanData}
use Rattle.otlp_trace.specs.Defaults.{no_span}
use Rattle.otlp_read.specs.Value.{span_step}
use Rattle.otlp_read.specs.Walk.{◌>>=◌, Piece, Pieces, no_pieces, more_pieces, before, fold_fields, read_with}
use Rattle.otlp_read.specs.declared.fault.ReadFault.{ReadFault}
use Rattle.otlp_read.proofs.Laws.{begins_at, bind_ok, fold_append, walk_pieces}
use Rattle.otlp_read.proofs.Opened.{opened}
use Rattle.otlp_read.proofs.Walks.{before_rest}
use Rattle.otlp_canonical.specs.Order.{place_of, last_wins, IsSoundText, from, between, WithPlaces, PlaceRead}
use Rattle.otlp_canonical.proofs.Last.{last_read}
use Rattle.otlp_canonical.proofs.Ordered.{next_part, from_first, from_last}

-- ---- fields of a text

abbrev pub piece : Entry → List ℕ → Piece
piece e spelled = record { field = e; spelled = spelled }

pub pieces_append : {d : ℕ} {a b : List ℕ} {ps qs : List Piece} → Pieces d a ps → Pieces d b qs → Pieces d (a ++ b) (ps ++ qs)
pieces_append no_pieces others = others
pieces_append {b = b} {qs = qs} (more_pieces {d = d} {front = front} {rest = rest} {field = field} {pieces = pieces} first inner) others =
    subst (λ (t : List ℕ). Pieces d t (piece field front ∷ pieces ++ qs)) (sym (append_assoc front rest b)) (more_pieces first (pieces_append inner others))

pub one_piece : (d : ℕ) (front : List ℕ) (e : Entry) → IsField d front e → Pieces d front (piece e front ∷ [])
one_piece d front e first = subst (λ (t : List ℕ). Pieces d t (piece e front ∷ [])) (append-nil front) (more_pieces first no_pieces)

-- the same text has the same fields
same_pieces : {d : ℕ} {text other : List ℕ} {ps qs : List Piece} → Pieces d text ps → Pieces d other qs → text ≡ other → ps ≡ qs
same_pieces no_pieces no_pieces e = refl
same_pieces no_pieces (more_pieces {d = d} {front = front} {rest = rest} {field = field} first inner) e =
    let found : next_at d [] ≡ Ok (Some (field, rest)) = ap (next_at d) e ∙ begins_at d front rest field first in
    absurd (cc)
same_pieces (more_pieces {d = d} {front = front} {rest = rest} {field = field} first inner) no_pieces e =
    let found : next_at d [] ≡ Ok (Some (field, rest)) = ap (next_at d) (sym e) ∙ begins_at d front rest field first in
    absurd (cc)
same_pieces (more_pieces {d = d} {front = front} {rest = rest} {field = field} {pieces = ps} first inner) (more_pieces {front = front'} {rest = rest'} {field = field'} {pieces = qs} first' inner') e =
    let found : next_at d (front ++ rest) ≡ Ok (Some (field, rest)) = begins_at d front rest field first in
    let other : next_at d (front' ++ rest') ≡ Ok (Some (field', rest')) = begins_at d front' rest' field' first' in
    let both : ◌≡◌ {A = Result (Option (Entry × List ℕ)) WireFault} (Ok (Some (field, rest))) (Ok (Some (field', rest'))) = sym found ∙ ap (next_at d) e ∙ other in
    let pair : ◌≡◌ {A = Entry × List ℕ} (field, rest) (field', rest') = cc in
    let field_is : field ≡ field' = ap (λ (x : Entry × List ℕ). x.0) pair in
    let rest_is : rest ≡ rest' = ap (λ (x : Entry × List ℕ). x.1) pair in
    let spelled : front ≡ front' = sym (before_rest front rest) ∙ ap (λ (t : List ℕ). before t rest) e ∙ ap (before (front' ++ rest')) rest_is ∙ before_rest front' rest' in
    ap (λ (e : Entry). piece e front ∷ ps) field_is ∙ ap (λ (t : List ℕ). piece field' t ∷ ps) spelled ∙ ap (λ (l : List Piece). piece field' front' ∷ l) (same_pieces inner inner' rest_is)

-- ---- one part

-- the fields of this part that went by are behind what stood there
pub record Passing (d low high : ℕ) (text old copy left : List ℕ) : Type 0 where
  pub gone : List ℕ
  pub parts : text ≡ gone ++ left
  pub so_far : WithPlaces d low high gone old copy

pub none_passed : (d low high : ℕ) (text old : List ℕ) → Passing d low high text old old text
none_passed d low high text old = record {
  gone = [];
  parts = refl;
  so_far = record { pieces = []; are = no_pieces; put = []; chosen = no_pieces; copied = sym (append-nil old) };
}

abbrev pub is_in : ℕ → ℕ → Entry → Bool
is_in low high e = not (nat_lt (place_of e) low) && nat_lt (place_of e) high

pub in_range : (low high : ℕ) (e : Entry) → low ≤ place_of e → place_of e < high → is_in low high e ≡ true
in_range low high e le lt = grind (arith, nat_tests)

pub chosen_more : (low high : ℕ) (ps : List Piece) (e : Entry) (front : List ℕ) → is_in low high e ≡ true → between low high (ps ++ piece e front ∷ []) ≡ between low high ps ++ piece e front ∷ []
chosen_more low high ps e front is =
    filter-append (λ p. is_in low high p.field) ps (piece e front ∷ []) ∙ ap (λ (l : List Piece). between low high ps ++ l) (rw is refl)

pub chosen_same : (low high : ℕ) (ps : List Piece) (e : Entry) (front : List ℕ) → is_in low high e ≡ false → between low high (ps ++ piece e front ∷ []) ≡ between low high ps
chosen_same low high ps e front not_in =
    filter-append (λ p. is_in low high p.field) ps (piece e front ∷ []) ∙ ap (λ (l : List Piece). between low high ps ++ l) (rw not_in refl) ∙ append-nil (between low high ps)

pub put_more : (d low high : ℕ) (gone old copy longer front : List ℕ) (e : Entry) → IsField d front e → is_in low high e ≡ true → longer ≡ copy ++ front → WithPlaces d low high gone old copy → WithPlaces d low high (gone ++ front) old longer
put_more d low high gone old copy longer front e first is longer_is w = record {
  pieces = w.pieces ++ piece e front ∷ [];
  are = pieces_append w.are (one_piece d front e first);
  put = w.put ++ front;
  chosen = subst (Pieces d (w.put ++ front)) (sym (chosen_more low high w.pieces e front is)) (pieces_append w.chosen (one_piece d front e first));
  copied = longer_is ∙ ap (λ (t : List ℕ). t ++ front) w.copied ∙ append_assoc old w.put front;
}

pub put_same : (d low high : ℕ) (gone old copy front : List ℕ) (e : Entry) → IsField d front e → is_in low high e ≡ false → WithPlaces d low high gone old copy → WithPlaces d low high (gone ++ front) old copy
put_same d low high gone old copy front e first not_in w = record {
  pieces = w.pieces ++ piece e front ∷ [];
  are = pieces_append w.are (one_piece d front e first);
  put = w.put;
  chosen = subst (Pieces d w.put) (sym (chosen_same low high w.pieces e front not_in)) w.chosen;
  copied = w.copied;
}

-- the fields of one place, as they stand
pub of_places : (d place : ℕ) (text old new : List ℕ) → WithPlaces d place (suc place) text old new → PlaceRead d place text old new
of_places d place text old new w = record {
  pieces = w.pieces;
  are = w.are;
  put = w.put;
  chosen = between place (suc place) w.pieces;
  chosen_are = w.chosen;
  copied = w.copied;
  same = λ room s t rest deep made. made;
}

-- one more of them
pub read_more : (d place : ℕ) (gone old copy longer front : List ℕ) (e : Entry) → IsField d front e → is_in place (suc place) e ≡ true → longer ≡ copy ++ front → PlaceRead d place gone old copy → PlaceRead d place (gone ++ front) old longer
read_more d place gone old copy longer front e first is longer_is w = record {
  pieces = w.pieces ++ piece e front ∷ [];
  are = pieces_append w.are (one_piece d front e first);
  put = w.put ++ front;
  chosen = w.chosen ++ piece e front ∷ [];
  chosen_are = pieces_append w.chosen_are (one_piece d front e first);
  copied = longer_is ∙ ap (λ (t : List ℕ). t ++ front) w.copied ∙ append_assoc old w.put front;
  same = λ room s t rest deep made.
      ap (λ (l : List Piece). fold_fields (span_step room) s (l ++ rest)) (chosen_more place (suc place) w.pieces e front is)
      ∙ ap (fold_fields (span_step room) s) (append_assoc (between place (suc place) w.pieces) (piece e front ∷ []) rest)
      ∙ w.same room s t (piece e front ∷ rest) deep (ap (fold_fields (span_step room) s) (sym (append_assoc w.chosen (piece e front ∷ []) rest)) ∙ made);
}

-- one of another place
pub read_same : (d place : ℕ) (gone old copy front : List ℕ) (e : Entry) → IsField d front e → is_in place (suc place) e ≡ false → PlaceRead d place gone old copy → PlaceRead d place (gone ++ front) old copy
read_same d place gone old copy front e first not_in w = record {
  pieces = w.pieces ++ piece e front ∷ [];
  are = pieces_append w.are (one_piece d front e first);
  put = w.put;
  chosen = w.chosen;
  chosen_are = w.chosen_are;
  copied = w.copied;
  same = λ room s t rest deep made. ap (λ (l : List Piece). fold_fields (span_step room) s (l ++ rest)) (chosen_same place (suc place) w.pieces e front not_in) ∙ w.same room s t rest deep made;
}

-- the last of them, where it wins
pub read_last : (d place : ℕ) (gone front : List ℕ) (pieces : List Piece) (e : Entry) → IsField d front e → last_wins place ≡ true → place_of e ≡ place → IsSoundText e → Pieces d gone pieces → AllByRecursion (λ p. IsSoundText p.field) pieces → PlaceRead d place (gone ++ front) [] front
read_last d place gone front pieces e first one at sound are all =
    let is : is_in place (suc place) e ≡ true = in_range place (suc place) e (omega (arith, at)) (omega (arith, at)) in
    record {
      pieces = pieces ++ piece e front ∷ [];
      are = pieces_append are (one_piece d front e first);
      put = front;
      chosen = piece e front ∷ [];
      chosen_are = one_piece d front e first;
      copied = refl;
      same = λ room s t rest deep made.
          ap (λ (l : List Piece). fold_fields (span_step room) s (l ++ rest)) (chosen_more place (suc place) pieces e front is)
          ∙ ap (fold_fields (span_step room) s) (append_assoc (between place (suc place) pieces) (piece e front ∷ []) rest) ∙ last_read room place pieces e front rest one at sound all s ∙ made;
    }

pub passed_on : {text left : List ℕ} (gone front rest : List ℕ) → text ≡ gone ++ left → left ≡ front ++ rest → text ≡ (gone ++ front) ++ rest
passed_on gone front rest parts one = parts ∙ ap (λ (t : List ℕ). gone ++ t) one ∙ sym (append_assoc gone front rest)

-- a field of this part
pub one_put : (d low high : ℕ) (text old copy longer left rest : List ℕ) (e : Entry) → low ≤ place_of e → place_of e < high → next_at d left ≡ Ok (Some (e, rest)) → longer ≡ copy ++ before left rest
    → Passing d low high text old copy left → Passing d low high text old longer rest
one_put d low high text old copy longer left rest e le lt found longer_is p =
    let b = next_takes d left e rest found in
    let run : before left rest ≡ b.front = ap (λ (t : List ℕ). before t rest) b.parts ∙ before_rest b.front rest in
    record {
      gone = p.gone ++ b.front;
      parts = passed_on p.gone b.front rest p.parts b.parts;
      so_far = put_more d low high p.gone old copy longer b.front e b.first (in_range low high e le lt) (longer_is ∙ ap (λ (t : List ℕ). copy ++ t) run) p.so_far;
    }

pub one_left : (d low high : ℕ) (text old copy left rest : List ℕ) (e : Entry) → is_in low high e ≡ false → next_at d left ≡ Ok (Some (e, rest)) → Passing d low high text old copy left → Passing d low high text old copy rest
one_left d low high text old copy left rest e not_in found p =
    let b = next_takes d left e rest found in
    record {
      gone = p.gone ++ b.front;
      parts = passed_on p.gone b.front rest p.parts b.parts;
      so_far = put_same d low high p.gone old copy b.front e b.first not_in p.so_far;
    }

-- the whole text
pub all_passed : (d low high : ℕ) (text old copy left : List ℕ) → left ≡ [] → Passing d low high text old copy left → WithPlaces d low high text old copy
all_passed d low high text old copy left none p =
    let whole : p.gone ≡ text = sym (p.parts ∙ ap (λ (t : List ℕ). p.gone ++ t) none ∙ append-nil p.gone) in
    subst (λ (t : List ℕ). WithPlaces d low high t old copy) whole p.so_far

-- ---- all parts

-- What the fields make that are in order so far, and then the others as they stand, the text makes.
pub record Sorting (d low : ℕ) (text copy : List ℕ) : Type 0 where
  pub pieces : List Piece
  pub are : Pieces d text pieces
  pub sorted : List Piece
  pub copied : Pieces d copy sorted
  pub same : (room : ℕ) (s t : SpanData) → d + room ≡ 100 → fold_fields (span_step room) s (sorted ++ from low pieces) ≡ Ok t → fold_fields (span_step room) s pieces ≡ Ok t

pub none_sorted : (d : ℕ) (text : List ℕ) (pieces : List Piece) → Pieces d text pieces → Sorting d 0 text []
none_sorted d text pieces are = record {
  pieces = pieces;
  are = are;
  sorted = [];
  copied = no_pieces;
  same = λ room s t deep made. ap (fold_fields (span_step room) s) (sym (from_first pieces)) ∙ made;
}

pub part_sorted : (d low : ℕ) (text copy new : List ℕ) → PlaceRead d low text copy new → Sorting d low text copy → Sorting d (suc low) text new
part_sorted d low text copy new w p =
    let high = suc low in
    let is : w.pieces ≡ p.pieces = same_pieces w.are p.are refl in
    record {
      pieces = p.pieces;
      are = p.are;
      sorted = p.sorted ++ w.chosen;
      copied = subst (λ (t : List ℕ). Pieces d t (p.sorted ++ w.chosen)) (sym w.copied) (pieces_append p.copied w.chosen_are);
      same = λ room s t deep made.
          let step = span_step room in
          let rest = from high p.pieces in
          let all : fold_fields step s (p.sorted ++ (w.chosen ++ rest)) ≡ Ok t = ap (fold_fields step s) (sym (append_assoc p.sorted w.chosen rest)) ∙ made in
          let two = bind_ok (fold_fields step s p.sorted) (λ b. fold_fields step b (w.chosen ++ rest)) t (sym (fold_append step s p.sorted (w.chosen ++ rest)) ∙ all) in
          let these : fold_fields step two.0 (between low high w.pieces ++ rest) ≡ Ok t = w.same room two.0 t rest deep two.2 in
          let parts : fold_fields step s (p.sorted ++ (between low high p.pieces ++ rest)) ≡ Ok t =
          fold_append step s p.sorted (between low high p.pieces ++ rest) ∙ ap (λ (r : Result SpanData ReadFault). r >>= λ b. fold_fields step b (between low high p.pieces ++ rest)) two.1
          ∙ ap (λ (l : List Piece). fold_fields step two.0 (between low high l ++ rest)) (sym is) ∙ these in
          p.same room s t deep (next_part room low high p.sorted p.pieces s t (omega arith) (ap (fold_fields step s) (append_assoc p.sorted (between low high p.pieces) rest) ∙ parts));
    }

-- the copy is read as the text
pub sorted_read : (room low : ℕ) (text copy : List ℕ) → 0 < room → room ≤ 101 → 17 < low → Sorting (101 - room) low text copy → (span : SpanData) → read_with span_step room no_span copy ≡ Ok span → read_with span_step room no_span text ≡ Ok span
sorted_read room low text copy some most lt p span made =
    let step = span_step (room - 1) in
    let all : p.sorted ++ from low p.pieces ≡ p.sorted = ap (λ (l : List Piece). p.sorted ++ l) (from_last low p.pieces lt) ∙ append-nil p.sorted in
    let copied : fold_fields step no_span (p.sorted ++ from low p.pieces) ≡ Ok span =
    ap (fold_fields step no_span) all ∙ sym (walk_pieces step no_span p.copied) ∙ sym (opened span_step room no_span copy some) ∙ made in
    opened span_step room no_span text some ∙ walk_pieces step no_span p.are ∙ p.same (room - 1) no_span span (omega (arith, some, most)) copied
