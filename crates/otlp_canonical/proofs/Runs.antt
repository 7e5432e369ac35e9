-- A text's fields are found place by place.
use Rattle.std.proofs.Common.{◌≡◌, ◌≢◌, ◌==◌, ℕ, zero, suc, ◌+◌, Bool, true, false, not, ◌&&◌, arith, List, [], ◌∷◌, ◌++◌, length, length-append, set, slice_get, replicate, Some, Ok, refl, sym, ap, subst, ◌∙◌, append_assoc, append-nil}
use Rattle.std.proofs.lemmas.Bool.{eqb-true}
use Rattle.std.proofs.lemmas.Bool.Decides.{nat_tests}
use Rattle.std.specs.List.{AllByRecursion}
use Rattle.pb_wire.specs.Grammar.{Entry, IsField}
use Rattle.pb_wire.specs.Reading.{next_at}
use Rattle.pb_wire.proofs.Again.{next_takes}
use Rattle.otlp_read.specs.Walk.{Piece, Pieces, no_pieces, before}
use Rattle.otlp_read.proofs.Sound.{by_test, each_push}
use Rattle.otlp_canonical.specs.declared.order.Run.{Run}
use Rattle.otlp_canonical.specs.Order.{place_of, last_wins, IsSoundText, PlaceRead, SideBySide, Stands, with_one, with_field, AllStand}
use Rattle.otlp_canonical.proofs.Parts.{nothing}
use Rattle.otlp_canonical.proofs.Sorted.{pieces_append, one_piece, piece, is_in, in_range, read_more, read_same, read_last, passed_on, Passing, one_put, one_left}

-- ---- one place

-- nothing stands before the first field
none_by : (d place : ℕ) → SideBySide d place [] 0 0
none_by d place = record {
  before = [];
  fields = [];
  behind = [];
  parts = refl;
  starts = refl;
  ends = refl;
  all = record { pieces = []; are = no_pieces; put = []; chosen = []; chosen_are = no_pieces; copied = refl; same = λ room s t rest deep made. made };
}

-- a field of this place, behind all that were met
grown : (d start end : ℕ) (gone front : List ℕ) (e : Entry) (run : Run) → IsField d front e → start ≡ length gone → end ≡ length gone + length front → Stands d (place_of e) gone run → Stands d (place_of e) (gone ++ front) (with_one run start end)
grown d start end gone front e run first starts ends stands =
    let k = place_of e in
    by_test (run.start == run.end)
    (λ empty. rw empty λ beside.
    let s = stands beside in
    let same : run.start ≡ run.end = eqb-true run.start run.end empty in
    let none : s.fields ≡ [] = nothing s.fields (let a = s.starts in let b = s.ends in omega arith) in
    record {
      before = gone;
      fields = front;
      behind = [];
      parts = ap (λ (t : List ℕ). gone ++ t) (sym (append-nil front));
      starts = starts;
      ends = ends;
      all = read_more d k gone [] [] front front e first (in_range k (suc k) e (omega arith) (omega arith)) refl (subst (λ (t : List ℕ). PlaceRead d k gone [] t) none s.all);
    }) λ some.
    by_test (run.end == start)
    (λ next. rw (some, next) λ beside.
    let s = stands beside in
    let same : run.end ≡ start = eqb-true run.end start next in
    let whole : length gone ≡ length s.before + (length s.fields + length s.behind) = ap (λ (t : List ℕ). length t) s.parts ∙ length-append s.before (s.fields ++ s.behind) ∙ ap (λ (n : ℕ). length s.before + n) (length-append s.fields s.behind) in
    let last : s.behind ≡ [] = nothing s.behind (let b = s.ends in omega arith) in
    let all_gone : gone ≡ s.before ++ s.fields = s.parts ∙ ap (λ (t : List ℕ). s.before ++ (s.fields ++ t)) last ∙ ap (λ (t : List ℕ). s.before ++ t) (append-nil s.fields) in
    record {
      before = s.before;
      fields = s.fields ++ front;
      behind = [];
      parts = ap (λ (t : List ℕ). t ++ front) all_gone ∙ append_assoc s.before s.fields front ∙ ap (λ (t : List ℕ). s.before ++ t) (sym (append-nil (s.fields ++ front)));
      starts = s.starts;
      ends = (let a = length-append s.fields front in let b = s.ends in omega arith);
      all = read_more d k gone [] s.fields (s.fields ++ front) front e first (in_range k (suc k) e (omega arith) (omega arith)) refl s.all;
    }) λ apart. rw (some, apart) λ beside. absurd (cc)

both : (empty wins : Bool) → (not empty && wins) ≡ true → wins ≡ true
both true wins is = absurd (cc)
both false wins is = is

-- the same, and in the place of one that stood there where the last one wins
kept : (d start end : ℕ) (gone front : List ℕ) (e : Entry) (run : Run) (pieces : List Piece) → IsField d front e → start ≡ length gone → end ≡ length gone + length front → IsSoundText e → Pieces d gone pieces → AllByRecursion (λ p. IsSoundText p.field) pieces
    → Stands d (place_of e) gone run → Stands d (place_of e) (gone ++ front) (with_field (place_of e) run start end)
kept d start end gone front e run pieces first starts ends sound are all stands =
    by_test (not (run.start == run.end) && last_wins (place_of e))
    (λ later. rw later λ beside. record {
      before = gone;
      fields = front;
      behind = [];
      parts = ap (λ (t : List ℕ). gone ++ t) (sym (append-nil front));
      starts = starts;
      ends = ends;
      all = read_last d (place_of e) gone front pieces e first (both (run.start == run.end) (last_wins (place_of e)) later) refl sound are all;
    }) λ many.
    by_test (not (run.start == run.end) && (place_of e == 15))
    (λ again. rw (many, again) λ beside. absurd (cc)) λ other. rw (many, other) (grown d start end gone front e run first starts ends stands)

pub elsewhere : (place : ℕ) (e : Entry) → place ≢ place_of e → is_in place (suc place) e ≡ false
elsewhere place e other = grind (arith, nat_tests, other)

-- a field of another place
stayed : (d place : ℕ) (gone front : List ℕ) (e : Entry) (run : Run) → IsField d front e → place ≢ place_of e → Stands d place gone run → Stands d place (gone ++ front) run
stayed d place gone front e run first other stands beside =
    let s = stands beside in
    record {
      before = s.before;
      fields = s.fields;
      behind = s.behind ++ front;
      parts = ap (λ (t : List ℕ). t ++ front) s.parts ∙ append_assoc s.before (s.fields ++ s.behind) front ∙ ap (λ (t : List ℕ). s.before ++ t) (append_assoc s.fields s.behind front);
      starts = s.starts;
      ends = s.ends;
      all = read_same d place gone [] s.fields front e first (elsewhere place e other) s.all;
    }

-- ---- all places

set_here : (xs : List Run) (i : ℕ) (x y : Run) → slice_get (set xs i x) i ≡ Some y → y ≡ x
set_here [] i x y at = absurd (cc)
set_here (z ∷ xs) zero x y at = cc
set_here (z ∷ xs) (suc i) x y at = set_here xs i x y at

set_there : (xs : List Run) (i j : ℕ) (x : Run) → j ≢ i → slice_get (set xs i x) j ≡ slice_get xs j
set_there [] i j x other = refl
set_there (z ∷ xs) zero zero x other = absurd (other refl)
set_there (z ∷ xs) zero (suc j) x other = refl
set_there (z ∷ xs) (suc i) zero x other = refl
set_there (z ∷ xs) (suc i) (suc j) x other = set_there xs i j x (λ e. other (ap suc e))

of_many : (n i : ℕ) (x y : Run) → slice_get (replicate n x) i ≡ Some y → y ≡ x
of_many zero i x y at = absurd (cc)
of_many (suc n) zero x y at = cc
of_many (suc n) (suc i) x y at = of_many n i x y at

-- the fields that went by
pub record Found (d : ℕ) (text left : List ℕ) (runs : List Run) : Type 0 where
  pub gone : List ℕ
  pub parts : text ≡ gone ++ left
  pub so_far : AllStand d gone runs

pub none_found : (d n : ℕ) (text : List ℕ) (empty : Run) → empty.start ≡ 0 → empty.end ≡ 0 → Found d text text (replicate n empty)
none_found d n text empty starts ends = record {
  gone = [];
  parts = refl;
  so_far = record {
    pieces = [];
    are = no_pieces;
    sound = tt;
    each = λ place run at beside. let same = of_many n place empty run at in rw (same, starts, ends) (none_by d place);
  };
}

-- one more
pub one_found : (d start end : ℕ) (text left rest : List ℕ) (runs : List Run) (run : Run) (e : Entry) → next_at d left ≡ Ok (Some (e, rest)) → start + length left ≡ length text → end + length rest ≡ length text → slice_get runs (place_of e) ≡ Some run → IsSoundText e
    → Found d text left runs → Found d text rest (set runs (place_of e) (with_field (place_of e) run start end))
one_found d start end text left rest runs run e found starts ends at sound f =
    let b = next_takes d left e rest found in
    let all : length text ≡ length f.gone + length left = ap (λ (t : List ℕ). length t) f.parts ∙ length-append f.gone left in
    let here : length left ≡ length b.front + length rest = ap (λ (t : List ℕ). length t) b.parts ∙ length-append b.front rest in
    let new = with_field (place_of e) run start end in
    let stands : Stands d (place_of e) (f.gone ++ b.front) new = kept d start end f.gone b.front e run f.so_far.pieces b.first (omega arith) (omega arith) sound f.so_far.are f.so_far.sound (f.so_far.each (place_of e) run at) in
    record {
      gone = f.gone ++ b.front;
      parts = passed_on f.gone b.front rest f.parts b.parts;
      so_far = record {
        pieces = f.so_far.pieces ++ piece e b.front ∷ [];
        are = pieces_append f.so_far.are (one_piece d b.front e b.first);
        sound = each_push (λ p. IsSoundText p.field) f.so_far.pieces (piece e b.front) f.so_far.sound sound;
        each = λ place other is. by_test (place == place_of e)
            (λ same.
            let p : place ≡ place_of e = eqb-true place (place_of e) same in
            let it : other ≡ new = set_here runs (place_of e) new other (subst (λ (n : ℕ). slice_get (set runs (place_of e) new) n ≡ Some other) p is) in
            rw (p, it) stands) λ differs.
            let apart : place ≢ place_of e = λ p. grind (arith, nat_tests) in
            stayed d place f.gone b.front e other b.first apart (f.so_far.each place other (sym (set_there runs (place_of e) place new apart) ∙ is));
      };
    }

-- the whole text
pub all_found : (d : ℕ) (text left : List ℕ) (runs : List Run) → left ≡ [] → Found d text left runs → AllStand d text runs
all_found d text left runs none f =
    let whole : f.gone ≡ text = sym (f.parts ∙ ap (λ (t : List ℕ). f.gone ++ t) none ∙ append-nil f.gone) in
    subst (λ (t : List ℕ). AllStand d t runs) whole f.so_far

-- ---- the fields of one place, apart

pub elsewhere_left : (d place : ℕ) (text old copy left rest : List ℕ) (e : Entry) → place ≢ place_of e → next_at d left ≡ Ok (Some (e, rest)) → Passing d place (suc place) text old copy left → Passing d place (suc place) text old copy rest
elsewhere_left d place text old copy left rest e other = one_left d place (suc place) text old copy left rest e (elsewhere place e other)

pub here_put : (d place : ℕ) (text old copy longer left rest : List ℕ) (e : Entry) → place ≡ place_of e → next_at d left ≡ Ok (Some (e, rest)) → longer ≡ copy ++ before left rest → Passing d place (suc place) text old copy left → Passing d place (suc place) text old longer rest
here_put d place text old copy longer left rest e same = one_put d place (suc place) text old copy longer left rest e (omega arith) (omega arith)
