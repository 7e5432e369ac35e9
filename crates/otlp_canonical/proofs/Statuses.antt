-- Statuses of one span are merged: one that holds what all of them hold makes of a span what they make.
use Rattle.std.proofs.Common.{◌≡◌, ℕ, zero, suc, ◌+◌, ◌-◌, ◌<◌, ◌^◌, Bool, true, false, arith, List, [], ◌∷◌, ◌++◌, length, length-append, take, drop, Some, unwrap_or, Result, Ok, Err, refl, sym, ap, subst, ◌∙◌, append_assoc, append-nil}
use Rattle.std.proofs.Math.Seq.{take-append_seam, drop-append_seam}
use Rattle.pb_wire.specs.Grammar.{Bytes, Entry}
use Rattle.pb_wire.specs.Reading.{next_at}
use Rattle.pb_wire.proofs.Again.{next_takes}
use Rattle.pb_wire.proofs.Written.{field_written}
use Rattle.otlp_trace.specs.Data.{StatusData, SpanData}
use Rattle.otlp_trace.specs.Defaults.{no_status}
use Rattle.otlp_trace.specs.Text.{bytes_field}
use Rattle.otlp_read.specs.declared.fault.ReadFault.{ReadFault}
use Rattle.otlp_read.specs.Value.{status_step, span_step}
use Rattle.otlp_read.specs.Walk.{◌>>=◌, Piece, Pieces, no_pieces, more_pieces, fold_fields, read_with, numbered}
use Rattle.otlp_read.proofs.Laws.{fold_append, walk_pieces}
use Rattle.otlp_read.proofs.Opened.{opened_at}
use Rattle.otlp_read.proofs.Sound.{by_test}
use Rattle.otlp_read.proofs.Walks.{bind_same}
use Rattle.otlp_canonical.specs.Order.{is_known, place_at, between, PlaceRead}
use Rattle.otlp_canonical.specs.Status.{AreFields, status_piece, MakeOne, StatusesHeld}
use Rattle.otlp_canonical.proofs.Sorted.{pieces_append, one_piece, piece, is_in, chosen_more, chosen_same, passed_on}

-- ---- whole fields

pub no_fields_left : (d : ℕ) (text : List ℕ) → text ≡ [] → AreFields d text
no_fields_left d text none = subst (AreFields d) (sym none) (record { pieces = []; are = no_pieces })

-- a field before them
pub one_before : (d : ℕ) (left rest : List ℕ) (e : Entry) → next_at d left ≡ Ok (Some (e, rest)) → AreFields d rest → AreFields d left
one_before d left rest e found a =
    let b = next_takes d left e rest found in
    subst (AreFields d) (sym b.parts) (record { pieces = piece e b.front ∷ a.pieces; are = more_pieces b.first a.are })

-- ---- what is read of them

too_deep : (s : StatusData) (a b : List ℕ) → read_with status_step zero s (a ++ b) ≡ (read_with status_step zero s a >>= λ x. read_with status_step zero x b)
unfolding read_with
too_deep s a b = refl

-- two texts of whole fields, one behind the other
both_read : (room inside : ℕ) (s : StatusData) (a b : List ℕ) (ps qs : List Piece) → inside + room ≡ 101 → Pieces inside a ps → Pieces inside b qs
    → read_with status_step room s (a ++ b) ≡ (read_with status_step room s a >>= λ x. read_with status_step room x b)
both_read zero inside s a b ps qs at are also = too_deep s a b
both_read (suc room) inside s a b ps qs at are also =
    let step = status_step room in
    let is : inside ≡ 100 - room = omega (arith, at) in
    let first : Pieces (100 - room) a ps = subst (λ (n : ℕ). Pieces n a ps) is are in
    let second : Pieces (100 - room) b qs = subst (λ (n : ℕ). Pieces n b qs) is also in
    opened_at status_step room s (a ++ b) ∙ walk_pieces step s (pieces_append first second) ∙ fold_append step s ps qs
    ∙ ap (λ (r : Result StatusData ReadFault). r >>= λ x. fold_fields step x qs) (sym (walk_pieces step s first) ∙ sym (opened_at status_step room s a))
    ∙ bind_same (read_with status_step (suc room) s a) (λ x. fold_fields step x qs) (λ x. read_with status_step (suc room) x b) (λ x. sym (walk_pieces step x second) ∙ sym (opened_at status_step room x b))

-- a status, and then another, make what one makes that holds what both hold
merged : (room d : ℕ) (s : SpanData) (a b first second spelled : List ℕ) (ps qs : List Piece) → d + room ≡ 100 → Pieces (suc d) a ps → Pieces (suc d) b qs
    → (span_step room s (numbered 15 (Bytes a)) first >>= λ t. span_step room t (numbered 15 (Bytes b)) second) ≡ span_step room s (numbered 15 (Bytes (a ++ b))) spelled
merged room d s a b first second spelled ps qs deep are also =
    over (read_with status_step room (unwrap_or s.status no_status) a)
    ∙ ap (λ (r : Result StatusData ReadFault). r >>= λ y. Ok (record s { status = Some y })) (sym (both_read room (suc d) (unwrap_or s.status no_status) a b ps qs (omega (arith, deep)) are also))
  where
    over : (r : Result StatusData ReadFault) → ((r >>= λ x. Ok (record s { status = Some x })) >>= λ t. span_step room t (numbered 15 (Bytes b)) second) ≡ ((r >>= λ x. read_with status_step room x b) >>= λ y. Ok (record s { status = Some y }))
    over (Ok x) = refl
    over (Err f) = refl

two_made : (room d : ℕ) (s : SpanData) (a b first second spelled : List ℕ) (ps qs rest : List Piece) → d + room ≡ 100 → Pieces (suc d) a ps → Pieces (suc d) b qs
    → fold_fields (span_step room) s (status_piece a first ∷ status_piece b second ∷ rest) ≡ fold_fields (span_step room) s (status_piece (a ++ b) spelled ∷ rest)
two_made room d s a b first second spelled ps qs rest deep are also =
    over (span_step room s (numbered 15 (Bytes a)) first) ∙ ap (λ (r : Result SpanData ReadFault). r >>= λ u. fold_fields (span_step room) u rest) (merged room d s a b first second spelled ps qs deep are also)
  where
    over : (r : Result SpanData ReadFault) → (r >>= λ t. span_step room t (numbered 15 (Bytes b)) second >>= λ u. fold_fields (span_step room) u rest) ≡ ((r >>= λ t. span_step room t (numbered 15 (Bytes b)) second) >>= λ u. fold_fields (span_step room) u rest)
    over (Ok t) = refl
    over (Err f) = refl

-- ---- the statuses of a text

-- none was met, or one makes what those make that were
abbrev pub SoFar : ℕ → Bool → List Piece → List ℕ → Type 0
SoFar d true pieces held = MakeOne d pieces held
SoFar d false pieces held = (held ≡ []) × (pieces ≡ [])

first_made : (d : ℕ) (held front : List ℕ) → MakeOne d ([] ++ status_piece held front ∷ []) ([] ++ held)
first_made d held front = λ room s spelled rest deep. refl

one_more : (d : ℕ) (met : Bool) (pieces : List Piece) (put held front : List ℕ) (ps qs : List Piece) → Pieces (suc d) put ps → Pieces (suc d) held qs
    → SoFar d met pieces put → MakeOne d (pieces ++ status_piece held front ∷ []) (put ++ held)
one_more d false pieces put held front ps qs are also none =
    subst (λ (l : List Piece). MakeOne d (l ++ status_piece held front ∷ []) (put ++ held)) (sym none.1) (subst (λ (t : List ℕ). MakeOne d ([] ++ status_piece held front ∷ []) (t ++ held)) (sym none.0) (first_made d held front))
one_more d true pieces put held front ps qs are also made = λ room s spelled rest deep.
    ap (fold_fields (span_step room) s) (append_assoc pieces (status_piece held front ∷ []) rest)
    ∙ made room s spelled (status_piece held front ∷ rest) deep ∙ two_made room d s put held spelled front spelled ps qs rest deep are also

-- the fields that went by, and what the statuses among them hold
pub record Merging (d : ℕ) (text old copy left : List ℕ) (met : Bool) : Type 0 where
  pub gone : List ℕ
  pub parts : text ≡ gone ++ left
  pub pieces : List Piece
  pub are : Pieces d gone pieces
  pub put : List ℕ
  pub whole : AreFields (suc d) put
  pub copied : copy ≡ old ++ put
  pub so_far : SoFar d met (between 15 16 pieces) put

pub none_merged : (d : ℕ) (text old : List ℕ) → Merging d text old old text false
none_merged d text old = record {
  gone = [];
  parts = refl;
  pieces = [];
  are = no_pieces;
  put = [];
  whole = record { pieces = []; are = no_pieces };
  copied = sym (append-nil old);
  so_far = (refl, refl);
}

-- a status
pub one_merged : (d : ℕ) (text old copy longer left rest held : List ℕ) (met : Bool) (e : Entry) → e ≡ numbered 15 (Bytes held) → AreFields (suc d) held → next_at d left ≡ Ok (Some (e, rest)) → longer ≡ copy ++ held
    → Merging d text old copy left met → Merging d text old longer rest true
one_merged d text old copy longer left rest held met e is fields found longer_is m =
    let b = next_takes d left e rest found in
    let this : is_in 15 16 e ≡ true = rw is refl in
    let more : between 15 16 (m.pieces ++ piece e b.front ∷ []) ≡ between 15 16 m.pieces ++ status_piece held b.front ∷ [] =
    chosen_more 15 16 m.pieces e b.front this ∙ ap (λ (f : Entry). between 15 16 m.pieces ++ piece f b.front ∷ []) is in
    let whole = m.whole in
    record {
      gone = m.gone ++ b.front;
      parts = passed_on m.gone b.front rest m.parts b.parts;
      pieces = m.pieces ++ piece e b.front ∷ [];
      are = pieces_append m.are (one_piece d b.front e b.first);
      put = m.put ++ held;
      whole = record { pieces = whole.pieces ++ fields.pieces; are = pieces_append whole.are fields.are };
      copied = longer_is ∙ ap (λ (t : List ℕ). t ++ held) m.copied ∙ append_assoc old m.put held;
      so_far = subst (λ (l : List Piece). MakeOne d l (m.put ++ held)) (sym more) (one_more d met (between 15 16 m.pieces) m.put held b.front whole.pieces fields.pieces whole.are fields.are m.so_far);
    }

-- another field
pub one_passed : (d : ℕ) (text old copy left rest : List ℕ) (met : Bool) (e : Entry) → is_in 15 16 e ≡ false → next_at d left ≡ Ok (Some (e, rest)) → Merging d text old copy left met → Merging d text old copy rest met
one_passed d text old copy left rest met e other found m =
    let b = next_takes d left e rest found in
    record {
      gone = m.gone ++ b.front;
      parts = passed_on m.gone b.front rest m.parts b.parts;
      pieces = m.pieces ++ piece e b.front ∷ [];
      are = pieces_append m.are (one_piece d b.front e b.first);
      put = m.put;
      whole = m.whole;
      copied = m.copied;
      so_far = subst (λ (l : List Piece). SoFar d met l m.put) (sym (chosen_same 15 16 m.pieces e b.front other)) m.so_far;
    }

-- the whole text
pub all_merged : (d : ℕ) (text old copy left : List ℕ) (met : Bool) → left ≡ [] → met ≡ true → Merging d text old copy left met → StatusesHeld d text old copy
all_merged d text old copy left met none some m =
    let whole : m.gone ≡ text = sym (m.parts ∙ ap (λ (t : List ℕ). m.gone ++ t) none ∙ append-nil m.gone) in
    record {
      pieces = m.pieces;
      are = subst (λ (t : List ℕ). Pieces d t m.pieces) whole m.are;
      put = m.put;
      copied = m.copied;
      same = subst (λ (b : Bool). SoFar d b (between 15 16 m.pieces) m.put) some m.so_far;
    }

-- a field of bytes at a status' place is one
pub status_at : (n : ℕ) (bs : List ℕ) → place_at n (Bytes bs) ≡ 15 → n ≡ 15
status_at n bs placed =
    by_test (is_known n (Bytes bs)) (λ is. rw is at placed) λ not. absurd (let never : 17 ≡ 15 = rw not at placed in omega (arith, never))

-- ---- in one field

pub held_put : (d start : ℕ) (text old mid new : List ℕ) → start ≡ length old → length mid < 2 ^ 64 → new ≡ take start mid ++ bytes_field 15 (drop start mid) → StatusesHeld d text old mid → PlaceRead d 15 text old new
held_put d start text old mid new at fits is h =
    let all : length mid ≡ length old + length h.put = ap (λ (t : List ℕ). length t) h.copied ∙ length-append old h.put in
    let front : take start mid ≡ old = ap (take start) h.copied ∙ ap (λ (n : ℕ). take n (old ++ h.put)) at ∙ take-append_seam old h.put in
    let inside : drop start mid ≡ h.put = ap (drop start) h.copied ∙ ap (λ (n : ℕ). drop n (old ++ h.put)) at ∙ drop-append_seam old h.put in
    let short : length h.put < 2 ^ 64 = omega (arith, all, fits) in
    let field = bytes_field 15 h.put in
    record {
      pieces = h.pieces;
      are = h.are;
      put = field;
      chosen = status_piece h.put field ∷ [];
      chosen_are = one_piece d field (numbered 15 (Bytes h.put)) (field_written d (numbered 15 (Bytes h.put)) (omega arith) (omega arith) short);
      copied = is ∙ ap (λ (t : List ℕ). t ++ bytes_field 15 (drop start mid)) front ∙ ap (λ (t : List ℕ). old ++ bytes_field 15 t) inside;
      same = λ room s t rest deep made. h.same room s field rest deep ∙ made;
    }
