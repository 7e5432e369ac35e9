-- The last message and the last code of a span's statuses make what all of them make that hold nothing else.
use Rattle.std.proofs.Common.{◌≡◌, ℕ, zero, suc, ◌+◌, ◌-◌, ◌<◌, ◌^◌, Bool, true, false, arith, List, [], ◌∷◌, ◌++◌, length, length-append, Some, unwrap_or, Result, Ok, refl, sym, ap, subst, ◌∙◌, append-nil, append_assoc}
use Rattle.std.proofs.lemmas.Str.{IsUtf8-nil}
use Rattle.std.specs.Str.{IsUtf8}
use Rattle.pb_wire.specs.Grammar.{Varint, Bytes, Entry}
use Rattle.pb_wire.specs.Reading.{next_at}
use Rattle.pb_wire.proofs.Again.{next_takes}
use Rattle.otlp_trace.specs.Data.{StatusData}
use Rattle.otlp_trace.specs.Defaults.{no_status}
use Rattle.otlp_trace.specs.Text.{bytes_field}
use Rattle.otlp_read.specs.declared.fault.ReadFault.{ReadFault}
use Rattle.otlp_read.specs.Value.{status_step, span_step}
use Rattle.otlp_read.specs.Walk.{◌>>=◌, Pieces, no_pieces, fold_fields, walk, read_with, numbered}
use Rattle.otlp_read.proofs.Laws.{fold_append, walk_pieces}
use Rattle.otlp_read.proofs.Leaves.{utf8_yes}
use Rattle.otlp_read.proofs.Opened.{opened_at}
use Rattle.otlp_read.proofs.Taken.{Taken, Short, nothing, then, whole, bytes_taken, number_taken}
use Rattle.otlp_canonical.specs.Order.{between}
use Rattle.otlp_canonical.specs.Status.{MakeOne, StatusesHeld, with_parts, message_text, code_text, StatusMakes, PartsHeld}
use Rattle.otlp_canonical.proofs.Sorted.{pieces_append, one_piece, piece, is_in, passed_on}
use Rattle.otlp_canonical.proofs.Statuses.{Merging, none_merged, one_merged, one_passed, all_merged}

-- ---- texts one behind the other

pub nothing_made : (d : ℕ) (f : StatusData → StatusData) → StatusMakes d [] f f
nothing_made d f = record { pieces = []; are = no_pieces; made = λ room s. refl }

pub both_made : (d : ℕ) (a b : List ℕ) (f g h : StatusData → StatusData) → StatusMakes d a f g → StatusMakes d b g h → StatusMakes d (a ++ b) f h
both_made d a b f g h x y = record {
  pieces = x.pieces ++ y.pieces;
  are = pieces_append x.are y.are;
  made = λ room s.
      fold_append (status_step room) (f s) x.pieces y.pieces
      ∙ ap (λ (r : Result StatusData ReadFault). r >>= λ t. fold_fields (status_step room) t y.pieces) (x.made room s) ∙ y.made room s;
}

-- ---- the fields of one status

-- those that went by
pub record Taking (d : ℕ) (text left first message : List ℕ) (before after : StatusData → StatusData) : Type 0 where
  pub gone : List ℕ
  pub parts : text ≡ gone ++ left
  pub valid : IsUtf8 first → IsUtf8 message
  pub so_far : StatusMakes d gone before after

pub none_went : (d : ℕ) (text first : List ℕ) (f : StatusData → StatusData) → Taking d text text first first f f
none_went d text first f = record { gone = []; parts = refl; valid = λ valid. valid; so_far = nothing_made d f }

one_went : (d : ℕ) (text left rest first message later : List ℕ) (before after next : StatusData → StatusData) (e : Entry) → next_at d left ≡ Ok (Some (e, rest)) → (IsUtf8 message → IsUtf8 later)
    → ((room : ℕ) (s : StatusData) (spelled : List ℕ) → status_step room (after s) e spelled ≡ Ok (next s)) → Taking d text left first message before after → Taking d text rest first later before next
one_went d text left rest first message later before after next e found valid same t =
    let b = next_takes d left e rest found in
    let this : StatusMakes d b.front after next = record {
      pieces = piece e b.front ∷ [];
      are = one_piece d b.front e b.first;
      made = λ room s. ap (λ (r : Result StatusData ReadFault). r >>= λ u. Ok u) (same room s b.front);
    } in
    record {
      gone = t.gone ++ b.front;
      parts = passed_on t.gone b.front rest t.parts b.parts;
      valid = λ first_is. valid (t.valid first_is);
      so_far = both_made d t.gone b.front before after next t.so_far this;
    }

pub message_went : (d : ℕ) (text left rest first message bs : List ℕ) (has_message : Bool) (code : ℕ) (has_code : Bool) (before : StatusData → StatusData) (e : Entry) → e ≡ numbered 2 (Bytes bs) → next_at d left ≡ Ok (Some (e, rest)) → IsUtf8 bs
    → Taking d text left first message before (with_parts message has_message code has_code) → Taking d text rest first bs before (with_parts bs true code has_code)
message_went d text left rest first message bs has_message code has_code before e is found valid t =
    one_went d text left rest first message bs before (with_parts message has_message code has_code) (with_parts bs true code has_code) e found (λ other. valid)
    (λ room s spelled. rw is (ap (λ (r : Result (List ℕ) ReadFault). r >>= λ text. Ok (record (with_parts message has_message code has_code s) { message = text })) (utf8_yes bs valid))) t

pub code_went : (d : ℕ) (text left rest first message : List ℕ) (x : ℕ) (has_message : Bool) (code : ℕ) (has_code : Bool) (before : StatusData → StatusData) (e : Entry) → e ≡ numbered 3 (Varint x) → next_at d left ≡ Ok (Some (e, rest))
    → Taking d text left first message before (with_parts message has_message code has_code) → Taking d text rest first message before (with_parts message has_message x true)
code_went d text left rest first message x has_message code has_code before e is found t =
    one_went d text left rest first message message before (with_parts message has_message code has_code) (with_parts message has_message x true) e found (λ valid. valid) (λ room s spelled. rw is refl) t

pub all_went : (d : ℕ) (text left first message : List ℕ) (before after : StatusData → StatusData) → left ≡ [] → Taking d text left first message before after → StatusMakes d text before after
all_went d text left first message before after none t =
    let all : t.gone ≡ text = sym (t.parts ∙ ap (λ (r : List ℕ). t.gone ++ r) none ∙ append-nil t.gone) in
    subst (λ (r : List ℕ). StatusMakes d r before after) all t.so_far

-- ---- all statuses of a text

-- the fields that went by
pub record TakingAll (d : ℕ) (text left message : List ℕ) (met : Bool) (after : StatusData → StatusData) : Type 0 where
  pub held : List ℕ
  pub so_far : Merging d text [] held left met
  pub valid : IsUtf8 message
  pub makes : StatusMakes (suc d) held (λ s. s) after

pub none_met : (d : ℕ) (text : List ℕ) → TakingAll d text text [] false (with_parts [] false 0 false)
none_met d text = record { held = []; so_far = none_merged d text []; valid = IsUtf8-nil; makes = record { pieces = []; are = no_pieces; made = λ room s. refl } }

-- a status
pub one_met : (d : ℕ) (text left rest bs message later : List ℕ) (met : Bool) (before after : StatusData → StatusData) (e : Entry) → e ≡ numbered 15 (Bytes bs) → next_at d left ≡ Ok (Some (e, rest)) → (IsUtf8 message → IsUtf8 later)
    → StatusMakes (suc d) bs before after → TakingAll d text left message met before → TakingAll d text rest later true after
one_met d text left rest bs message later met before after e is found valid m t = record {
  held = t.held ++ bs;
  so_far = one_merged d text [] t.held (t.held ++ bs) left rest bs met e is (record { pieces = m.pieces; are = m.are }) found refl t.so_far;
  valid = valid t.valid;
  makes = both_made (suc d) t.held bs (λ s. s) before after t.makes m;
}

-- another field
pub one_left : (d : ℕ) (text left rest message : List ℕ) (met : Bool) (after : StatusData → StatusData) (e : Entry) → is_in 15 16 e ≡ false → next_at d left ≡ Ok (Some (e, rest)) → TakingAll d text left message met after → TakingAll d text rest message met after
one_left d text left rest message met after e other found t =
    record { held = t.held; so_far = one_passed d text [] t.held left rest met e other found t.so_far; valid = t.valid; makes = t.makes }

-- the whole text
pub all_met : (d : ℕ) (text left message : List ℕ) (met : Bool) (after : StatusData → StatusData) → left ≡ [] → met ≡ true → TakingAll d text left message met after → PartsHeld d text after
all_met d text left message met after none some t = record { held = t.held; all = all_merged d text [] t.held left met none some t.so_far; makes = t.makes }

-- ---- what is written of the two

parts_taken : (room d : ℕ) (s : StatusData) (message : List ℕ) (has_message : Bool) (code : ℕ) (has_code : Bool) → IsUtf8 message → code < 2 ^ 64
    → Taken (status_step room) d s (message_text message has_message ++ code_text code has_code) (with_parts message has_message code has_code s)
parts_taken room d s message has_message code has_code valid fits = then (message_taken has_message) (code_taken has_code)
  where
    utf8_step : (spelled : List ℕ) → status_step room s (numbered 2 (Bytes message)) spelled ≡ Ok (with_parts message true 0 false s)
    utf8_step spelled = ap (λ (r : Result (List ℕ) ReadFault). r >>= λ text. Ok (record s { message = text })) (utf8_yes message valid)

    message_taken : (has : Bool) → Taken (status_step room) d s (message_text message has) (with_parts message has 0 false s)
    message_taken true = bytes_taken (status_step room) d 2 refl s (with_parts message true 0 false s) message (λ short. utf8_step (bytes_field 2 message))
    message_taken false = nothing (status_step room) d s

    code_taken : (has : Bool) → Taken (status_step room) d (with_parts message has_message 0 false s) (code_text code has) (with_parts message has_message code has s)
    code_taken true = number_taken (status_step room) d 3 refl (with_parts message has_message 0 false s) (with_parts message has_message code true s) code fits refl
    code_taken false = nothing (status_step room) d (with_parts message has_message 0 false s)

too_deep : (s : StatusData) (a b : List ℕ) → read_with status_step zero s a ≡ read_with status_step zero s b
unfolding read_with
too_deep s a b = refl

-- they are read as all that stands in the statuses
read_alike : (room d : ℕ) (s : StatusData) (held put : List ℕ) (after : StatusData → StatusData) → d + room ≡ 100 → StatusMakes (suc d) held (λ s. s) after → ((room d : ℕ) (s : StatusData) → walk (status_step room) d s put ≡ Ok (after s))
    → read_with status_step room s held ≡ read_with status_step room s put
read_alike zero d s held put after deep m walked = too_deep s held put
read_alike (suc room) d s held put after deep m walked =
    let is : suc d ≡ 100 - room = omega (arith, deep) in
    let are : Pieces (100 - room) held m.pieces = subst (λ (n : ℕ). Pieces n held m.pieces) is m.are in
    opened_at status_step room s held ∙ walk_pieces (status_step room) s are ∙ m.made room s ∙ sym (walked room (100 - room) s) ∙ sym (opened_at status_step room s put)

pub parts_put : (d : ℕ) (text message : List ℕ) (has_message : Bool) (code : ℕ) (has_code : Bool) (old mid new : List ℕ) → IsUtf8 message → code < 2 ^ 64 → length new < 2 ^ 64 → mid ≡ old ++ message_text message has_message → new ≡ mid ++ code_text code has_code
    → PartsHeld d text (with_parts message has_message code has_code) → StatusesHeld d text old new
parts_put d text message has_message code has_code old mid new valid few fits keyed coded h =
    let first = message_text message has_message in
    let behind = code_text code has_code in
    let put = first ++ behind in
    let after = with_parts message has_message code has_code in
    let is : new ≡ old ++ put = coded ∙ ap (λ (t : List ℕ). t ++ behind) keyed ∙ append_assoc old first behind in
    let short : Short put = omega (arith, ap (λ (t : List ℕ). length t) is, length-append old put, fits) in
    let all = h.all in
    let one : MakeOne d (between 15 16 all.pieces) h.held = subst (λ (t : List ℕ). MakeOne d (between 15 16 all.pieces) t) (sym all.copied) all.same in
    record {
      pieces = all.pieces;
      are = all.are;
      put = put;
      copied = is;
      same = λ room s spelled rest deep.
          one room s spelled rest deep
          ∙ ap (λ (r : Result StatusData ReadFault). (r >>= λ x. Ok (record s { status = Some x })) >>= λ u. fold_fields (span_step room) u rest)
          (read_alike room d (unwrap_or s.status no_status) h.held put after deep h.makes (λ inner depth x. whole (parts_taken inner depth x message has_message code has_code valid few) short));
    }
