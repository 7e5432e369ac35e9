-- A span's flags, which are passed over and put behind all its other fields.
use Rattle.std.proofs.Common.{◌≡◌, ◌≢◌, ◌==◌, ◌&&◌, ℕ, Bool, true, false, not, ◌-◌, ◌<◌, nat_lt, List, [], ◌++◌, length, length-append, Some, Result, Ok, Err, refl, sym, ap, subst, ◌∙◌, append_assoc, append-nil, arith}
use Rattle.std.proofs.lemmas.Bool.{eqb-true}
use Rattle.std.proofs.lemmas.Bool.Decides.{nat_tests}
use Rattle.pb_wire.specs.Grammar.{Datum, Varint, Eight, Bytes, Four, Group, Entry, IsField}
use Rattle.pb_wire.specs.Reading.{next_at}
use Rattle.pb_wire.proofs.Again.{next_takes}
use Rattle.pb_wire.proofs.Whole.{next_shorter}
use Rattle.otlp_trace.specs.Data.{SpanData}
use Rattle.otlp_trace.specs.Defaults.{no_span}
use Rattle.otlp_read.specs.declared.fault.ReadFault.{ReadFault}
use Rattle.otlp_read.specs.Numbers.{fixed32}
use Rattle.otlp_read.specs.Value.{span_step}
use Rattle.otlp_read.specs.Walk.{◌>>=◌, before, walk, read_with}
use Rattle.otlp_read.proofs.Opened.{opened}
use Rattle.otlp_read.proofs.Sound.{by_test}
use Rattle.otlp_read.proofs.Walks.{bind_same, before_rest, turn_end}
use Rattle.otlp_canonical.specs.Defaults.{DefaultsAbove, holds_default}
use Rattle.otlp_canonical.specs.Order.{is_known, place_at, place_of}
use Rattle.otlp_canonical.proofs.Dropped.{Going, going_none, going_same, front_walked}
use Rattle.otlp_canonical.proofs.InnerDefaults.{span_laws}
use Rattle.otlp_canonical.proofs.Mixed.{mix, mixed}
use Rattle.otlp_canonical.proofs.Parts.{nothing}

-- ---- the flags of a span, and its other fields

abbrev but_flags : ℕ → Bool
but_flags n = not (n == 16)

other_place : (n : ℕ) → n ≢ 16 → but_flags n ≡ true
other_place n differs = by_test (n == 16) (λ e. absurd (differs (eqb-true n 16 e))) (λ e. rw e refl)

-- the flags are set, whatever they were
abbrev Sets : Entry → SpanData → Type 0
Sets e b = (room : ℕ) (s : SpanData) (spelled : List ℕ) → span_step room s e spelled ≡ Ok (mix but_flags s b)

no_flags : (n : ℕ) (v : Datum) → is_known 16 v ≡ false → place_at n v ≡ 16 → ⊥
no_flags n v unknown is =
    by_test (is_known n v)
    (λ known.
    let same : n ≡ 16 = rw known at is in
    let never : is_known 16 v ≡ true = subst (λ (m : ℕ). is_known m v ≡ true) same known in
    let wrong : false ≡ true = sym unknown ∙ never in
    absurd (cc)) λ not_known.
    let wrong : 17 ≡ 16 = rw not_known at is in
    absurd (omega (arith, wrong))

flags_at : (n : ℕ) (v : Datum) → place_at n v ≡ 16 → (b : SpanData) × Sets (record { number = n; value = v }) b
flags_at n (Four bs) is =
    by_test (n == 16) (λ e. (record no_span { flags = fixed32 bs }, λ room s spelled. rw e refl)) λ e.
    absurd (let wrong : 17 ≡ 16 = rw e at is in omega (arith, wrong))
flags_at n (Varint x) is = absurd (no_flags n (Varint x) refl is)
flags_at n (Eight bs) is = absurd (no_flags n (Eight bs) refl is)
flags_at n (Bytes bs) is = absurd (no_flags n (Bytes bs) refl is)
flags_at n (Group bs) is = absurd (no_flags n (Group bs) refl is)

flags_set : (e : Entry) → place_of e ≡ 16 → (b : SpanData) × Sets e b
flags_set e is = flags_at e.number e.value is

-- the flags that are moved, and other fields
are_flags : (place : ℕ) (moves : Bool) → (place == 16 && moves) ≡ true → (place ≡ 16) × (moves ≡ true)
are_flags place moves is =
    by_test (place == 16) (λ e. (eqb-true place 16 e, rw e at is)) λ e.
    absurd (let never : false ≡ true = rw e at is in cc)

not_flags : (place : ℕ) (moves : Bool) → (place == 16 && moves) ≡ false → moves ≡ true → place ≢ 16
not_flags place moves is on same =
    let never : (16 == 16 && true) ≡ false = subst (λ (m : Bool). (16 == 16 && m) ≡ false) on (subst (λ (p : ℕ). (p == 16 && moves) ≡ false) same is) in
    absurd (cc)

-- the text is fields, none of them the flags
pub data Others : ℕ → List ℕ → Type 0 where
  no_others : {d : ℕ} → Others d []
  more_others : {d : ℕ} {front rest : List ℕ} {field : Entry} → IsField d front field → place_of field ≢ 16 → Others d rest → Others d (front ++ rest)

module _ (room d : ℕ) where
  abbrev walked : SpanData → List ℕ → Result SpanData ReadFault
  walked s text = walk (span_step room) d s text

  then : (b : SpanData) (rest : List ℕ) (r : Result SpanData ReadFault) → ((a : SpanData) → walked (mix but_flags a b) rest ≡ (walked a rest >>= λ t. Ok (mix but_flags t b)))
      → ((r >>= λ a. Ok (mix but_flags a b)) >>= λ a. walked a rest) ≡ ((r >>= λ a. walked a rest) >>= λ t. Ok (mix but_flags t b))
  then b rest (Ok a) same = same a
  then b rest (Err f) same = refl

  -- they make of a span with other flags what they make of the span
  others_walked : (s b : SpanData) (text : List ℕ) → Others d text → walked (mix but_flags s b) text ≡ (walked s text >>= λ t. Ok (mix but_flags t b))
  others_walked s b text no_others =
      turn_end (span_step room) d (mix but_flags s b) [] refl ∙ sym (ap (λ (r : Result SpanData ReadFault). r >>= λ t. Ok (mix but_flags t b)) (turn_end (span_step room) d s [] refl))
  others_walked s b text (more_others {front = front} {rest = rest} {field = field} first differs inner) =
      front_walked (span_step room) d (mix but_flags s b) front rest field first
      ∙ ap (λ (r : Result SpanData ReadFault). r >>= λ a. walked a rest) (mixed room but_flags s b field front (other_place (place_of field) differs))
      ∙ then b rest (span_step room s field front) (λ a. others_walked a b rest inner)
      ∙ sym (ap (λ (r : Result SpanData ReadFault). r >>= λ t. Ok (mix but_flags t b)) (front_walked (span_step room) d s front rest field first))

  -- one field, and nothing behind it
  one_walked : (s : SpanData) (front : List ℕ) (field : Entry) → IsField d front field → walked s front ≡ span_step room s field front
  one_walked s front field first =
      ap (walked s) (sym (append-nil front)) ∙ front_walked (span_step room) d s front [] field first ∙ ends (span_step room s field front)
    where
      ends : (r : Result SpanData ReadFault) → (r >>= λ a. walked a []) ≡ r
      ends (Ok a) = turn_end (span_step room) d a [] refl
      ends (Err f) = refl

  -- the flags and then the others make what these make and then the flags
  flags_behind : (state : Result SpanData ReadFault) (front rest : List ℕ) (e : Entry) → IsField d front e → place_of e ≡ 16 → Others d rest
      → (state >>= λ s. walked s (front ++ rest)) ≡ ((state >>= λ s. walked s rest) >>= λ t. walked t front)
  flags_behind (Err f) front rest e first is behind = refl
  flags_behind (Ok s) front rest e first is behind =
      let set = flags_set e is in
      front_walked (span_step room) d s front rest e first ∙ ap (λ (r : Result SpanData ReadFault). r >>= λ a. walked a rest) (set.1 room s front)
      ∙ others_walked s set.0 rest behind
      ∙ bind_same (walked s rest) (λ t. Ok (mix but_flags t set.0)) (λ t. walked t front) (λ t. sym (one_walked t front e first ∙ set.1 room t front))

  -- nothing is left before the flags
  nothing_left : (state : Result SpanData ReadFault) (left flags : List ℕ) → left ≡ [] → ((state >>= λ s. walked s left) >>= λ s. walked s flags) ≡ (state >>= λ s. walked s flags)
  nothing_left (Err f) left flags none = refl
  nothing_left (Ok s) left flags none = ap (λ (r : Result SpanData ReadFault). r >>= λ t. walked t flags) (ap (walked s) none ∙ turn_end (span_step room) d s [] refl)

-- ---- between two fields of the loop

-- What was copied goes on as what is meant: the text, or the text without the flags that were passed over. These behind
-- it make what the text makes.
pub record Moved (room : ℕ) (text copy from left flags : List ℕ) (most : ℕ) (moves : Bool) : Type 0 where
  pub meant : List ℕ
  pub going : Going span_step no_span DefaultsAbove room meant [] copy from left most
  pub stay : length flags ≡ 0 → meant ≡ text
  pub apart : 0 < length flags → moves ≡ true
  pub link : 0 < length flags → Others (101 - room) left
      → walk (span_step (room - 1)) (101 - room) no_span text ≡ (walk (span_step (room - 1)) (101 - room) no_span meant >>= λ s. walk (span_step (room - 1)) (101 - room) s flags)

pub none_moved : (room : ℕ) (text flags : List ℕ) (moves : Bool) → length flags ≡ 0 → Moved room text [] text text flags 0 moves
none_moved room text flags moves none = record {
  meant = text;
  going = going_none span_step no_span holds_default DefaultsAbove span_laws room text [];
  stay = λ e. refl;
  apart = λ some. absurd (omega (arith, none, some));
  link = λ some behind. absurd (omega (arith, none, some));
}

-- another field went by
pub moved_on : (room : ℕ) (text copy longer from next left rest flags : List ℕ) (low high : ℕ) (moves : Bool) (e : Entry) → next_at (101 - room) left ≡ Ok (Some (e, rest)) → (place_of e == 16 && moves) ≡ false
    → (m : Moved room text copy from left flags low moves) → Going span_step no_span DefaultsAbove room m.meant [] longer next rest high → Moved room text longer next rest flags high moves
moved_on room text copy longer from next left rest flags low high moves e found is m g =
    let b = next_takes (101 - room) left e rest found in
    record {
      meant = m.meant;
      going = g;
      stay = m.stay;
      apart = m.apart;
      link = λ some behind. m.link some (subst (Others (101 - room)) (sym b.parts) (more_others b.first (not_flags (place_of e) moves is (m.apart some)) behind));
    }

-- the flags went by, and are kept for the end
pub flags_moved : (room : ℕ) (text copy longer from left rest flags held : List ℕ) (most : ℕ) (moves : Bool) (e : Entry) → next_at (101 - room) left ≡ Ok (Some (e, rest)) → (place_of e == 16 && moves) ≡ true → length flags ≡ 0
    → longer ≡ copy ++ before from left → held ≡ before left rest → Moved room text copy from left flags most moves → Moved room text longer rest rest held most moves
flags_moved room text copy longer from left rest flags held most moves e found moved none longer_is held_is m =
    let d = 101 - room in
    let step = span_step (room - 1) in
    let b = next_takes d left e rest found in
    let are = are_flags (place_of e) moves moved in
    let p = m.going.so_far in
    let run : before from left ≡ p.skipped = ap (λ (t : List ℕ). before t left) p.parts ∙ before_rest p.skipped left in
    let so : longer ≡ m.going.put ++ p.skipped = longer_is ∙ ap (λ (t : List ℕ). t ++ before from left) m.going.is ∙ ap (λ (t : List ℕ). m.going.put ++ t) run in
    let front : held ≡ b.front = held_is ∙ ap (λ (t : List ℕ). before t rest) b.parts ∙ before_rest b.front rest in
    let shorter : length rest < length left = next_shorter d left e rest found in
    let some : 0 < length held = omega (arith, shorter, ap (λ (t : List ℕ). length t) front, ap (λ (t : List ℕ). length t) b.parts, length-append b.front rest) in
    let whole : walk step d no_span (longer ++ rest) ≡ (p.state >>= λ s. walk step d s rest) = ap (λ (t : List ℕ). walk step d no_span (t ++ rest)) so ∙ p.copied rest in
    record {
      meant = longer ++ rest;
      going = record {
        within = omega arith;
        put = longer;
        is = refl;
        so_far = record {
          skipped = [];
          parts = refl;
          state = p.state;
          copied = λ others. ap (λ (t : List ℕ). walk step d no_span (t ++ others)) (append-nil longer ∙ so) ∙ p.copied others;
          whole = whole;
          defaults = p.defaults;
        };
      };
      stay = λ e. absurd (omega (arith, some, e));
      apart = λ lt. are.1;
      link = λ lt behind.
          ap (walk step d no_span) (sym (m.stay none)) ∙ p.whole ∙ ap (λ (t : List ℕ). p.state >>= λ s. walk step d s t) b.parts
          ∙ flags_behind (room - 1) d p.state b.front rest e b.first are.0 behind ∙ ap (λ (r : Result SpanData ReadFault). r >>= λ t. walk step d t b.front) (sym whole)
          ∙ ap (λ (f : List ℕ). walk step d no_span (longer ++ rest) >>= λ t. walk step d t f) (sym front);
    }

-- all fields went by
pub moved_read : (room : ℕ) (text copy from left flags : List ℕ) (most : ℕ) (moves : Bool) → 0 < room → left ≡ [] → Moved room text copy from left flags most moves
    → read_with span_step room no_span text ≡ read_with span_step room no_span (copy ++ (from ++ flags))
moved_read room text copy from left flags most moves some none m =
    by_test (nat_lt 0 (length flags))
    (λ held.
    let lt : 0 < length flags = grind (arith, nat_tests) in
    let d = 101 - room in
    let step = span_step (room - 1) in
    let p = m.going.so_far in
    let all : Others d left = subst (Others d) (sym none) no_others in
    let run : from ≡ p.skipped = p.parts ∙ ap (λ (t : List ℕ). p.skipped ++ t) none ∙ append-nil p.skipped in
    let text_is : (m.going.put ++ p.skipped) ++ flags ≡ copy ++ (from ++ flags) =
    append_assoc m.going.put p.skipped flags ∙ ap (λ (t : List ℕ). m.going.put ++ (t ++ flags)) (sym run) ∙ ap (λ (t : List ℕ). t ++ (from ++ flags)) (sym m.going.is) in
    opened span_step room no_span text some ∙ m.link lt all ∙ ap (λ (r : Result SpanData ReadFault). r >>= λ s. walk step d s flags) p.whole
    ∙ nothing_left (room - 1) d p.state left flags none ∙ sym (p.copied flags) ∙ ap (walk step d no_span) text_is ∙ sym (opened span_step room no_span (copy ++ (from ++ flags)) some)) λ stays.
    let short : length flags ≡ 0 = grind (arith, nat_tests) in
    let no_more : from ++ flags ≡ from = ap (λ (t : List ℕ). from ++ t) (nothing flags short) ∙ append-nil from in
    ap (read_with span_step room no_span) (sym (m.stay short)) ∙ going_same span_step no_span holds_default DefaultsAbove span_laws room m.meant [] copy from left most some m.going
    ∙ ap (read_with span_step room no_span) (ap (λ (t : List ℕ). t ++ from) (sym m.going.is) ∙ ap (λ (t : List ℕ). copy ++ t) (sym no_more))
