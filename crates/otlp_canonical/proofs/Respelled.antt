-- Fields and attributes that are put anew are read as the same.
use Rattle.std.proofs.Common.{◌≡◌, ℕ, zero, suc, Bool, true, false, is_some, ◌+◌, ◌-◌, ◌<◌, ◌≤◌, ◌^◌, List, [], ◌++◌, length, take, drop, Option, Some, None, unwrap_or, Result, Ok, Err, IfOk, refl, sym, ap, subst, ◌∙◌, append-nil, append_assoc, length-append, arith}
use Rattle.std.proofs.Math.Seq.{take-append_seam, drop-append_seam}
use Rattle.std.proofs.lemmas.Bool.{false≢true}
use Rattle.std.proofs.lemmas.Str.{IsUtf8-nil}
use Rattle.std.specs.Str.{IsUtf8}
use Rattle.pb_wire.specs.declared.field.WireType.TheVariants as types
use Rattle.pb_wire.specs.Grammar.{Entry, Varint, Eight, Four, IsField}
use Rattle.pb_wire.specs.Reading.{next_at}
use Rattle.pb_wire.specs.Text.{IsWritable, varint_text, tag_text, field_text}
use Rattle.pb_wire.proofs.Again.{next_takes}
use Rattle.pb_wire.proofs.Written.{field_written}
use Rattle.otlp_trace.specs.Data.{AnyValueData, array, kvlist, ArrayValueData, KeyValueListData, KeyValueData, bare_key, key_value, SpanData}
use Rattle.otlp_trace.specs.Text.{bytes_field, some_bytes}
use Rattle.otlp_trace.proofs.Spelled.{bytes_within}
use Rattle.otlp_read.specs.declared.fault.ReadFault.{ReadFault}
use Rattle.otlp_read.specs.AnyValue.{no_value, no_array, no_list, no_key_value, choose, keep_any, keep_key_value, with_value, with_key_value, with_key, any_step_in, array_step_in, list_step_in, key_value_step, read_any, read_array, read_list}
use Rattle.otlp_read.specs.Nested.{known_of_any, known_of_key_value}
use Rattle.otlp_read.specs.Value.{span_step, span_known, keep_span}
use Rattle.otlp_read.specs.Walk.{◌>>=◌, Step, before, walk, read_with}
use Rattle.otlp_read.proofs.Leaves.{utf8_yes}
use Rattle.otlp_read.proofs.Opened.{opened, attribute_read}
use Rattle.otlp_read.proofs.Taken.{Taken, Short, some_string_taken}
use Rattle.otlp_read.proofs.Walks.{before_rest, turn_end}
use Rattle.otlp_canonical.specs.Anew.{Spelled, gather, pair_of, GivesPlace, IsPair, IsPairIn, IsFirst}
use Rattle.otlp_canonical.specs.Inner.{DefaultLaws, ReadAlike, FieldAlike, PutFor}
use Rattle.otlp_canonical.proofs.Dropped.{Going, going_put, going_same, front_walked}
use Rattle.otlp_canonical.proofs.Gathered.{gathered_on, gather_unknown}
use Rattle.otlp_canonical.proofs.Inside.{holding, put_field, field_alike}
use Rattle.otlp_canonical.proofs.Others.{none_of}

-- ---- walks

pub ends : {A : Type 0} (step : Step A) (d : ℕ) (r : Result A ReadFault) → (r >>= λ b. walk step d b []) ≡ r
ends step d (Ok b) = turn_end step d b [] refl
ends step d (Err f) = refl

pub one_walked : {A : Type 0} (step : Step A) (d : ℕ) (a : A) (front : List ℕ) (field : Entry) → IsField d front field → walk step d a front ≡ step a field front
one_walked step d a front field first = ap (walk step d a) (sym (append-nil front)) ∙ front_walked step d a front [] field first ∙ ends step d (step a field front)

pub then_walked : {A : Type 0} (step : Step A) (d : ℕ) (r : Result A ReadFault) (front rest : List ℕ) (field : Entry) → IsField d front field
    → (r >>= λ a. walk step d a (front ++ rest)) ≡ ((r >>= λ a. step a field front) >>= λ b. walk step d b rest)
then_walked step d (Ok a) front rest field first = front_walked step d a front rest field first
then_walked step d (Err f) front rest field first = refl

-- ---- a field in another spelling

pub spelled_is : (d : ℕ) (left rest : List ℕ) (field : Entry) → next_at d left ≡ Ok (Some (field, rest)) → IsField d (before left rest) field
spelled_is d left rest field found =
    let b = next_takes d left field rest found in
    let run : before left rest ≡ b.front = ap (λ (t : List ℕ). before t rest) b.parts ∙ before_rest b.front rest in
    subst (λ (t : List ℕ). IsField d t field) (sym run) b.first

pub next_before : (d : ℕ) (left rest : List ℕ) (field : Entry) → next_at d left ≡ Ok (Some (field, rest)) → left ≡ before left rest ++ rest
next_before d left rest field found =
    let b = next_takes d left field rest found in
    let run : before left rest ≡ b.front = ap (λ (t : List ℕ). before t rest) b.parts ∙ before_rest b.front rest in
    b.parts ∙ ap (λ (t : List ℕ). t ++ rest) (sym run)

-- as short as it can be
in_two : (old tag value tagged new : List ℕ) → tagged ≡ old ++ tag → new ≡ tagged ++ value → new ≡ old ++ (tag ++ value)
in_two old tag value tagged new first behind = behind ∙ ap (λ (t : List ℕ). t ++ value) first ∙ append_assoc old tag value

pub short_spelled : (field : Entry) (old new : List ℕ) → 0 < field.number → field.number ≤ 16 → ((d : ℕ) → IsWritable d field.value) → new ≡ old ++ field_text field → Spelled field old new
short_spelled field old new some low fits is = record { put = field_text field; copied = is; first = λ d. field_written d field some (omega (arith, low)) (fits d) }

pub varint_spelled : (n x : ℕ) (old tagged new : List ℕ) → 0 < n → n ≤ 16 → x < 2 ^ 64 → tagged ≡ old ++ tag_text n types.Varint → new ≡ tagged ++ varint_text x → Spelled (record { number = n; value = Varint x }) old new
varint_spelled n x old tagged new some low fits tag value = short_spelled (record { number = n; value = Varint x }) old new some low (λ d. fits) (in_two old (tag_text n types.Varint) (varint_text x) tagged new tag value)

pub eight_spelled : (n : ℕ) (bs old tagged new : List ℕ) → 0 < n → n ≤ 16 → length bs ≡ 8 → tagged ≡ old ++ tag_text n types.Eight → new ≡ tagged ++ bs → Spelled (record { number = n; value = Eight bs }) old new
eight_spelled n bs old tagged new some low fits tag value = short_spelled (record { number = n; value = Eight bs }) old new some low (λ d. fits) (in_two old (tag_text n types.Eight) bs tagged new tag value)

pub four_spelled : (n : ℕ) (bs old tagged new : List ℕ) → 0 < n → n ≤ 16 → length bs ≡ 4 → tagged ≡ old ++ tag_text n types.Four → new ≡ tagged ++ bs → Spelled (record { number = n; value = Four bs }) old new
four_spelled n bs old tagged new some low fits tag value = short_spelled (record { number = n; value = Four bs }) old new some low (λ d. fits) (in_two old (tag_text n types.Four) bs tagged new tag value)

pub bytes_spelled : (n : ℕ) (bs old new : List ℕ) → 0 < n → n ≤ 16 → length new < 2 ^ 64 → new ≡ old ++ bytes_field n bs → Spelled (holding n bs) old new
bytes_spelled n bs old new some low fits is =
    let short : length bs < 2 ^ 64 = omega (arith, ap (λ (t : List ℕ). length t) is, length-append old (bytes_field n bs), bytes_within n bs, fits) in
    short_spelled (holding n bs) old new some low (λ d. short) is

some_same : {B : Type 0} (o : Option B) (x y : B) → is_some o ≡ true → unwrap_or o x ≡ unwrap_or o y
some_same None x y is = absurd (false≢true is)
some_same (Some r) x y is = refl

pub spelled_put : {A : Type 0} (step : ℕ → Step A) (Above : ℕ → A → Type 0) (inner d most : ℕ) (field : Entry) (old new : List ℕ) → ((a : A) (spelled other : List ℕ) → step inner a field spelled ≡ step inner a field other) → Spelled field old new
    → PutFor step Above inner d most field old new
spelled_put {A} step Above inner d most field old new same s = record {
  put = s.put;
  copied = s.copied;
  alike = λ a spelled rest c. front_walked (step inner) d a s.put rest field (s.first d) ∙ ap (λ (r : Result A ReadFault). r >>= λ b. walk (step inner) d b rest) (same a s.put spelled);
}

pub any_spelled : (inner : ℕ) (field : Entry) → ((room : ℕ) (a : AnyValueData) → is_some (known_of_any room a field.number field.value) ≡ true) → (a : AnyValueData) (spelled other : List ℕ) → any_step_in inner a field spelled ≡ any_step_in inner a field other
any_spelled inner field known a spelled other = some_same (known_of_any inner a field.number field.value) (Ok (keep_any a spelled)) (Ok (keep_any a other)) (known inner a)

pub span_spelled : (inner : ℕ) (field : Entry) → ((room : ℕ) (a : SpanData) → is_some (span_known room a field.number field.value) ≡ true) → (a : SpanData) (spelled other : List ℕ) → span_step inner a field spelled ≡ span_step inner a field other
span_spelled inner field known a spelled other = some_same (span_known inner a field.number field.value) (Ok (keep_span a spelled)) (Ok (keep_span a other)) (known inner a)

-- ---- a message behind its tag and length

pub wrapped : {A : Type 0} (step : ℕ → Step A) (none : A) (room number start : ℕ) (text old mid new : List ℕ) → start ≡ length old → length mid < 2 ^ 64 → new ≡ take start mid ++ bytes_field number (drop start mid) → ReadAlike step none room text old mid
    → FieldAlike step none room number text old new
wrapped step none room number start text old mid new at fits is a =
    let all : length mid ≡ length old + length a.put = ap (λ (t : List ℕ). length t) a.copied ∙ length-append old a.put in
    let front : take start mid ≡ old = ap (take start) a.copied ∙ ap (λ (n : ℕ). take n (old ++ a.put)) at ∙ take-append_seam old a.put in
    let inside : drop start mid ≡ a.put = ap (drop start) a.copied ∙ ap (λ (n : ℕ). drop n (old ++ a.put)) at ∙ drop-append_seam old a.put in
    record {
      put = a.put;
      copied = is ∙ ap (λ (t : List ℕ). t ++ bytes_field number (drop start mid)) front ∙ ap (λ (t : List ℕ). old ++ bytes_field number t) inside;
      short = omega (arith, all, fits);
      same = a.same;
    }

any_read : (room : ℕ) (v : AnyValueData) (bs : List ℕ) → read_with any_step_in room v bs ≡ read_any room v bs
unfolding read_with read_any
any_read zero v bs = refl
any_read (suc room) v bs = refl

array_read : (room : ℕ) (a : ArrayValueData) (bs : List ℕ) → read_with array_step_in room a bs ≡ read_array room a bs
unfolding read_with read_any
array_read zero a bs = refl
array_read (suc room) a bs = refl

list_read : (room : ℕ) (l : KeyValueListData) (bs : List ℕ) → read_with list_step_in room l bs ≡ read_list room l bs
unfolding read_with read_any
list_read zero l bs = refl
list_read (suc room) l bs = refl

-- ---- a value

pub array_put : (inner d : ℕ) (bs old new : List ℕ) → FieldAlike array_step_in no_array inner 5 bs old new → PutFor any_step_in IsFirst inner d 0 (holding 5 bs) old new
array_put inner d bs old new f =
    put_field any_step_in IsFirst inner d 0 5 bs f.put old new (omega arith) (omega arith) f.short f.copied
    (λ v spelled other first.
    let same : read_array inner no_array f.put ≡ read_array inner no_array bs = sym (array_read inner no_array f.put) ∙ sym f.same ∙ array_read inner no_array bs in
    rw first (ap (λ (r : Result ArrayValueData ReadFault). r >>= λ a. Ok (choose (array a) no_value)) same))

pub list_put : (inner d : ℕ) (bs old new : List ℕ) → FieldAlike list_step_in no_list inner 6 bs old new → PutFor any_step_in IsFirst inner d 0 (holding 6 bs) old new
list_put inner d bs old new f =
    put_field any_step_in IsFirst inner d 0 6 bs f.put old new (omega arith) (omega arith) f.short f.copied
    (λ v spelled other first.
    let same : read_list inner no_list f.put ≡ read_list inner no_list bs = sym (list_read inner no_list f.put) ∙ sym f.same ∙ list_read inner no_list bs in
    rw first (ap (λ (r : Result KeyValueListData ReadFault). r >>= λ l. Ok (choose (kvlist l) no_value)) same))

-- ---- arrays and lists, in which no field has a default

abbrev pub Always : {A : Type 0} → ℕ → A → Type 0
Always most a = Unit {0}

always : {A : Type 0} (r : Result A ReadFault) (most : ℕ) → IfOk r (Always most)
always (Ok a) most = tt
always (Err f) most = tt

no_defaults : {A : Type 0} (step : ℕ → Step A) (none : A) → DefaultLaws step none (λ e. false) Always
no_defaults step none = record {
  first = tt;
  fewer = λ low high a le c. tt;
  leaves = λ room most a field spelled le c. always (step room a field spelled) most;
  same = λ room most a field spelled is lt c. absurd (false≢true is);
}

before_all : (xs : List ℕ) → before xs xs ≡ []
before_all xs = let none : length xs - length xs ≡ 0 = omega arith in rw none refl

-- what was put for the fields that went by
abbrev pub Putting : {A : Type 0} → (ℕ → Step A) → A → ℕ → List ℕ → List ℕ → List ℕ → List ℕ → Type 0
Putting step none room text old copy left = Going step none Always room text old copy left left 1

pub none_put : {A : Type 0} (step : ℕ → Step A) (none : A) (room : ℕ) (text old : List ℕ) → Putting step none room text old old text
none_put step none room text old = record {
  within = omega arith;
  put = [];
  is = sym (append-nil old);
  so_far = record { skipped = []; parts = refl; state = Ok none; copied = λ rest. refl; whole = refl; defaults = tt };
}

pub one_put : {A : Type 0} (step : ℕ → Step A) (none : A) (room : ℕ) (text old copy longer left rest bs : List ℕ) → next_at (101 - room) left ≡ Ok (Some (holding 1 bs, rest)) → PutFor step Always (room - 1) (101 - room) 1 (holding 1 bs) copy longer
    → Putting step none room text old copy left → Putting step none room text old longer rest
one_put step none room text old copy longer left rest bs found p g =
    let run : copy ≡ copy ++ before left left = sym (ap (λ (t : List ℕ). copy ++ t) (before_all left) ∙ append-nil copy) in
    going_put step none (λ e. false) Always (no_defaults step none) room text old copy copy longer left left rest 1 1 (holding 1 bs) p.put run p.copied p.alike (omega arith) (omega arith) found g

pub all_put : {A : Type 0} (step : ℕ → Step A) (none : A) (room : ℕ) (text old copy left : List ℕ) → 0 < room → left ≡ [] → Putting step none room text old copy left → ReadAlike step none room text old copy
all_put step none room text old copy left some ends g = record {
  put = g.put;
  copied = g.is;
  same = going_same step none (λ e. false) Always (no_defaults step none) room text old copy left left 1 some g ∙ ap (read_with step room none) (ap (λ (t : List ℕ). g.put ++ t) ends ∙ append-nil g.put);
}

pub value_put : (inner d : ℕ) (bs old new : List ℕ) → FieldAlike any_step_in no_value inner 1 bs old new → PutFor array_step_in Always inner d 1 (holding 1 bs) old new
value_put inner d bs old new f =
    put_field array_step_in Always inner d 1 1 bs f.put old new (omega arith) (omega arith) f.short f.copied
    (λ a spelled other c. ap (λ (r : Result AnyValueData ReadFault). r >>= λ v. Ok (with_value a v)) (sym (any_read inner no_value f.put) ∙ sym f.same ∙ any_read inner no_value bs))

pub pair_put : (inner d : ℕ) (bs old new : List ℕ) → FieldAlike key_value_step no_key_value inner 1 bs old new → PutFor list_step_in Always inner d 1 (holding 1 bs) old new
pair_put inner d bs old new f =
    put_field list_step_in Always inner d 1 1 bs f.put old new (omega arith) (omega arith) f.short f.copied
    (λ l spelled other c. ap (λ (r : Result KeyValueData ReadFault). r >>= λ p. Ok (with_key_value l p)) (sym (attribute_read inner no_key_value f.put) ∙ sym f.same ∙ attribute_read inner no_key_value bs))

-- ---- a key with its value: the fields that went by

-- what is kept is read as it was, whatever stands before it
abbrev pub Again : ℕ → List ℕ → Type 0
Again d kept = (room : ℕ) (p : KeyValueData) (rest : List ℕ) → walk (key_value_step room) d p (kept ++ rest) ≡ walk (key_value_step room) d (keep_key_value p kept) rest

pub record Pairing (d : ℕ) (text left key value : List ℕ) (has : Bool) (size : ℕ) : Type 0 where
  pub gone : List ℕ
  pub parts : text ≡ gone ++ left
  pub valid : IsUtf8 key
  pub kept : List ℕ
  pub none : size ≡ 0 → kept ≡ []
  pub gathered : (rest : List ℕ) → walk (gather known_of_key_value no_key_value) d [] (gone ++ rest) ≡ walk (gather known_of_key_value no_key_value) d kept rest
  pub again : Again d kept
  pub so_far : (room : ℕ) (rest : List ℕ) → walk (key_value_step room) d no_key_value (gone ++ rest) ≡ (pair_of room key value has kept >>= λ p. walk (key_value_step room) d p rest)

pub keep_none : (p : KeyValueData) → keep_key_value p [] ≡ p
keep_none (bare_key key unknown) = ap (λ (u : List ℕ). bare_key key u) (append-nil unknown)
keep_none (key_value key v unknown) = ap (λ (u : List ℕ). key_value key v u) (append-nil unknown)

keep_both : (p : KeyValueData) (kept more : List ℕ) → keep_key_value (keep_key_value p kept) more ≡ keep_key_value p (kept ++ more)
keep_both (bare_key key unknown) kept more = ap (λ (u : List ℕ). bare_key key u) (append_assoc unknown kept more)
keep_both (key_value key v unknown) kept more = ap (λ (u : List ℕ). key_value key v u) (append_assoc unknown kept more)

pub none_paired : (d : ℕ) (text value : List ℕ) → Pairing d text text [] value false 0
none_paired d text value = record {
  gone = [];
  parts = refl;
  valid = IsUtf8-nil;
  kept = [];
  none = λ e. refl;
  gathered = λ rest. refl;
  again = λ room p rest. ap (λ (q : KeyValueData). walk (key_value_step room) d q rest) (sym (keep_none p));
  so_far = λ room rest. refl;
}

one_paired : (d : ℕ) (text left rest key value later other more : List ℕ) (has now : Bool) (size larger : ℕ) (field : Entry) → next_at d left ≡ Ok (Some (field, rest)) → IsUtf8 later → (larger ≡ 0 → more ≡ []) → Again d more
    → (p : Pairing d text left key value has size) → gather known_of_key_value no_key_value p.kept field (before left rest) ≡ Ok more
    → ((room : ℕ) → (pair_of room key value has p.kept >>= λ q. key_value_step room q field (before left rest)) ≡ pair_of room later other now more)
    → Pairing d text rest later other now larger
one_paired d text left rest key value later other more has now size larger field found valid none again p gathers same =
    let front = before left rest in
    let first : IsField d front field = spelled_is d left rest field found in
    let is : left ≡ front ++ rest = next_before d left rest field found in
    record {
      gone = p.gone ++ front;
      parts = p.parts ∙ ap (λ (t : List ℕ). p.gone ++ t) is ∙ sym (append_assoc p.gone front rest);
      valid = valid;
      kept = more;
      none = none;
      gathered = gathered_on known_of_key_value no_key_value d p.gone front p.kept more field first gathers p.gathered;
      again = again;
      so_far = λ room behind.
          ap (walk (key_value_step room) d no_key_value) (append_assoc p.gone front behind) ∙ p.so_far room (front ++ behind)
          ∙ then_walked (key_value_step room) d (pair_of room key value has p.kept) front behind field first
          ∙ ap (λ (r : Result KeyValueData ReadFault). r >>= λ q. walk (key_value_step room) d q behind) (same room);
    }

keyed_in : (room : ℕ) (key later kept spelled : List ℕ) (r : Result AnyValueData ReadFault) → IsUtf8 later → ((r >>= λ v. Ok (key_value key v kept)) >>= λ p. key_value_step room p (holding 1 later) spelled) ≡ (r >>= λ v. Ok (key_value later v kept))
keyed_in room key later kept spelled (Ok v) valid = ap (λ (r : Result (List ℕ) ReadFault). r >>= λ text. Ok (with_key text (key_value key v kept))) (utf8_yes later valid)
keyed_in room key later kept spelled (Err f) valid = refl

pub keyed : (key value later kept : List ℕ) (has : Bool) → IsUtf8 later → (room : ℕ) (spelled : List ℕ) → (pair_of room key value has kept >>= λ p. key_value_step room p (holding 1 later) spelled) ≡ pair_of room later value has kept
keyed key value later kept true valid room spelled = keyed_in room key later kept spelled (read_any room no_value value) valid
keyed key value later kept false valid room spelled = ap (λ (r : Result (List ℕ) ReadFault). r >>= λ text. Ok (with_key text (bare_key key kept))) (utf8_yes later valid)

pub key_paired : (d : ℕ) (text left rest key value later : List ℕ) (has : Bool) (size : ℕ) → next_at d left ≡ Ok (Some (holding 1 later, rest)) → IsUtf8 later → Pairing d text left key value has size → Pairing d text rest later value has size
key_paired d text left rest key value later has size found valid p =
    one_paired d text left rest key value later value p.kept has has size size (holding 1 later) found valid p.none p.again p refl (λ room. keyed key value later p.kept has valid room (before left rest))

pub value_paired : (d : ℕ) (text left rest key value later : List ℕ) (size : ℕ) → next_at d left ≡ Ok (Some (holding 2 later, rest)) → Pairing d text left key value false size → Pairing d text rest key later true size
value_paired d text left rest key value later size found p = one_paired d text left rest key value key later p.kept false true size size (holding 2 later) found p.valid p.none p.again p refl (λ room. refl)

pub value_behind : (room : ℕ) (key later kept spelled : List ℕ) (r : Result AnyValueData ReadFault)
    → ((r >>= λ v. Ok (key_value key v kept)) >>= λ p. key_value_step room p (holding 2 later) spelled) ≡ ((r >>= λ v. read_any room v later) >>= λ v. Ok (key_value key v kept))
value_behind room key later kept spelled (Ok v) = refl
value_behind room key later kept spelled (Err f) = refl

-- one value in the place of another
pub place_paired : (d : ℕ) (text left rest key value later : List ℕ) (size : ℕ) → next_at d left ≡ Ok (Some (holding 2 later, rest)) → GivesPlace value later → Pairing d text left key value true size → Pairing d text rest key later true size
place_paired d text left rest key value later size found given p =
    one_paired d text left rest key value key later p.kept true true size size (holding 2 later) found p.valid p.none p.again p refl
    (λ room. value_behind room key later p.kept (before left rest) (read_any room no_value value) ∙ ap (λ (r : Result AnyValueData ReadFault). r >>= λ v. Ok (key_value key v p.kept)) (given.same room))

-- a field that an attribute doesn't know
abbrev pub Unkeyed : Entry → Type 0
Unkeyed field = (room : ℕ) (p : KeyValueData) → is_some (known_of_key_value room p field.number field.value) ≡ false

keeps : (room : ℕ) (p : KeyValueData) (field : Entry) (spelled : List ℕ) → Unkeyed field → key_value_step room p field spelled ≡ Ok (keep_key_value p spelled)
keeps room p field spelled unknown = ap (λ (o : Option (Result KeyValueData ReadFault)). unwrap_or o (Ok (keep_key_value p spelled))) (none_of (known_of_key_value room p field.number field.value) (unknown room p))

kept_in : (room : ℕ) (key kept spelled : List ℕ) (field : Entry) (r : Result AnyValueData ReadFault) → Unkeyed field → ((r >>= λ v. Ok (key_value key v kept)) >>= λ p. key_value_step room p field spelled) ≡ (r >>= λ v. Ok (key_value key v (kept ++ spelled)))
kept_in room key kept spelled field (Ok v) unknown = keeps room (key_value key v kept) field spelled unknown
kept_in room key kept spelled field (Err f) unknown = refl

pub kept_on : (key value kept spelled : List ℕ) (has : Bool) (field : Entry) → Unkeyed field → (room : ℕ) → (pair_of room key value has kept >>= λ p. key_value_step room p field spelled) ≡ pair_of room key value has (kept ++ spelled)
kept_on key value kept spelled true field unknown room = kept_in room key kept spelled field (read_any room no_value value) unknown
kept_on key value kept spelled false field unknown room = keeps room (bare_key key kept) field spelled unknown

pub again_on : (d : ℕ) (kept front : List ℕ) (field : Entry) → IsField d front field → Unkeyed field → Again d kept → Again d (kept ++ front)
again_on d kept front field first unknown again room p rest =
    let step = key_value_step room in
    ap (walk step d p) (append_assoc kept front rest) ∙ again room p (front ++ rest) ∙ front_walked step d (keep_key_value p kept) front rest field first
    ∙ ap (λ (r : Result KeyValueData ReadFault). r >>= λ q. walk step d q rest) (keeps room (keep_key_value p kept) field front unknown) ∙ ap (λ (q : KeyValueData). walk step d q rest) (keep_both p kept front)

pub unknown_paired : (d : ℕ) (text left rest key value : List ℕ) (has : Bool) (size larger : ℕ) (field : Entry) → next_at d left ≡ Ok (Some (field, rest)) → Unkeyed field → 0 < larger → Pairing d text left key value has size
    → Pairing d text rest key value has larger
unknown_paired d text left rest key value has size larger field found unknown some p =
    one_paired d text left rest key value key value (p.kept ++ before left rest) has has size larger field found p.valid (λ e. absurd (omega (arith, e, some))) (again_on d p.kept (before left rest) field (spelled_is d left rest field found) unknown p.again) p
    (gather_unknown known_of_key_value no_key_value p.kept (before left rest) field (unknown 0 no_key_value)) (kept_on key value p.kept (before left rest) has field unknown)

pub all_paired : (d : ℕ) (text left key value : List ℕ) (has : Bool) (size : ℕ) → left ≡ [] → Pairing d text left key value has size → IsPair d text key value has size
all_paired d text left key value has size none p =
    let gone : text ≡ p.gone ++ [] = p.parts ∙ ap (λ (t : List ℕ). p.gone ++ t) none in
    record {
      valid = p.valid;
      kept = p.kept;
      none = p.none;
      gathered = ap (walk (gather known_of_key_value no_key_value) d []) gone ∙ p.gathered [] ∙ turn_end (gather known_of_key_value no_key_value) d p.kept [] refl;
      again = p.again;
      read = λ room. ap (walk (key_value_step room) d no_key_value) gone ∙ p.so_far room [] ∙ ends (key_value_step room) d (pair_of room key value has p.kept);
    }

abbrev pub pair_at : (room d : ℕ) (text key value : List ℕ) (has : Bool) (size : ℕ) → IsPair d text key value has size → IsPairIn room d text key value has size
pair_at room d text key value has size p = record { valid = p.valid; kept = p.kept; none = p.none; gathered = p.gathered; again = p.again; read = p.read room }

-- ---- a key with its value is put

key_taken : (room d : ℕ) (key : List ℕ) → IsUtf8 key → Taken (key_value_step room) d no_key_value (some_bytes 1 key) (bare_key key [])
key_taken room d key valid = some_string_taken (key_value_step room) d 1 refl (λ k. bare_key k []) key valid refl

short_behind : (old put all : List ℕ) → all ≡ old ++ put → length all < 2 ^ 64 → Short put
short_behind old put all is fits = omega (arith, ap (λ (t : List ℕ). length t) is, length-append old put, fits)

kept_walked : (inner d : ℕ) (kept : List ℕ) (q : KeyValueData) → Again d kept → walk (key_value_step inner) d q kept ≡ Ok (keep_key_value q kept)
kept_walked inner d kept q again = ap (walk (key_value_step inner) d q) (sym (append-nil kept)) ∙ again inner q [] ∙ turn_end (key_value_step inner) d (keep_key_value q kept) [] refl

kept_behind : (inner d : ℕ) (key kept : List ℕ) (r : Result AnyValueData ReadFault) → Again d kept → ((r >>= λ v. Ok (key_value key v [])) >>= λ q. walk (key_value_step inner) d q kept) ≡ (r >>= λ v. Ok (key_value key v kept))
kept_behind inner d key kept (Ok v) again = kept_walked inner d kept (key_value key v []) again
kept_behind inner d key kept (Err f) again = refl

pub key_alike : (room size : ℕ) (text key value old keyed new : List ℕ) → 0 < room → (p : IsPairIn (room - 1) (101 - room) text key value false size) → length keyed < 2 ^ 64 → keyed ≡ old ++ some_bytes 1 key → new ≡ keyed ++ p.kept
    → ReadAlike key_value_step no_key_value room text old new
key_alike room size text key value old keyed new some p fits is behind =
    let inner = room - 1 in
    let d = 101 - room in
    let step = key_value_step inner in
    let read : walk step d no_key_value (some_bytes 1 key ++ p.kept) ≡ Ok (bare_key key p.kept) =
    (key_taken inner d key p.valid).taken (short_behind old (some_bytes 1 key) keyed is fits) p.kept ∙ kept_walked inner d p.kept (bare_key key []) p.again in
    record {
      put = some_bytes 1 key ++ p.kept;
      copied = behind ∙ ap (λ (t : List ℕ). t ++ p.kept) is ∙ append_assoc old (some_bytes 1 key) p.kept;
      same = opened key_value_step room no_key_value text some ∙ p.read ∙ sym read ∙ sym (opened key_value_step room no_key_value (some_bytes 1 key ++ p.kept) some);
    }

pub pair_alike : (room size : ℕ) (text key value old keyed valued new : List ℕ) → 0 < room → (p : IsPairIn (room - 1) (101 - room) text key value true size) → length keyed < 2 ^ 64 → keyed ≡ old ++ some_bytes 1 key
    → FieldAlike any_step_in no_value (room - 1) 2 value keyed valued → new ≡ valued ++ p.kept → ReadAlike key_value_step no_key_value room text old new
pair_alike room size text key value old keyed valued new some p fits is f behind =
    let inner = room - 1 in
    let d = 101 - room in
    let step = key_value_step inner in
    let field = bytes_field 2 f.put in
    let first : IsField d field (holding 2 f.put) = field_written d (holding 2 f.put) (omega arith) (omega arith) f.short in
    let same : read_any inner no_value f.put ≡ read_any inner no_value value = sym (any_read inner no_value f.put) ∙ sym f.same ∙ any_read inner no_value value in
    let read : walk step d no_key_value (some_bytes 1 key ++ (field ++ p.kept)) ≡ pair_of inner key value true p.kept =
    (key_taken inner d key p.valid).taken (short_behind old (some_bytes 1 key) keyed is fits) (field ++ p.kept) ∙ front_walked step d (bare_key key []) field p.kept (holding 2 f.put) first
    ∙ kept_behind inner d key p.kept (read_any inner no_value f.put) p.again ∙ ap (λ (r : Result AnyValueData ReadFault). r >>= λ v. Ok (key_value key v p.kept)) same in
    record {
      put = some_bytes 1 key ++ (field ++ p.kept);
      copied =
          behind ∙ ap (λ (t : List ℕ). t ++ p.kept) (f.copied ∙ ap (λ (t : List ℕ). t ++ field) is) ∙ append_assoc (old ++ some_bytes 1 key) field p.kept
          ∙ append_assoc old (some_bytes 1 key) (field ++ p.kept);
      same = opened key_value_step room no_key_value text some ∙ p.read ∙ sym read ∙ sym (opened key_value_step room no_key_value (some_bytes 1 key ++ (field ++ p.kept)) some);
    }

-- the same behind a tag and a length, where the value stands behind them too
pub plain_alike : (room size inner unknown : ℕ) (text key value old tagged sized keyed behind inside valued new : List ℕ) → 0 < room → (p : IsPair (101 - room) text key value true unknown) → ReadAlike any_step_in no_value (room - 1) value inside valued
    → tagged ≡ old ++ tag_text 9 types.Bytes → sized ≡ tagged ++ varint_text size → keyed ≡ sized ++ some_bytes 1 key → behind ≡ keyed ++ tag_text 2 types.Bytes → inside ≡ behind ++ varint_text inner → length valued - length inside ≡ inner
    → new ≡ valued ++ p.kept → length new - length sized ≡ size → length keyed < 2 ^ 64 → length valued < 2 ^ 64 → length new < 2 ^ 64 → FieldAlike key_value_step no_key_value room 9 text old new
plain_alike room size inner unknown text key value old tagged sized keyed behind inside valued new some pair read tag length_ key_is value_tag value_length value_at kept at keyed_fits valued_fits fits =
    let held : FieldAlike any_step_in no_value (room - 1) 2 value keyed valued = field_alike any_step_in no_value (room - 1) 2 inner value keyed behind inside valued value_tag value_length value_at (omega (arith, value_at, valued_fits)) read in
    field_alike key_value_step no_key_value room 9 size text old tagged sized new tag length_ at (omega (arith, at, fits)) (pair_alike room unknown text key value sized keyed valued new some (pair_at (room - 1) (101 - room) text key value true unknown pair) keyed_fits key_is held kept)
