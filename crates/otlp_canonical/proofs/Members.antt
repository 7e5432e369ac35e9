-- A value's fields go by: which of its members counts, and what it doesn't know.
use Rattle.std.proofs.Common.{◌≡◌, ℕ, zero, suc, Bool, true, false, not, is_some, ◌==◌, ◌&&◌, ◌||◌, if◌then◌else◌, ◌-◌, ◌<◌, ◌^◌, length, List, [], ◌++◌, Option, Some, None, unwrap_or, IfSome, Result, Ok, Err, refl, sym, ap, subst, ◌∙◌, append_assoc, append-nil, arith}
use Rattle.std.proofs.lemmas.Bool.{false≢true}
use Rattle.std.proofs.lemmas.Bool.Decides.{nat_tests}
use Rattle.std.specs.Str.{IsUtf8}
use Rattle.pb_wire.specs.Grammar.{Entry, Datum, Varint, Eight, Bytes, Four, Group, IsField, varint_field, eight_field, bytes_field, four_field, group_field}
use Rattle.pb_wire.specs.Reading.{next_at}
use Rattle.otlp_trace.specs.Data.{AnyValueData, any_value, KindData, unset, string, boolean, int, double, array, kvlist, bytes, ArrayValueData, KeyValueListData}
use Rattle.otlp_read.specs.declared.fault.ReadFault.{ReadFault}
use Rattle.otlp_trace.specs.Text.{any_text}
use Rattle.otlp_read.specs.AnyValue.{no_value, no_array, no_list, array_in, list_in, keep_any, any_step_in, read_any, read_array, read_list}
use Rattle.otlp_read.specs.Nested.{NestedAny, known_of_any}
use Rattle.otlp_read.specs.Numbers.{utf8, int64, bool}
use Rattle.otlp_read.specs.Walk.{◌>>=◌, before, walk}
use Rattle.otlp_read.proofs.Leaves.{utf8_yes}
use Rattle.otlp_read.proofs.Opened.{opened, opened_any}
use Rattle.otlp_read.proofs.Taken.{Short}
use Rattle.otlp_read.proofs.ValueBack.{any_back}
use Rattle.otlp_read.proofs.Walks.{bind_same, turn_end}
use Rattle.otlp_canonical.specs.Anew.{gather, member_of, merges, number_of, GivesPlace, GivesWay, IsMember, IsPutFor, IsValue, IsFirst, LeavesNothing}
use Rattle.otlp_canonical.specs.Inner.{ReadAlike, PutFor}
use Rattle.otlp_canonical.specs.Parts.{Whole}
use Rattle.otlp_canonical.specs.Sound.{SoundAny}
use Rattle.otlp_canonical.proofs.Dropped.{front_walked}
use Rattle.otlp_canonical.proofs.Gathered.{gathered_on, gather_known, gather_unknown}
use Rattle.otlp_canonical.proofs.Inside.{holding}
use Rattle.otlp_canonical.proofs.Others.{none_of}
use Rattle.otlp_canonical.proofs.Respelled.{any_spelled, ends, next_before, one_walked, spelled_is, then_walked}

-- ---- a member that gives way to any that follows

-- What two readings of a field give that a value knows, the one behind a member, the other by itself: the first is the
-- second with what was kept before.
record Follows (kept : List ℕ) (o p : Option (Result AnyValueData ReadFault)) : Type 0 where
  follows : (j k : Result AnyValueData ReadFault) → is_some p ≡ true → unwrap_or o j ≡ (unwrap_or p k >>= λ v. Ok (keep_any v kept))

-- a field that no value knows
none_follows : (kept : List ℕ) → Follows kept None None
none_follows kept = record { follows = λ j k is. absurd (false≢true is) }

-- one of which a value is made, behind others as by itself
some_follows : (kept : List ℕ) (r s : Result AnyValueData ReadFault) → r ≡ (s >>= λ v. Ok (keep_any v kept)) → Follows kept (Some r) (Some s)
some_follows kept r s same = record { follows = λ j k is. same }

-- a test of the number first
if_follows : (kept : List ℕ) (b : Bool) (o p others those : Option (Result AnyValueData ReadFault)) → (b ≡ true → Follows kept o p) → Follows kept others those → Follows kept (if b then o else others) (if b then p else those)
if_follows kept true o p others those first behind = first refl
if_follows kept false o p others those first behind = behind

-- a kind that is read, with what was kept
made_follows : {A : Type 0} (kept : List ℕ) (kind : A → KindData) (r : Result A ReadFault) → (r >>= λ x. Ok (any_value (kind x) kept)) ≡ ((r >>= λ x. Ok (any_value (kind x) [])) >>= λ v. Ok (keep_any v kept))
made_follows kept kind (Ok x) = refl
made_follows kept kind (Err f) = refl

-- a member behind one of another kind, which has left nothing to it, is read as it is by itself
known_follows : (room : ℕ) (kind : KindData) (kept : List ℕ) (n : ℕ) (value : Datum) → ((n == 5) ≡ true → array_in kind ≡ no_array) → ((n == 6) ≡ true → list_in kind ≡ no_list) → Follows kept (known_of_any room (any_value kind kept) n value) (known_of_any room no_value n value)
known_follows room kind kept n (Varint x) no_arrays no_lists =
    if_follows kept (n == 2) (Some (Ok (any_value (boolean (bool x)) kept))) (Some (Ok (any_value (boolean (bool x)) []))) (if n == 3 then Some (Ok (any_value (int (int64 x)) kept)) else None) (if n == 3 then Some (Ok (any_value (int (int64 x)) [])) else None)
    (λ e. some_follows kept (Ok (any_value (boolean (bool x)) kept)) (Ok (any_value (boolean (bool x)) [])) refl)
    (if_follows kept (n == 3) (Some (Ok (any_value (int (int64 x)) kept))) (Some (Ok (any_value (int (int64 x)) []))) None None (λ e. some_follows kept (Ok (any_value (int (int64 x)) kept)) (Ok (any_value (int (int64 x)) [])) refl) (none_follows kept))
known_follows room kind kept n (Eight bs) no_arrays no_lists =
    if_follows kept (n == 4) (Some (Ok (any_value (double bs) kept))) (Some (Ok (any_value (double bs) []))) None None (λ e. some_follows kept (Ok (any_value (double bs) kept)) (Ok (any_value (double bs) [])) refl) (none_follows kept)
known_follows room kind kept n (Bytes bs) no_arrays no_lists =
    let text : List ℕ → Result AnyValueData ReadFault = λ u. utf8 bs >>= λ t. Ok (any_value (string t) u) in
    let arrays : ArrayValueData → List ℕ → Result AnyValueData ReadFault = λ a u. read_array room a bs >>= λ b. Ok (any_value (array b) u) in
    let lists : KeyValueListData → List ℕ → Result AnyValueData ReadFault = λ l u. read_list room l bs >>= λ m. Ok (any_value (kvlist m) u) in
    let seven : Follows kept (if n == 7 then Some (Ok (any_value (bytes bs) kept)) else None) (if n == 7 then Some (Ok (any_value (bytes bs) [])) else None) =
    if_follows kept (n == 7) (Some (Ok (any_value (bytes bs) kept))) (Some (Ok (any_value (bytes bs) []))) None None (λ e. some_follows kept (Ok (any_value (bytes bs) kept)) (Ok (any_value (bytes bs) [])) refl) (none_follows kept) in
    let six : Follows kept (if n == 6 then Some (lists (list_in kind) kept) else (if n == 7 then Some (Ok (any_value (bytes bs) kept)) else None)) (if n == 6 then Some (lists no_list []) else (if n == 7 then Some (Ok (any_value (bytes bs) [])) else None)) =
    if_follows kept (n == 6) (Some (lists (list_in kind) kept)) (Some (lists no_list [])) (if n == 7 then Some (Ok (any_value (bytes bs) kept)) else None) (if n == 7 then Some (Ok (any_value (bytes bs) [])) else None)
    (λ e. some_follows kept (lists (list_in kind) kept) (lists no_list []) (ap (λ (l : KeyValueListData). lists l kept) (no_lists e) ∙ made_follows kept kvlist (read_list room no_list bs))) seven in
    let five : Follows kept (if n == 5 then Some (arrays (array_in kind) kept) else (if n == 6 then Some (lists (list_in kind) kept) else (if n == 7 then Some (Ok (any_value (bytes bs) kept)) else None))) (if n == 5 then Some (arrays no_array []) else (if n == 6 then Some (lists no_list []) else (if n == 7 then Some (Ok (any_value (bytes bs) [])) else None))) =
    if_follows kept (n == 5) (Some (arrays (array_in kind) kept)) (Some (arrays no_array [])) (if n == 6 then Some (lists (list_in kind) kept) else (if n == 7 then Some (Ok (any_value (bytes bs) kept)) else None)) (if n == 6 then Some (lists no_list []) else (if n == 7 then Some (Ok (any_value (bytes bs) [])) else None))
    (λ e. some_follows kept (arrays (array_in kind) kept) (arrays no_array []) (ap (λ (a : ArrayValueData). arrays a kept) (no_arrays e) ∙ made_follows kept array (read_array room no_array bs))) six in
    if_follows kept (n == 1) (Some (text kept)) (Some (text [])) (if n == 5 then Some (arrays (array_in kind) kept) else (if n == 6 then Some (lists (list_in kind) kept) else (if n == 7 then Some (Ok (any_value (bytes bs) kept)) else None))) (if n == 5 then Some (arrays no_array []) else (if n == 6 then Some (lists no_list []) else (if n == 7 then Some (Ok (any_value (bytes bs) [])) else None)))
    (λ e. some_follows kept (text kept) (text []) (made_follows kept string (utf8 bs))) five
known_follows room kind kept n (Four bs) no_arrays no_lists = none_follows kept
known_follows room kind kept n (Group bs) no_arrays no_lists = none_follows kept

-- where two aren't merged, the first isn't an array if the second is
left_off : (b c r : Bool) → ((b && c) || r) ≡ false → c ≡ true → b ≡ false
left_off false c r e is = refl
left_off true true r e is = e
left_off true false r e is = absurd (false≢true is)

-- the same of lists
right_off : (l b c : Bool) → (l || (b && c)) ≡ false → c ≡ true → b ≡ false
right_off true b c e is = absurd (cc (e))
right_off false false c e is = refl
right_off false true true e is = e
right_off false true false e is = absurd (false≢true is)

-- behind a member that gives way to it, the field is read as it is by itself
replaced : (room : ℕ) (kept spelled : List ℕ) (member : Option Entry) (field : Entry) → GivesWay room member → merges (number_of member) field.number ≡ false → IsMember field
    → ((member_of room member >>= λ v. Ok (keep_any v kept)) >>= λ v. any_step_in room v field spelled) ≡ (member_of room (Some field) >>= λ v. Ok (keep_any v kept))
replaced room kept spelled member field g apart known =
    let m = number_of member in
    let n = field.number in
    let no_arrays : (n == 5) ≡ true → array_in g.kind ≡ no_array = λ e. g.arrays (left_off (m == 5) (n == 5) (m == 6 && n == 6) apart e) in
    let no_lists : (n == 6) ≡ true → list_in g.kind ≡ no_list = λ e. g.lists (right_off (m == 5 && n == 5) (m == 6) (n == 6) apart e) in
    ap (λ (r : Result AnyValueData ReadFault). (r >>= λ v. Ok (keep_any v kept)) >>= λ v. any_step_in room v field spelled) g.read
    ∙ (known_follows room g.kind kept n field.value no_arrays no_lists).follows (Ok (keep_any (any_value g.kind kept) spelled)) (Ok (keep_any no_value [])) (known room no_value)

-- no member gives way to any
pub none_gives : (room : ℕ) → GivesWay room None
none_gives room = record { kind = unset; read = refl; arrays = λ e. refl; lists = λ e. refl }

-- a string, once read, leaves nothing
pub string_leaves : (bs : List ℕ) → IsUtf8 bs → LeavesNothing (holding 1 bs)
string_leaves bs valid = record { known = λ room v. refl; kind = string bs; read = λ room. ap (λ (r : Result (List ℕ) ReadFault). r >>= λ t. Ok (any_value (string t) [])) (utf8_yes bs valid); arrays = refl; lists = refl }

-- nor do bytes
pub bytes_leave : (bs : List ℕ) → LeavesNothing (holding 7 bs)
bytes_leave bs = record { known = λ room v. refl; kind = bytes bs; read = λ room. refl; arrays = refl; lists = refl }

-- nor does a bool
pub bool_leaves : (x : ℕ) → LeavesNothing (record { number = 2; value = Varint x })
bool_leaves x = record { known = λ room v. refl; kind = boolean (bool x); read = λ room. refl; arrays = refl; lists = refl }

-- nor does a number
pub int_leaves : (x : ℕ) → LeavesNothing (record { number = 3; value = Varint x })
int_leaves x = record { known = λ room v. refl; kind = int (int64 x); read = λ room. refl; arrays = refl; lists = refl }

-- nor does a double
pub double_leaves : (bs : List ℕ) → LeavesNothing (record { number = 4; value = Eight bs })
double_leaves bs = record { known = λ room v. refl; kind = double bs; read = λ room. refl; arrays = refl; lists = refl }

-- what leaves nothing gives way
pub scalar_gives : (room : ℕ) (field : Entry) → LeavesNothing field → GivesWay room (Some field)
scalar_gives room field l = record { kind = l.kind; read = l.read room; arrays = λ e. l.arrays; lists = λ e. l.lists }

-- ---- a value that gives place to another

-- a member is so spelled at any depth
at_depth : {d e : ℕ} {front : List ℕ} {field : Entry} → IsMember field → IsField d front field → IsField e front field
at_depth known (varint_field tag number) = varint_field tag number
at_depth known (eight_field tag long) = eight_field tag long
at_depth known (bytes_field tag size) = bytes_field tag size
at_depth known (four_field tag long) = four_field tag long
at_depth known (group_field deep tag inside end) = absurd (false≢true (known 0 no_value))

-- to keep nothing more changes nothing
kept_nothing : (r : Result AnyValueData ReadFault) → (r >>= λ v. Ok (keep_any v [])) ≡ r
kept_nothing (Ok (any_value kind unknown)) = ap (λ (u : List ℕ). Ok (any_value kind u)) (append-nil unknown)
kept_nothing (Err f) = refl

-- it makes of what was left what it makes of nothing
afresh : (room : ℕ) (kind : KindData) (field : Entry) (spelled : List ℕ) → array_in kind ≡ no_array → list_in kind ≡ no_list → IsMember field → any_step_in room (any_value kind []) field spelled ≡ any_step_in room no_value field spelled
afresh room kind field spelled no_arrays no_lists known =
    (known_follows room kind [] field.number field.value (λ e. no_arrays) (λ e. no_lists)).follows (Ok (keep_any (any_value kind []) spelled)) (Ok (keep_any no_value spelled)) (known room no_value)
    ∙ kept_nothing (any_step_in room no_value field spelled)

-- a value of one such member and nothing else, with the fields of another behind it, is read as the other
taken_place : (d room : ℕ) (value later others : List ℕ) (member next : Entry) → LeavesNothing member → IsMember next → next_at d value ≡ Ok (Some (member, [])) → next_at d later ≡ Ok (Some (next, others))
    → (read_any room no_value value >>= λ v. read_any room v later) ≡ read_any room no_value later
unfolding read_any
taken_place d zero value later others member next leaves next_known found follows = refl
taken_place d (suc room) value later others member next leaves next_known found follows =
    let step = any_step_in room in
    let e = 100 - room in
    let all : value ≡ before value [] = next_before d value [] member found ∙ append-nil (before value []) in
    let first : IsField e value member = subst (λ (t : List ℕ). IsField e t member) (sym all) (at_depth leaves.known (spelled_is d value [] member found)) in
    let front = before later others in
    let second : IsField e front next = at_depth next_known (spelled_is d later others next follows) in
    let is : later ≡ front ++ others = next_before d later others next follows in
    let read : walk step e no_value value ≡ Ok (any_value leaves.kind []) = one_walked step e no_value value member first ∙ any_spelled room member leaves.known no_value value [] ∙ leaves.read room in
    let behind : walk step e (any_value leaves.kind []) later ≡ walk step e no_value later =
    ap (walk step e (any_value leaves.kind [])) is ∙ front_walked step e (any_value leaves.kind []) front others next second
    ∙ ap (λ (r : Result AnyValueData ReadFault). r >>= λ v. walk step e v others) (afresh room leaves.kind next front leaves.arrays leaves.lists next_known)
    ∙ sym (front_walked step e no_value front others next second) ∙ ap (walk step e no_value) (sym is) in
    ap (λ (r : Result AnyValueData ReadFault). r >>= λ v. walk step e v later) read ∙ behind

-- so it gives place to the other
pub place_given : (d : ℕ) (value later rest others : List ℕ) (member next : Entry) → LeavesNothing member → IsMember next → next_at d value ≡ Ok (Some (member, rest)) → rest ≡ [] → next_at d later ≡ Ok (Some (next, others)) → GivesPlace value later
place_given d value later rest others member next leaves next_known found none follows = record {
  same = λ room. taken_place d room value later others member next leaves next_known (subst (λ (t : List ℕ). next_at d value ≡ Ok (Some (member, t))) none found) follows;
}

-- ---- an array or a list that is read

-- an array is read as its own reader reads it
array_read : (room : ℕ) (bs : List ℕ) (r : Result ArrayValueData ReadFault) (v : AnyValueData) → read_array room no_array bs ≡ r → (r >>= λ a. Ok (any_value (array a) [])) ≡ Ok v → GivesWay room (Some (holding 5 bs))
array_read room bs (Ok a) v is made = record { kind = array a; read = ap (λ (r : Result ArrayValueData ReadFault). r >>= λ b. Ok (any_value (array b) [])) is; arrays = λ e. absurd (cc (e)); lists = λ e. refl }
array_read room bs (Err f) v is made = absurd (cc (made))

-- and a list
list_read : (room : ℕ) (bs : List ℕ) (r : Result KeyValueListData ReadFault) (v : AnyValueData) → read_list room no_list bs ≡ r → (r >>= λ l. Ok (any_value (kvlist l) [])) ≡ Ok v → GivesWay room (Some (holding 6 bs))
list_read room bs (Ok l) v is made = record { kind = kvlist l; read = ap (λ (r : Result KeyValueListData ReadFault). r >>= λ m. Ok (any_value (kvlist m) [])) is; arrays = λ e. refl; lists = λ e. absurd (cc (e)) }
list_read room bs (Err f) v is made = absurd (cc (made))

-- a value's field whose text is canonical by itself
pub alone_read : (room : ℕ) (spelled : List ℕ) (field : Entry) → 0 < room → length spelled < 2 ^ 64 → IsField (101 - room) spelled field → (w : Whole any_text (SoundAny room) spelled) → any_step_in (room - 1) no_value field spelled ≡ Ok w.value
alone_read room spelled field some short first w =
    let fits : Short (any_text w.value) = subst Short w.same short in
    sym (one_walked (any_step_in (room - 1)) (101 - room) no_value spelled field first) ∙ sym (opened_any room no_value spelled some) ∙ ap (read_any room no_value) w.same ∙ any_back room w.value w.sound.typed w.sound.nested fits

-- it takes a level itself
some_room : (room : ℕ) (v : AnyValueData) → NestedAny room v → 0 < room
some_room zero v nested = absurd nested
some_room (suc room) v nested = omega arith

-- an array whose field is a canonical value gives way
pub array_gives : (room : ℕ) (spelled bs : List ℕ) → length spelled < 2 ^ 64 → IsField (101 - room) spelled (holding 5 bs) → Whole any_text (SoundAny room) spelled → GivesWay (room - 1) (Some (holding 5 bs))
array_gives room spelled bs short first w =
    let some : 0 < room = some_room room w.value w.sound.nested in
    array_read (room - 1) bs (read_array (room - 1) no_array bs) w.value refl (alone_read room spelled (holding 5 bs) some short first w)

-- and so does a list
pub list_gives : (room : ℕ) (spelled bs : List ℕ) → length spelled < 2 ^ 64 → IsField (101 - room) spelled (holding 6 bs) → Whole any_text (SoundAny room) spelled → GivesWay (room - 1) (Some (holding 6 bs))
list_gives room spelled bs short first w =
    let some : 0 < room = some_room room w.value w.sound.nested in
    list_read (room - 1) bs (read_list (room - 1) no_list bs) w.value refl (alone_read room spelled (holding 6 bs) some short first w)

-- ---- a member that is put for another

-- a field may be put for itself
pub same_put : (field : Entry) → IsPutFor field field
same_put field = record { number = refl; known = λ m. m; read = λ room. refl }

-- a bool that isn't 0 is read as 1
pub one_put : (x : ℕ) → 1 < x → IsPutFor (record { number = 2; value = Varint 1 }) (record { number = 2; value = Varint x })
one_put x some =
    let off : (x == 0) ≡ false = grind (arith, nat_tests) in
    record { number = refl; known = λ m room v. refl; read = λ room. ap (λ (b : Bool). Ok (any_value (boolean (not b)) [])) off }

-- what is put for a member that gives way does so, too
pub gives_as : (room : ℕ) (put member : Entry) → IsPutFor put member → GivesWay room (Some member) → GivesWay room (Some put)
gives_as room put member same g = record {
  kind = g.kind;
  read = sym (same.read room) ∙ g.read;
  arrays = λ e. g.arrays (ap (λ (n : ℕ). n == 5) (sym same.number) ∙ e);
  lists = λ e. g.lists (ap (λ (n : ℕ). n == 6) (sym same.number) ∙ e);
}

-- ---- the fields that went by

-- what is kept is read as it was, whatever stands before it
abbrev pub Again : ℕ → List ℕ → Type 0
Again d kept = (room : ℕ) (v : AnyValueData) (rest : List ℕ) → walk (any_step_in room) d v (kept ++ rest) ≡ walk (any_step_in room) d (keep_any v kept) rest

-- what is known of a value of whose text the fields before `left` have gone by
pub record Choosing (room d : ℕ) (text left : List ℕ) (member : Option Entry) (gives : Bool) (size : ℕ) : Type 0 where
  pub gone : List ℕ
  pub parts : text ≡ gone ++ left
  pub kept : List ℕ
  pub none : size ≡ 0 → kept ≡ []
  pub gathered : (rest : List ℕ) → walk (gather known_of_any no_value) d [] (gone ++ rest) ≡ walk (gather known_of_any no_value) d kept rest
  pub again : Again d kept
  pub known : IfSome member IsMember
  pub way : gives ≡ true → GivesWay room member
  pub so_far : (rest : List ℕ) → walk (any_step_in room) d no_value (gone ++ rest) ≡ ((member_of room member >>= λ v. Ok (keep_any v kept)) >>= λ v. walk (any_step_in room) d v rest)

-- a value that keeps nothing more is the same
keep_none : (v : AnyValueData) → keep_any v [] ≡ v
keep_none (any_value kind unknown) = ap (λ (u : List ℕ). any_value kind u) (append-nil unknown)

-- what is kept in two parts is kept as one
keep_both : (v : AnyValueData) (kept more : List ℕ) → keep_any (keep_any v kept) more ≡ keep_any v (kept ++ more)
keep_both (any_value kind unknown) kept more = ap (λ (u : List ℕ). any_value kind u) (append_assoc unknown kept more)

-- before the first field
pub none_chosen : (room d : ℕ) (text : List ℕ) → Choosing room d text text None true 0
none_chosen room d text = record {
  gone = [];
  parts = refl;
  kept = [];
  none = λ e. refl;
  gathered = λ rest. refl;
  again = λ inner v rest. ap (λ (w : AnyValueData). walk (any_step_in inner) d w rest) (sym (keep_none v));
  known = tt;
  way = λ e. none_gives room;
  so_far = λ rest. refl;
}

-- one field more has gone by, of which so much is known
one_chosen : (room d : ℕ) (text left rest more : List ℕ) (member later : Option Entry) (gives now : Bool) (size larger : ℕ) (field : Entry) → next_at d left ≡ Ok (Some (field, rest)) → (larger ≡ 0 → more ≡ []) → Again d more → IfSome later IsMember
    → (now ≡ true → GivesWay room later) → (p : Choosing room d text left member gives size) → gather known_of_any no_value p.kept field (before left rest) ≡ Ok more
    → ((member_of room member >>= λ v. Ok (keep_any v p.kept)) >>= λ v. any_step_in room v field (before left rest)) ≡ (member_of room later >>= λ v. Ok (keep_any v more))
    → Choosing room d text rest later now larger
one_chosen room d text left rest more member later gives now size larger field found none again known way p gathers same =
    let front = before left rest in
    let first : IsField d front field = spelled_is d left rest field found in
    let is : left ≡ front ++ rest = next_before d left rest field found in
    record {
      gone = p.gone ++ front;
      parts = p.parts ∙ ap (λ (t : List ℕ). p.gone ++ t) is ∙ sym (append_assoc p.gone front rest);
      kept = more;
      none = none;
      gathered = gathered_on known_of_any no_value d p.gone front p.kept more field first gathers p.gathered;
      again = again;
      known = known;
      way = way;
      so_far = λ behind.
          ap (walk (any_step_in room) d no_value) (append_assoc p.gone front behind) ∙ p.so_far (front ++ behind)
          ∙ then_walked (any_step_in room) d (member_of room member >>= λ v. Ok (keep_any v p.kept)) front behind field first
          ∙ ap (λ (r : Result AnyValueData ReadFault). r >>= λ v. walk (any_step_in room) d v behind) same;
    }

-- one that the value knows, behind a member that gives way to it
pub member_chosen : (room d : ℕ) (text left rest : List ℕ) (member : Option Entry) (gives now : Bool) (size : ℕ) (field : Entry) → next_at d left ≡ Ok (Some (field, rest)) → gives ≡ true → merges (number_of member) field.number ≡ false → IsMember field
    → (now ≡ true → GivesWay room (Some field)) → Choosing room d text left member gives size → Choosing room d text rest (Some field) now size
member_chosen room d text left rest member gives now size field found is apart known way p =
    one_chosen room d text left rest p.kept member (Some field) gives now size size field found p.none p.again known way p (gather_known known_of_any no_value p.kept (before left rest) field (known 0 no_value))
    (replaced room p.kept (before left rest) member field (p.way is) apart known)

-- the same with what is put for the member
pub chosen_as : (room d : ℕ) (text left : List ℕ) (field put : Entry) (gives : Bool) (size : ℕ) → IsPutFor put field → Choosing room d text left (Some field) gives size → Choosing room d text left (Some put) gives size
chosen_as room d text left field put gives size same p = record {
  gone = p.gone;
  parts = p.parts;
  kept = p.kept;
  none = p.none;
  gathered = p.gathered;
  again = p.again;
  known = same.known p.known;
  way = λ e. gives_as room put field same (p.way e);
  so_far = λ rest. p.so_far rest ∙ ap (λ (r : Result AnyValueData ReadFault). (r >>= λ v. Ok (keep_any v p.kept)) >>= λ v. walk (any_step_in room) d v rest) (same.read room);
}

-- a field that a value doesn't know
abbrev pub Unchosen : Entry → Type 0
Unchosen field = (room : ℕ) (v : AnyValueData) → is_some (known_of_any room v field.number field.value) ≡ false

-- it is kept
keeps : (room : ℕ) (v : AnyValueData) (field : Entry) (spelled : List ℕ) → Unchosen field → any_step_in room v field spelled ≡ Ok (keep_any v spelled)
keeps room v field spelled unknown = ap (λ (o : Option (Result AnyValueData ReadFault)). unwrap_or o (Ok (keep_any v spelled))) (none_of (known_of_any room v field.number field.value) (unknown room v))

-- behind what was kept before it
kept_on : (room : ℕ) (kept spelled : List ℕ) (field : Entry) (r : Result AnyValueData ReadFault) → Unchosen field → ((r >>= λ v. Ok (keep_any v kept)) >>= λ v. any_step_in room v field spelled) ≡ (r >>= λ v. Ok (keep_any v (kept ++ spelled)))
kept_on room kept spelled field (Ok v) unknown = keeps room (keep_any v kept) field spelled unknown ∙ ap (λ (w : AnyValueData). Ok w) (keep_both v kept spelled)
kept_on room kept spelled field (Err f) unknown = refl

-- what is kept with it is read as it was
again_on : (d : ℕ) (kept front : List ℕ) (field : Entry) → IsField d front field → Unchosen field → Again d kept → Again d (kept ++ front)
again_on d kept front field first unknown again room v rest =
    let step = any_step_in room in
    ap (walk step d v) (append_assoc kept front rest) ∙ again room v (front ++ rest) ∙ front_walked step d (keep_any v kept) front rest field first
    ∙ ap (λ (r : Result AnyValueData ReadFault). r >>= λ w. walk step d w rest) (keeps room (keep_any v kept) field front unknown) ∙ ap (λ (w : AnyValueData). walk step d w rest) (keep_both v kept front)

-- one that the value doesn't know
pub unknown_chosen : (room d : ℕ) (text left rest : List ℕ) (member : Option Entry) (gives : Bool) (size larger : ℕ) (field : Entry) → next_at d left ≡ Ok (Some (field, rest)) → Unchosen field → 0 < larger → Choosing room d text left member gives size
    → Choosing room d text rest member gives larger
unknown_chosen room d text left rest member gives size larger field found unknown some p =
    one_chosen room d text left rest (p.kept ++ before left rest) member member gives gives size larger field found (λ e. absurd (omega (arith, e, some))) (again_on d p.kept (before left rest) field (spelled_is d left rest field found) unknown p.again) p.known p.way p
    (gather_unknown known_of_any no_value p.kept (before left rest) field (unknown 0 no_value)) (kept_on room p.kept (before left rest) field (member_of room member) unknown)

-- once all have gone by
pub all_chosen : (room d : ℕ) (text left : List ℕ) (member : Option Entry) (gives : Bool) (size : ℕ) → left ≡ [] → Choosing room d text left member gives size → IsValue room d text member size
all_chosen room d text left member gives size none p =
    let gone : text ≡ p.gone ++ [] = p.parts ∙ ap (λ (t : List ℕ). p.gone ++ t) none in
    record {
      kept = p.kept;
      none = p.none;
      gathered = ap (walk (gather known_of_any no_value) d []) gone ∙ p.gathered [] ∙ turn_end (gather known_of_any no_value) d p.kept [] refl;
      again = p.again;
      known = p.known;
      read = ap (walk (any_step_in room) d no_value) gone ∙ p.so_far [] ∙ ends (any_step_in room) d (member_of room member >>= λ v. Ok (keep_any v p.kept));
    }

-- ---- a value is put

-- what is kept, read by itself
kept_walked : (inner d : ℕ) (kept : List ℕ) (v : AnyValueData) → Again d kept → walk (any_step_in inner) d v kept ≡ Ok (keep_any v kept)
kept_walked inner d kept v again = ap (walk (any_step_in inner) d v) (sym (append-nil kept)) ∙ again inner v [] ∙ turn_end (any_step_in inner) d (keep_any v kept) [] refl

-- of no member
pub bare_alike : (room size : ℕ) (text old new : List ℕ) → 0 < room → (p : IsValue (room - 1) (101 - room) text None size) → new ≡ old ++ p.kept → ReadAlike any_step_in no_value room text old new
bare_alike room size text old new some p is = record {
  put = p.kept;
  copied = is;
  same =
      opened any_step_in room no_value text some ∙ p.read ∙ sym (kept_walked (room - 1) (101 - room) p.kept no_value p.again)
      ∙ sym (opened any_step_in room no_value p.kept some);
}

-- of one
pub member_alike : (room size : ℕ) (text old valued new : List ℕ) (field : Entry) → 0 < room → (p : IsValue (room - 1) (101 - room) text (Some field) size) → PutFor any_step_in IsFirst (room - 1) (101 - room) 0 field old valued → new ≡ valued ++ p.kept
    → ReadAlike any_step_in no_value room text old new
member_alike room size text old valued new field some p q is =
    let step = any_step_in (room - 1) in
    let d = 101 - room in
    record {
      put = q.put ++ p.kept;
      copied = is ∙ ap (λ (t : List ℕ). t ++ p.kept) q.copied ∙ append_assoc old q.put p.kept;
      same =
          opened any_step_in room no_value text some ∙ p.read
          ∙ sym (bind_same (step no_value field []) (λ v. walk step d v p.kept) (λ v. Ok (keep_any v p.kept)) (λ v. kept_walked (room - 1) d p.kept v p.again))
          ∙ sym (q.alike no_value [] p.kept refl) ∙ sym (opened any_step_in room no_value (q.put ++ p.kept) some);
    }
