-- Attribute values that are read are nested no deeper than there is room, and typed.
use Rattle.std.proofs.Common.{◌≡◌, ℕ, zero, suc, ◌-◌, ◌==◌, List, None, Ok, refl, sym, ◌∙◌}
use Rattle.std.proofs.lemmas.Str.{IsUtf8-nil}
use Rattle.pb_wire.specs.Grammar.{Varint, Eight, Bytes, Entry, IsField}
use Rattle.otlp_trace.specs.Data.{AnyValueData, any_value, KindData, string, boolean, int, double, array, kvlist, bytes, ArrayValueData, array_value, AnyValues, no_values, a_value, KeyValueListData, key_value_list, KeyValueData, bare_key, key_value, KeyValues, no_key_values, a_key_value}
use Rattle.otlp_read.specs.declared.fault.ReadFault.TheVariants.{TooDeep}
use Rattle.otlp_read.specs.AnyValue.{no_value, no_array, no_list, no_key_value, array_in, list_in, keep_any, any_step, push_value, keep_array, array_step, push_key_value, keep_list, list_step, keep_key_value, key_value_step, read_any, read_array, read_list, read_key_value}
use Rattle.otlp_read.specs.Numbers.{bool, int64}
use Rattle.otlp_read.specs.Nested.{known_of_any, known_of_array, known_of_list, known_of_key_value, NestedAny, NestedKind, NestedArray, NestedValues, NestedList, NestedKeyValue, NestedKeyValues}
use Rattle.otlp_read.specs.Typed.{TypedAny, TypedKind, TypedArray, TypedValues, TypedList, TypedKeyValue, TypedKeyValues}
use Rattle.otlp_read.specs.Walk.{read_with}
use Rattle.otlp_read.proofs.Sound.{AreBytes, not_known, made, read_fine, string_fine, kept_keeps, nothing_kept, kept_more, walk_kept, Good, Before, Reads, FieldsFine, fresh, from_nested, int64_fits, by_test, err_not_ok}
use Rattle.otlp_read.proofs.Opened.{attribute_read}

-- ---- the messages of no fields

empty_any : (room : ℕ) → NestedAny (suc room) no_value
empty_any room = (tt, nothing_kept known_of_any room)

empty_array : (room : ℕ) → NestedArray (suc room) no_array
empty_array room = (tt, nothing_kept known_of_array room)

empty_list : (room : ℕ) → NestedList (suc room) no_list
empty_list room = (tt, nothing_kept known_of_list room)

pub empty_key_value : (room : ℕ) → NestedKeyValue (suc room) no_key_value
empty_key_value room = nothing_kept known_of_key_value room

-- ---- what a member of a value is merged into

array_before : (room : ℕ) (kind : KindData) → NestedKind room kind → Before NestedArray room (array_in kind)
array_before zero kind nested = tt
array_before (suc room) (array a) nested = nested
array_before (suc room) _ nested = empty_array room

array_typed : (kind : KindData) → TypedKind kind → TypedArray (array_in kind)
array_typed (array a) typed = typed
array_typed _ typed = tt

list_before : (room : ℕ) (kind : KindData) → NestedKind room kind → Before NestedList room (list_in kind)
list_before zero kind nested = tt
list_before (suc room) (kvlist l) nested = nested
list_before (suc room) _ nested = empty_list room

list_typed : (kind : KindData) → TypedKind kind → TypedList (list_in kind)
list_typed (kvlist l) typed = typed
list_typed _ typed = tt

-- ---- one more element

nested_push : (room : ℕ) (vs : AnyValues) (v : AnyValueData) → NestedValues room vs → NestedAny room v → NestedValues room (push_value vs v)
nested_push room no_values v nested one = (one, tt)
nested_push room (a_value w ws) v nested one = (nested.0, nested_push room ws v nested.1 one)

typed_push : (vs : AnyValues) (v : AnyValueData) → TypedValues vs → TypedAny v → TypedValues (push_value vs v)
typed_push no_values v typed one = (one, tt)
typed_push (a_value w ws) v typed one = (typed.0, typed_push ws v typed.1 one)

nested_key_push : (room : ℕ) (ps : KeyValues) (p : KeyValueData) → NestedKeyValues room ps → NestedKeyValue room p → NestedKeyValues room (push_key_value ps p)
nested_key_push room no_key_values p nested one = (one, tt)
nested_key_push room (a_key_value q qs) p nested one = (nested.0, nested_key_push room qs p nested.1 one)

typed_key_push : (ps : KeyValues) (p : KeyValueData) → TypedKeyValues ps → TypedKeyValue p → TypedKeyValues (push_key_value ps p)
typed_key_push no_key_values p typed one = (one, tt)
typed_key_push (a_key_value q qs) p typed one = (typed.0, typed_key_push qs p typed.1 one)

-- ---- fields

-- the four readers, with room for so many levels
record ReadsAll (F : Type 0) (room : ℕ) : Type 0 where
  any : Reads F NestedAny TypedAny read_any room
  arrays : Reads F NestedArray TypedArray read_array room
  lists : Reads F NestedList TypedList read_list room
  key_values : Reads F NestedKeyValue TypedKeyValue read_key_value room

any_fine : (F : Type 0) (room : ℕ) → ReadsAll F room → FieldsFine F NestedAny TypedAny known_of_any room
any_fine F room below (any_value kind unknown) n (Varint x) wire good =
    by_test (n == 2) (λ e. rw e (made (any_value (boolean (bool x)) unknown) ((tt, good.0.1), λ f. tt))) λ e2.
    by_test (n == 3) (λ e. rw (e2, e) (made (any_value (int (int64 x)) unknown) ((tt, good.0.1), λ f. int64_fits x wire))) λ e3.
    rw (e2, e3) (not_known (λ y. refl))
any_fine F room below (any_value kind unknown) n (Eight bs) wire good =
    by_test (n == 4) (λ e. rw e (made (any_value (double bs) unknown) ((tt, good.0.1), λ f. wire.0))) λ e4.
    rw e4 (not_known (λ y. refl))
any_fine F room below (any_value kind unknown) n (Bytes bs) wire good =
    by_test (n == 1) (λ e. rw e (string_fine bs (λ text. any_value (string text) unknown) (λ text valid. ((tt, good.0.1), λ f. valid)))) λ e1.
    by_test (n == 5) (λ e. rw (e1, e) (read_fine (read_array room (array_in kind) bs) (λ a. any_value (array a) unknown) (λ a is. let g = below.arrays (array_in kind) a bs wire (array_before room kind good.0.0) (λ f. array_typed kind (good.1 f)) is in ((g.0, good.0.1), g.1)))) λ e5.
    by_test (n == 6) (λ e. rw (e1, e5, e) (read_fine (read_list room (list_in kind) bs) (λ l. any_value (kvlist l) unknown) (λ l is. let g = below.lists (list_in kind) l bs wire (list_before room kind good.0.0) (λ f. list_typed kind (good.1 f)) is in ((g.0, good.0.1), g.1)))) λ e6.
    by_test (n == 7) (λ e. rw (e1, e5, e6, e) (made (any_value (bytes bs) unknown) ((tt, good.0.1), λ f. tt))) λ e7.
    rw (e1, e5, e6, e7) (not_known (λ y. refl))
any_fine F room below v n _ wire good = not_known (λ y. refl)

array_fine : (F : Type 0) (room : ℕ) → ReadsAll F room → FieldsFine F NestedArray TypedArray known_of_array room
array_fine F room below (array_value vs unknown) n (Bytes bs) wire good =
    by_test (n == 1) (λ e. rw e (read_fine (read_any room no_value bs) (λ v. array_value (push_value vs v) unknown) (λ v is. let g = below.any no_value v bs wire (fresh NestedAny no_value empty_any room) (λ f. tt) is in ((nested_push room vs v good.0.0 g.0, good.0.1), λ f. typed_push vs v (good.1 f) (g.1 f))))) λ e1.
    rw e1 (not_known (λ y. refl))
array_fine F room below a n _ wire good = not_known (λ y. refl)

list_fine : (F : Type 0) (room : ℕ) → ReadsAll F room → FieldsFine F NestedList TypedList known_of_list room
list_fine F room below (key_value_list ps unknown) n (Bytes bs) wire good =
    by_test (n == 1) (λ e. rw e (read_fine (read_key_value room no_key_value bs) (λ p. key_value_list (push_key_value ps p) unknown) (λ p is. let g = below.key_values no_key_value p bs wire (fresh NestedKeyValue no_key_value empty_key_value room) (λ f. IsUtf8-nil) is in ((nested_key_push room ps p good.0.0 g.0, good.0.1), λ f. typed_key_push ps p (good.1 f) (g.1 f))))) λ e1.
    rw e1 (not_known (λ y. refl))
list_fine F room below l n _ wire good = not_known (λ y. refl)

key_value_fine : (F : Type 0) (room : ℕ) → ReadsAll F room → FieldsFine F NestedKeyValue TypedKeyValue known_of_key_value room
key_value_fine F room below (bare_key key unknown) n (Bytes bs) wire good =
    by_test (n == 1) (λ e. rw e (string_fine bs (λ k. bare_key k unknown) (λ k valid. (good.0, λ f. valid)))) λ e1.
    by_test (n == 2) (λ e. rw (e1, e) (read_fine (read_any room no_value bs) (λ v. key_value key v unknown) (λ v is. let g = below.any no_value v bs wire (fresh NestedAny no_value empty_any room) (λ f. tt) is in ((g.0, good.0), λ f. (good.1 f, g.1 f))))) λ e2.
    rw (e1, e2) (not_known (λ y. refl))
key_value_fine F room below (key_value key old unknown) n (Bytes bs) wire good =
    by_test (n == 1) (λ e. rw e (string_fine bs (λ k. key_value k old unknown) (λ k valid. (good.0, λ f. (valid, (good.1 f).1))))) λ e1.
    by_test (n == 2) (λ e. rw (e1, e) (read_fine (read_any room old bs) (λ v. key_value key v unknown) (λ v is. let g = below.any old v bs wire (from_nested NestedAny room old good.0.0) (λ f. (good.1 f).1) is in ((g.0, good.0.1), λ f. ((good.1 f).0, g.1 f))))) λ e2.
    rw (e1, e2) (not_known (λ y. refl))
key_value_fine F room below p n _ wire good = not_known (λ y. refl)

-- ---- what isn't known

any_kept : (F : Type 0) (room : ℕ) (a : AnyValueData) (e : Entry) (spelled : List ℕ) → IsField (100 - room) spelled e → ((x : AnyValueData) → known_of_any room x e.number e.value ≡ None) → Good F NestedAny TypedAny (suc room) a → Good F NestedAny TypedAny (suc room) (keep_any a spelled)
any_kept F room (any_value kind unknown) e spelled is none good = ((good.0.0, kept_more known_of_any room unknown spelled e good.0.1 is none), good.1)

array_kept : (F : Type 0) (room : ℕ) (a : ArrayValueData) (e : Entry) (spelled : List ℕ) → IsField (100 - room) spelled e → ((x : ArrayValueData) → known_of_array room x e.number e.value ≡ None) → Good F NestedArray TypedArray (suc room) a → Good F NestedArray TypedArray (suc room) (keep_array a spelled)
array_kept F room (array_value vs unknown) e spelled is none good = ((good.0.0, kept_more known_of_array room unknown spelled e good.0.1 is none), good.1)

list_kept : (F : Type 0) (room : ℕ) (l : KeyValueListData) (e : Entry) (spelled : List ℕ) → IsField (100 - room) spelled e → ((x : KeyValueListData) → known_of_list room x e.number e.value ≡ None) → Good F NestedList TypedList (suc room) l → Good F NestedList TypedList (suc room) (keep_list l spelled)
list_kept F room (key_value_list ps unknown) e spelled is none good = ((good.0.0, kept_more known_of_list room unknown spelled e good.0.1 is none), good.1)

key_value_kept : (F : Type 0) (room : ℕ) (p : KeyValueData) (e : Entry) (spelled : List ℕ) → IsField (100 - room) spelled e → ((x : KeyValueData) → known_of_key_value room x e.number e.value ≡ None) → Good F NestedKeyValue TypedKeyValue (suc room) p → Good F NestedKeyValue TypedKeyValue (suc room) (keep_key_value p spelled)
key_value_kept F room (bare_key key unknown) e spelled is none good = (kept_more known_of_key_value room unknown spelled e good.0 is none, good.1)
key_value_kept F room (key_value key v unknown) e spelled is none good = ((good.0.0, kept_more known_of_key_value room unknown spelled e good.0.1 is none), good.1)

-- ---- the readers

all_read : (F : Type 0) (room : ℕ) → ReadsAll F room
unfolding read_any
all_read F zero = record {
  any = λ a b text are start typed e. err_not_ok TooDeep b e;
  arrays = λ a b text are start typed e. err_not_ok TooDeep b e;
  lists = λ a b text are start typed e. err_not_ok TooDeep b e;
  key_values = λ a b text are start typed e. err_not_ok TooDeep b e;
}
all_read F (suc room) =
    let below = all_read F room in
    let d = 100 - room in
    record {
      any = λ a b text are start typed e. walk_kept F (any_step (read_array room) (read_list room)) d (Good F NestedAny TypedAny (suc room)) (kept_keeps F (known_of_any room) d (Good F NestedAny TypedAny (suc room)) (any_fine F room below) keep_any (any_kept F room)) a b text are (start, typed) e;
      arrays = λ a b text are start typed e. walk_kept F (array_step (read_any room)) d (Good F NestedArray TypedArray (suc room)) (kept_keeps F (known_of_array room) d (Good F NestedArray TypedArray (suc room)) (array_fine F room below) keep_array (array_kept F room)) a b text are (start, typed) e;
      lists = λ a b text are start typed e. walk_kept F (list_step (read_key_value room)) d (Good F NestedList TypedList (suc room)) (kept_keeps F (known_of_list room) d (Good F NestedList TypedList (suc room)) (list_fine F room below) keep_list (list_kept F room)) a b text are (start, typed) e;
      key_values = λ a b text are start typed e. walk_kept F (key_value_step room) d (Good F NestedKeyValue TypedKeyValue (suc room)) (kept_keeps F (known_of_key_value room) d (Good F NestedKeyValue TypedKeyValue (suc room)) (key_value_fine F room below) keep_key_value (key_value_kept F room)) a b text are (start, typed) e;
    }

-- an attribute of a message
pub attribute_sound : (F : Type 0) (room : ℕ) (p : KeyValueData) (text : List ℕ) → (F → AreBytes text) → read_with key_value_step room no_key_value text ≡ Ok p → Good F NestedKeyValue TypedKeyValue room p
attribute_sound F room p text are e = (all_read F room).key_values no_key_value p text are (fresh NestedKeyValue no_key_value empty_key_value room) (λ f. IsUtf8-nil) (sym (attribute_read room no_key_value text) ∙ e)
