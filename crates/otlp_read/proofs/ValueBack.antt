-- Attribute values that were written read back.
use Rattle.std.proofs.Common.{◌≡◌, ℕ, zero, suc, ◌-◌, true, false, List, [], Ok, refl, sym, ap, subst, ◌∙◌, arith}
use Rattle.std.proofs.lemmas.Int.{to_z-of_z}
use Rattle.std.specs.Int.{w64, cast_unsigned}
use Rattle.std.specs.Str.{IsUtf8}
use Rattle.otlp_trace.specs.Data.{AnyValueData, any_value, KindData, unset, string, boolean, int, double, array, kvlist, bytes, array_value, AnyValues, no_values, a_value, key_value_list, KeyValueData, bare_key, key_value, KeyValues, no_key_values, a_key_value}
use Rattle.otlp_trace.proofs.Signed.{fits64}
use Rattle.otlp_trace.specs.Text.{some_bytes, any_text, kind_text, array_text, values_text, list_text, key_value_text, key_values_text}
use Rattle.otlp_read.specs.AnyValue.{no_value, no_array, no_list, no_key_value, keep_any, any_step, push_value, keep_array, array_step, push_key_value, keep_list, list_step, keep_key_value, read_any, read_array, read_list, read_key_value, key_value_step}
use Rattle.otlp_read.specs.Nested.{known_of_any, known_of_array, known_of_list, known_of_key_value, NestedAny, NestedKind, NestedArray, NestedValues, NestedList, NestedKeyValue, NestedKeyValues}
use Rattle.otlp_read.specs.Typed.{TypedAny, TypedKind, TypedArray, TypedValues, TypedList, TypedKeyValue, TypedKeyValues}
use Rattle.otlp_read.specs.Walk.{read_with}
use Rattle.otlp_read.proofs.Leaves.{utf8_yes}
use Rattle.otlp_read.proofs.Opened.{any_opened, array_opened, list_opened, key_value_opened, attribute_read}
use Rattle.otlp_read.proofs.Taken.{Taken, Back, nothing, then, whole, bytes_taken, number_taken, eight_taken, some_string_taken, kept_taken}

-- ---- lists: what has been read, and what follows

values_on : AnyValues → AnyValues → AnyValues
values_on no_values vs = vs
values_on (a_value w ws) vs = a_value w (values_on ws vs)

push_on : (ws vs : AnyValues) (v : AnyValueData) → values_on (push_value ws v) vs ≡ values_on ws (a_value v vs)
unfolding values_on
push_on no_values vs v = refl
push_on (a_value w ws) vs v = ap (a_value w) (push_on ws vs v)

values_end : (ws : AnyValues) → values_on ws no_values ≡ ws
unfolding values_on
values_end no_values = refl
values_end (a_value w ws) = ap (a_value w) (values_end ws)

key_values_on : KeyValues → KeyValues → KeyValues
key_values_on no_key_values ps = ps
key_values_on (a_key_value q qs) ps = a_key_value q (key_values_on qs ps)

push_key_on : (qs ps : KeyValues) (p : KeyValueData) → key_values_on (push_key_value qs p) ps ≡ key_values_on qs (a_key_value p ps)
unfolding key_values_on
push_key_on no_key_values ps p = refl
push_key_on (a_key_value q qs) ps p = ap (a_key_value q) (push_key_on qs ps p)

key_values_end : (qs : KeyValues) → key_values_on qs no_key_values ≡ qs
unfolding key_values_on
key_values_end no_key_values = refl
key_values_end (a_key_value q qs) = ap (a_key_value q) (key_values_end qs)

-- a key, whatever follows
key_taken : (room : ℕ) (key : List ℕ) → IsUtf8 key → Taken (key_value_step room) (100 - room) no_key_value (some_bytes 1 key) (bare_key key [])
key_taken room key valid = some_string_taken (key_value_step room) (100 - room) 1 refl (λ k. bare_key k []) key valid refl

-- ---- values, and what holds them

mutual
  unfolding values_on key_values_on

  pub any_back : (room : ℕ) → Back (read_any room no_value) any_text TypedAny (NestedAny room)
  any_back zero v typed nested short = absurd nested
  any_back (suc room) (any_value kind unknown) typed nested short =
      any_opened room no_value (any_text (any_value kind unknown))
      ∙ whole (then (kind_taken room kind typed nested.0) (kept_taken known_of_any keep_any room (any_value kind) (λ u s. refl) unknown nested.1)) short

  kind_taken : (room : ℕ) (kind : KindData) → TypedKind kind → NestedKind room kind → Taken (any_step (read_array room) (read_list room)) (100 - room) no_value (kind_text kind) (any_value kind [])
  kind_taken room unset typed nested = nothing (any_step (read_array room) (read_list room)) (100 - room) no_value
  kind_taken room (string bs) typed nested = bytes_taken (any_step (read_array room) (read_list room)) (100 - room) 1 refl no_value (any_value (string bs) []) bs (λ short. rw (utf8_yes bs typed) refl)
  kind_taken room (boolean true) typed nested = number_taken (any_step (read_array room) (read_list room)) (100 - room) 2 refl no_value (any_value (boolean true) []) 1 (omega arith) refl
  kind_taken room (boolean false) typed nested = number_taken (any_step (read_array room) (read_list room)) (100 - room) 2 refl no_value (any_value (boolean false) []) 0 (omega arith) refl
  kind_taken room (int z) typed nested = number_taken (any_step (read_array room) (read_list room)) (100 - room) 3 refl no_value (any_value (int z) []) (cast_unsigned w64 z) (fits64 z typed) (ap (λ y. Ok (any_value (int y) [])) (to_z-of_z w64 z typed))
  kind_taken room (double bs) typed nested = eight_taken (any_step (read_array room) (read_list room)) (100 - room) 4 refl no_value (any_value (double bs) []) bs typed refl
  kind_taken room (array a) typed nested = bytes_taken (any_step (read_array room) (read_list room)) (100 - room) 5 refl no_value (any_value (array a) []) (array_text a) (λ short. rw (array_back room a typed nested short) refl)
  kind_taken room (kvlist l) typed nested = bytes_taken (any_step (read_array room) (read_list room)) (100 - room) 6 refl no_value (any_value (kvlist l) []) (list_text l) (λ short. rw (list_back room l typed nested short) refl)
  kind_taken room (bytes bs) typed nested = bytes_taken (any_step (read_array room) (read_list room)) (100 - room) 7 refl no_value (any_value (bytes bs) []) bs (λ short. refl)

  array_back : (room : ℕ) → Back (read_array room no_array) array_text TypedArray (NestedArray room)
  array_back zero a typed nested short = absurd nested
  array_back (suc room) (array_value vs unknown) typed nested short =
      array_opened room no_array (array_text (array_value vs unknown))
      ∙ whole (then (values_taken room vs no_values typed nested.0) (kept_taken known_of_array keep_array room (array_value vs) (λ u s. refl) unknown nested.1)) short

  values_taken : (room : ℕ) (vs ws : AnyValues) → TypedValues vs → NestedValues room vs → Taken (array_step (read_any room)) (100 - room) (array_value ws []) (values_text vs) (array_value (values_on ws vs) [])
  values_taken room no_values ws typed nested =
      subst (λ l. Taken (array_step (read_any room)) (100 - room) (array_value ws []) [] (array_value l [])) (sym (values_end ws)) (nothing (array_step (read_any room)) (100 - room) (array_value ws []))
  values_taken room (a_value v vs) ws typed nested =
      subst (λ l. Taken (array_step (read_any room)) (100 - room) (array_value ws []) (values_text (a_value v vs)) (array_value l [])) (push_on ws vs v)
      (then (bytes_taken (array_step (read_any room)) (100 - room) 1 refl (array_value ws []) (array_value (push_value ws v) []) (any_text v) (λ short. rw (any_back room v typed.0 nested.0 short) refl)) (values_taken room vs (push_value ws v) typed.1 nested.1))

  list_back : (room : ℕ) → Back (read_list room no_list) list_text TypedList (NestedList room)
  list_back zero l typed nested short = absurd nested
  list_back (suc room) (key_value_list ps unknown) typed nested short =
      list_opened room no_list (list_text (key_value_list ps unknown))
      ∙ whole (then (key_values_taken room ps no_key_values typed nested.0) (kept_taken known_of_list keep_list room (key_value_list ps) (λ u s. refl) unknown nested.1)) short

  key_values_taken : (room : ℕ) (ps qs : KeyValues) → TypedKeyValues ps → NestedKeyValues room ps → Taken (list_step (read_key_value room)) (100 - room) (key_value_list qs []) (key_values_text ps) (key_value_list (key_values_on qs ps) [])
  key_values_taken room no_key_values qs typed nested =
      subst (λ l. Taken (list_step (read_key_value room)) (100 - room) (key_value_list qs []) [] (key_value_list l [])) (sym (key_values_end qs)) (nothing (list_step (read_key_value room)) (100 - room) (key_value_list qs []))
  key_values_taken room (a_key_value p ps) qs typed nested =
      subst (λ l. Taken (list_step (read_key_value room)) (100 - room) (key_value_list qs []) (key_values_text (a_key_value p ps)) (key_value_list l [])) (push_key_on qs ps p)
      (then (bytes_taken (list_step (read_key_value room)) (100 - room) 1 refl (key_value_list qs []) (key_value_list (push_key_value qs p) []) (key_value_text p) (λ short. rw (key_value_back room p typed.0 nested.0 short) refl)) (key_values_taken room ps (push_key_value qs p) typed.1 nested.1))

  key_value_back : (room : ℕ) → Back (read_key_value room no_key_value) key_value_text TypedKeyValue (NestedKeyValue room)
  key_value_back zero p typed nested short = absurd nested
  key_value_back (suc room) (bare_key key unknown) typed nested short =
      key_value_opened room no_key_value (key_value_text (bare_key key unknown))
      ∙ whole (then (key_taken room key typed) (kept_taken known_of_key_value keep_key_value room (bare_key key) (λ u s. refl) unknown nested)) short
  key_value_back (suc room) (key_value key v unknown) typed nested short =
      key_value_opened room no_key_value (key_value_text (key_value key v unknown))
      ∙ whole (then (key_taken room key typed.0)
      (then (bytes_taken (key_value_step room) (100 - room) 2 refl (bare_key key []) (key_value key v []) (any_text v) (λ short'. rw (any_back room v typed.1 nested.0 short') refl))
      (kept_taken known_of_key_value keep_key_value room (key_value key v) (λ u s. refl) unknown nested.1))) short

-- an attribute of a message
pub attribute_back : (room : ℕ) → Back (read_with key_value_step room no_key_value) key_value_text TypedKeyValue (NestedKeyValue room)
attribute_back room p typed nested short = attribute_read room no_key_value (key_value_text p) ∙ key_value_back room p typed nested short
