-- A message with room for its level is a walk over its fields.
use Rattle.std.proofs.Common.{◌≡◌, ℕ, zero, suc, ◌-◌, ◌<◌, List, refl, arith}
use Rattle.otlp_trace.specs.Data.{AnyValueData, ArrayValueData, KeyValueListData, KeyValueData}
use Rattle.otlp_read.specs.AnyValue.{any_step, array_step, list_step, key_value_step_of, key_value_step, read_any, read_array, read_list, read_key_value}
use Rattle.otlp_read.specs.Walk.{Step, walk, read_with}

less : (room : ℕ) → suc room - 1 ≡ room
less room = omega arith

depth : (room : ℕ) → 101 - suc room ≡ 100 - room
depth room = omega arith

pub opened : {A : Type 0} (step : ℕ → Step A) (room : ℕ) (v : A) (bs : List ℕ) → 0 < room → read_with step room v bs ≡ walk (step (room - 1)) (101 - room) v bs
unfolding read_with
opened step zero v bs some = absurd (omega arith)
opened step (suc room) v bs some = rw (less room, depth room) refl

pub opened_at : {A : Type 0} (step : ℕ → Step A) (room : ℕ) (v : A) (bs : List ℕ) → read_with step (suc room) v bs ≡ walk (step room) (100 - room) v bs
unfolding read_with
opened_at step room v bs = refl

-- ---- attribute values

pub any_opened : (room : ℕ) (v : AnyValueData) (bs : List ℕ) → read_any (suc room) v bs ≡ walk (any_step (read_array room) (read_list room)) (100 - room) v bs
unfolding read_any
any_opened room v bs = refl

pub array_opened : (room : ℕ) (a : ArrayValueData) (bs : List ℕ) → read_array (suc room) a bs ≡ walk (array_step (read_any room)) (100 - room) a bs
unfolding read_any
array_opened room a bs = refl

pub list_opened : (room : ℕ) (l : KeyValueListData) (bs : List ℕ) → read_list (suc room) l bs ≡ walk (list_step (read_key_value room)) (100 - room) l bs
unfolding read_any
list_opened room l bs = refl

pub key_value_opened : (room : ℕ) (p : KeyValueData) (bs : List ℕ) → read_key_value (suc room) p bs ≡ walk (key_value_step room) (100 - room) p bs
unfolding read_any
key_value_opened room p bs = refl

pub opened_any : (room : ℕ) (v : AnyValueData) (bs : List ℕ) → 0 < room → read_any room v bs ≡ walk (any_step (read_array (room - 1)) (read_list (room - 1))) (101 - room) v bs
opened_any zero v bs some = absurd (omega arith)
opened_any (suc room) v bs some = rw (less room, depth room) (any_opened room v bs)

pub opened_array : (room : ℕ) (v : ArrayValueData) (bs : List ℕ) → 0 < room → read_array room v bs ≡ walk (array_step (read_any (room - 1))) (101 - room) v bs
opened_array zero v bs some = absurd (omega arith)
opened_array (suc room) v bs some = rw (less room, depth room) (array_opened room v bs)

pub opened_list : (room : ℕ) (v : KeyValueListData) (bs : List ℕ) → 0 < room → read_list room v bs ≡ walk (list_step (read_key_value (room - 1))) (101 - room) v bs
opened_list zero v bs some = absurd (omega arith)
opened_list (suc room) v bs some = rw (less room, depth room) (list_opened room v bs)

pub opened_key_value : (room : ℕ) (v : KeyValueData) (bs : List ℕ) → 0 < room → read_key_value room v bs ≡ walk (key_value_step_of (read_any (room - 1))) (101 - room) v bs
opened_key_value zero v bs some = absurd (omega arith)
opened_key_value (suc room) v bs some = rw (less room, depth room) (key_value_opened room v bs)

-- an attribute is read as any message is
pub attribute_read : (room : ℕ) (p : KeyValueData) (bs : List ℕ) → read_with key_value_step room p bs ≡ read_key_value room p bs
unfolding read_with read_any
attribute_read zero p bs = refl
attribute_read (suc room) p bs = refl
