-- Attribute values, which may hold others: of the members of the value's oneof the last one wins, and a message member
-- that stands again with no other member between is merged (the proto3 language guide, "Oneof", and the encoding guide,
-- "Last One Wins").
use Rattle.std.specs.Prelude.{ℕ, zero, suc, ◌-◌, ◌==◌, if◌then◌else◌, List, [], ◌++◌, Some, None, Ok, Err}
use Rattle.pb_wire.specs.Grammar.{Varint, Eight, Bytes}
use Rattle.otlp_trace.specs.Data.{AnyValueData, any_value, KindData, unset, string, boolean, int, double, array, kvlist, bytes, ArrayValueData, array_value, AnyValues, no_values, a_value, KeyValueListData, key_value_list, KeyValueData, bare_key, key_value, KeyValues, no_key_values, a_key_value}
use Rattle.otlp_read.specs.declared.fault.ReadFault.TheVariants.{TooDeep}
use Rattle.otlp_read.specs.Numbers.{utf8, int64, bool}
use Rattle.otlp_read.specs.Walk.{◌>>=◌, Step, Reader, Known, known_or_kept, walk}

-- ---- the messages of no fields

-- a value with no member chosen
abbrev pub no_value : AnyValueData
no_value = any_value unset []

-- an array of no values
abbrev pub no_array : ArrayValueData
no_array = array_value no_values []

-- a list of no keys
abbrev pub no_list : KeyValueListData
no_list = key_value_list no_key_values []

-- a key with no value; the key is the empty string, proto3's default
abbrev pub no_key_value : KeyValueData
no_key_value = bare_key [] []

-- ---- a value of any kind

-- another member is chosen, and what isn't known stays
abbrev pub choose : KindData → AnyValueData → AnyValueData
choose kind (any_value old unknown) = any_value kind unknown

-- the member that is chosen
abbrev pub kind_of : AnyValueData → KindData
kind_of (any_value kind unknown) = kind

-- a field that a value doesn't know, behind those that it has kept
abbrev pub keep_any : AnyValueData → List ℕ → AnyValueData
keep_any (any_value kind unknown) spelled = any_value kind (unknown ++ spelled)

-- what a message member is merged into: the one that is chosen, if it is that member
abbrev pub array_in : KindData → ArrayValueData
array_in (array a) = a
array_in _ = no_array

-- a list, likewise
abbrev pub list_in : KindData → KeyValueListData
list_in (kvlist l) = l
list_in _ = no_list

-- the fields of `AnyValue`, by number and wire type
abbrev pub any_known : Reader ArrayValueData → Reader KeyValueListData → Known AnyValueData
any_known arrays lists v n (Varint x) =
    if n == 2 then Some (Ok (choose (boolean (bool x)) v))
    else if n == 3 then Some (Ok (choose (int (int64 x)) v))
    else None
any_known arrays lists v n (Eight bs) = if n == 4 then Some (Ok (choose (double bs) v)) else None
any_known arrays lists v n (Bytes bs) =
    if n == 1 then Some (utf8 bs >>= λ text. Ok (choose (string text) v))
    else if n == 5 then Some (arrays (array_in (kind_of v)) bs >>= λ a. Ok (choose (array a) v))
    else if n == 6 then Some (lists (list_in (kind_of v)) bs >>= λ l. Ok (choose (kvlist l) v))
    else if n == 7 then Some (Ok (choose (bytes bs) v))
    else None
any_known arrays lists v n _ = None

-- a value after one more field
abbrev pub any_step : Reader ArrayValueData → Reader KeyValueListData → Step AnyValueData
any_step arrays lists = known_or_kept (any_known arrays lists) keep_any

-- ---- an array

-- one more value behind the others
abbrev pub push_value : AnyValues → AnyValueData → AnyValues
push_value no_values v = a_value v no_values
push_value (a_value w ws) v = a_value w (push_value ws v)

-- an array with one more value
abbrev pub with_value : ArrayValueData → AnyValueData → ArrayValueData
with_value (array_value vs unknown) v = array_value (push_value vs v) unknown

-- a field that an array doesn't know
abbrev pub keep_array : ArrayValueData → List ℕ → ArrayValueData
keep_array (array_value vs unknown) spelled = array_value vs (unknown ++ spelled)

-- the field of `ArrayValue`, by number and wire type
abbrev pub array_known : Reader AnyValueData → Known ArrayValueData
array_known values a n (Bytes bs) = if n == 1 then Some (values no_value bs >>= λ v. Ok (with_value a v)) else None
array_known values a n _ = None

-- an array after one more field
abbrev pub array_step : Reader AnyValueData → Step ArrayValueData
array_step values = known_or_kept (array_known values) keep_array

-- ---- a list of keys with values

-- one more key with its value behind the others
abbrev pub push_key_value : KeyValues → KeyValueData → KeyValues
push_key_value no_key_values p = a_key_value p no_key_values
push_key_value (a_key_value q qs) p = a_key_value q (push_key_value qs p)

-- a list with one more key
abbrev pub with_key_value : KeyValueListData → KeyValueData → KeyValueListData
with_key_value (key_value_list ps unknown) p = key_value_list (push_key_value ps p) unknown

-- a field that a list doesn't know
abbrev pub keep_list : KeyValueListData → List ℕ → KeyValueListData
keep_list (key_value_list ps unknown) spelled = key_value_list ps (unknown ++ spelled)

-- the field of `KeyValueList`, by number and wire type
abbrev pub list_known : Reader KeyValueData → Known KeyValueListData
list_known key_values l n (Bytes bs) =
    if n == 1 then Some (key_values no_key_value bs >>= λ p. Ok (with_key_value l p)) else None
list_known key_values l n _ = None

-- a list after one more field
abbrev pub list_step : Reader KeyValueData → Step KeyValueListData
list_step key_values = known_or_kept (list_known key_values) keep_list

-- ---- a key with its value

-- another key
abbrev pub with_key : List ℕ → KeyValueData → KeyValueData
with_key key (bare_key old unknown) = bare_key key unknown
with_key key (key_value old v unknown) = key_value key v unknown

-- what its value is merged into: the one that stands, where one does
abbrev pub value_in : KeyValueData → AnyValueData
value_in (bare_key key unknown) = no_value
value_in (key_value key v unknown) = v

-- another value
abbrev pub with_its_value : AnyValueData → KeyValueData → KeyValueData
with_its_value v (bare_key key unknown) = key_value key v unknown
with_its_value v (key_value key old unknown) = key_value key v unknown

-- a field that isn't known
abbrev pub keep_key_value : KeyValueData → List ℕ → KeyValueData
keep_key_value (bare_key key unknown) spelled = bare_key key (unknown ++ spelled)
keep_key_value (key_value key v unknown) spelled = key_value key v (unknown ++ spelled)

-- the fields of `KeyValue`, by number and wire type
abbrev pub key_value_known : Reader AnyValueData → Known KeyValueData
key_value_known values p n (Bytes bs) =
    if n == 1 then Some (utf8 bs >>= λ key. Ok (with_key key p))
    else if n == 2 then Some (values (value_in p) bs >>= λ v. Ok (with_its_value v p))
    else None
key_value_known values p n _ = None

-- a key with its value after one more field
abbrev pub key_value_step_of : Reader AnyValueData → Step KeyValueData
key_value_step_of values = known_or_kept (key_value_known values) keep_key_value

-- The readers, with room for so many levels, their own among them: at depth d there is room for 101 - d.
unfoldable mutual
  -- a value, from the one that stands
  pub read_any : ℕ → Reader AnyValueData
  read_any zero v bs = Err TooDeep
  read_any (suc room) v bs = walk (any_step (read_array room) (read_list room)) (100 - room) v bs

  -- an array
  pub read_array : ℕ → Reader ArrayValueData
  read_array zero a bs = Err TooDeep
  read_array (suc room) a bs = walk (array_step (read_any room)) (100 - room) a bs

  -- a list of keys with values
  pub read_list : ℕ → Reader KeyValueListData
  read_list zero l bs = Err TooDeep
  read_list (suc room) l bs = walk (list_step (read_key_value room)) (100 - room) l bs

  -- a key with its value
  pub read_key_value : ℕ → Reader KeyValueData
  read_key_value zero p bs = Err TooDeep
  read_key_value (suc room) p bs = walk (key_value_step_of (read_any room)) (100 - room) p bs

-- the step of a value's reader, with room for so many levels below it
abbrev pub any_step_in : ℕ → Step AnyValueData
any_step_in room = any_step (read_array room) (read_list room)

-- of an array
abbrev pub array_step_in : ℕ → Step ArrayValueData
array_step_in room = array_step (read_any room)

-- of a list
abbrev pub list_step_in : ℕ → Step KeyValueListData
list_step_in room = list_step (read_key_value room)

-- an attribute's step, which is that of a key with its value
abbrev pub key_value_step : ℕ → Step KeyValueData
key_value_step room = key_value_step_of (read_any room)
