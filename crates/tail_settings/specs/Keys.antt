-- The keys of a table: kinds, ranges and defaults, the same for all settings. Values are those of TOML 1.1 (toml.io),
-- as the library `toml` reads them; an array that mixes kinds, which TOML allows, is refused.
use Rattle.std.specs.Prelude.{String, ℕ, ◌≤◌, ℤ, pos, negsuc, Bool, true, ◌&&◌, List, [], ◌∷◌, ◌++◌, length, Option, Some, None, Result, Ok, Err, is_some, unwrap_or, nat_le, if◌then◌else◌}
use Rattle.std.specs.Borrow.{Bor}
use Rattle.std.specs.BTreeMap.{BTreeMap}
use Rattle.std.specs.declared.alloc.Global.{Global}
use Rattle.toml.specs.declared.value.Value.{Value}
use Rattle.toml.specs.View.{table_view}
use Rattle.toml.specs.Data.{Data, Items, no_items, item, Members, no_members, get_member, as_integer, as_str, as_array, as_table}
use Rattle.tail_settings.specs.Fault.{FaultData, missing_key, wrong_kind, out_of_range, ◌>>=◌}

-- the keys of a table that may be missing
abbrev pub keys_of : Option (Bor (BTreeMap (String Global) Value)) → Members
keys_of None = no_members
keys_of (Some table) = table_view table.now

-- a key that has to be there
abbrev pub required : List ℕ → Option Data → Result Data FaultData
required key None = Err (missing_key key)
required key (Some d) = Ok d

-- a value of the kind that the key asks for
abbrev pub of_kind : {A : Type 0} → List ℕ → Option A → Result A FaultData
of_kind key None = Err (wrong_kind key)
of_kind key (Some x) = Ok x

-- a value that passes the key's test
abbrev pub allowed : {A : Type 0} → List ℕ → (A → Bool) → A → Result A FaultData
allowed key test x = if test x then Ok x else Err (out_of_range key)

-- a number from low to high
abbrev pub IsFrom : ℕ → ℕ → ℕ → Type 0
IsFrom low high n = (low ≤ n) × (n ≤ high)

-- a whole number from low to high
abbrev pub in_range : List ℕ → ℕ → ℕ → ℤ → Result ℕ FaultData
in_range key low high (pos n) = if nat_le low n && nat_le n high then Ok n else Err (out_of_range key)
in_range key low high (negsuc n) = Err (out_of_range key)

-- a value as a whole number from low to high, or the default where there is none
abbrev pub number_or : List ℕ → ℕ → ℕ → ℕ → Option Data → Result ℕ FaultData
number_or key low high default None = Ok default
number_or key low high default (Some d) = of_kind key (as_integer d) >>= λ z. in_range key low high z

-- the whole number at a key, from low to high, or the default
unfoldable pub number_at : List ℕ → ℕ → ℕ → ℕ → Members → Result ℕ FaultData
number_at key low high default table = number_or key low high default (get_member key table)

-- the whole number at a key that has to be there, of either sign
unfoldable pub integer_at : List ℕ → Members → Result ℤ FaultData
integer_at key table = do
  d ← required key (get_member key table)
  of_kind key (as_integer d)

-- the whole number at a key that has to be there, from low to high
unfoldable pub required_number_at : List ℕ → ℕ → ℕ → Members → Result ℕ FaultData
required_number_at key low high table = do
  z ← integer_at key table
  in_range key low high z

-- a value as a text, or the default where there is none
abbrev pub text_or : List ℕ → List ℕ → Option Data → Result (List ℕ) FaultData
text_or key default None = Ok default
text_or key default (Some d) = of_kind key (as_str d)

-- the text at a key, or the default
unfoldable pub text_or_at : List ℕ → List ℕ → Members → Result (List ℕ) FaultData
text_or_at key default table = text_or key default (get_member key table)

-- the text at a key that has to be there
unfoldable pub text_at : List ℕ → Members → Result (List ℕ) FaultData
text_at key table = do
  d ← required key (get_member key table)
  of_kind key (as_str d)

-- a value as a table, or one without keys where there is none
abbrev pub table_or : List ℕ → Option Data → Result Members FaultData
table_or key None = Ok no_members
table_or key (Some d) = of_kind key (as_table d)

-- the table at a key; a missing one has no keys, so that its own keys are missing or have their defaults
unfoldable pub table_at : List ℕ → Members → Result Members FaultData
table_at key table = table_or key (get_member key table)

-- whether all members of an array are of one kind
abbrev pub are_all : {A : Type 0} → (Data → Option A) → Items → Bool
are_all kind no_items = true
are_all kind (item d ds) = is_some (kind d) && are_all kind ds

-- the members of an array that holds nothing but values of one kind
abbrev pub all_of : {A : Type 0} → (Data → Option A) → A → Items → List A
all_of kind other no_items = []
all_of kind other (item d ds) = unwrap_or (kind d) other ∷ all_of kind other ds

-- the array of one kind at a key that has to be there; a member of another kind is a value of another kind
abbrev pub array_at : {A : Type 0} → (Data → Option A) → A → List ℕ → Members → Result (List A) FaultData
array_at kind other key table = do
  d ← required key (get_member key table)
  items ← of_kind key (as_array d)
  if are_all kind items then Ok (all_of kind other items) else Err (wrong_kind key)

-- the tables of an array of tables
abbrev pub tables_in : Items → List Members
tables_in = all_of as_table no_members

-- the texts of an array of texts
abbrev pub texts_in : Items → List (List ℕ)
texts_in = all_of as_str []

-- the array of tables at a key that has to be there
unfoldable pub tables_at : List ℕ → Members → Result (List Members) FaultData
tables_at = array_at as_table no_members

-- the array of texts at a key that has to be there
unfoldable pub texts_at : List ℕ → Members → Result (List (List ℕ)) FaultData
texts_at = array_at as_str []

-- a list that isn't empty
abbrev pub not_empty : {A : Type 0} → FaultData → List A → Result (List A) FaultData
not_empty fault [] = Err fault
not_empty fault (x ∷ xs) = Ok (x ∷ xs)

-- an array of tables, one or more
unfoldable pub some_tables_at : List ℕ → Members → Result (List Members) FaultData
some_tables_at key table = do
  found ← tables_at key table
  not_empty (out_of_range key) found

-- an array of texts, one or more
unfoldable pub some_texts_at : List ℕ → Members → Result (List (List ℕ)) FaultData
some_texts_at key table = do
  found ← texts_at key table
  not_empty (out_of_range key) found

-- a list that isn't longer than this
abbrev pub at_most : {A : Type 0} → ℕ → FaultData → List A → Result (List A) FaultData
at_most limit fault xs = if nat_le (length xs) limit then Ok xs else Err fault

-- the members one by one, each read in view of what was read before it
abbrev pub each : {A B : Type 0} → (List B → A → Result B FaultData) → List B → List A → Result (List B) FaultData
each read before [] = Ok before
each read before (x ∷ xs) = read before x >>= λ y. each read (before ++ y ∷ []) xs
