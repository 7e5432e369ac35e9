-- The policies by which a tenant keeps traces, and how one is read from its table. Types, their keys and the names of
-- the statuses are those of the Collector's tailsamplingprocessor (its README); there a type's keys stand in a table
-- of the type's name, here beside `type`.
use Rattle.std.specs.Prelude.{codes, ℕ, ℤ, ◌^◌, List, [], map, length, sum_by, Result, Ok, Err, nat_le, if◌then◌else◌, string_bytes}
use Rattle.std.specs.Str.{bytes_eq}
use Rattle.toml.specs.Data.{Members}
use Rattle.tail_settings.specs.declared.policy.StatusCode.{StatusCode}
use Rattle.tail_settings.specs.declared.policy.StatusCode.TheVariants as statuses
use Rattle.tail_settings.specs.declared.policy.LeafPolicy.{LeafPolicy}
use Rattle.tail_settings.specs.declared.policy.LeafPolicy.TheVariants as leaves
use Rattle.tail_settings.specs.declared.policy.PolicySpec.{PolicySpec}
use Rattle.tail_settings.specs.declared.policy.PolicySpec.TheVariants as policies
use Rattle.tail_settings.specs.Fault.{FaultData, out_of_range, too_many, ◌>>=◌}
use Rattle.tail_settings.specs.Keys.{integer_at, required_number_at, text_at, some_tables_at, some_texts_at, at_most, each}
use Rattle.tail_settings.specs.Texts.{attribute_key_at}

-- the code of a span's status (opentelemetry-proto, Status.StatusCode)
pub data StatusData : Type 0 where
  unset : StatusData
  ok : StatusData
  error : StatusData

-- a policy that holds no other, with its threshold in milliseconds, its codes, its key and texts, or its key and bounds
pub data LeafData : Type 0 where
  always_sample : LeafData
  latency : ℕ → LeafData
  status_code : List StatusData → LeafData
  string_attribute : List ℕ → List (List ℕ) → LeafData
  numeric_attribute : List ℕ → ℤ → ℤ → LeafData

-- a policy: one that holds no other, or several that all have to keep a trace
pub data PolicyData : Type 0 where
  leaf : LeafData → PolicyData
  and : List LeafData → PolicyData

-- what a Rust value says
abbrev pub status_view : StatusCode → StatusData
status_view statuses.Unset = unset
status_view statuses.Ok = ok
status_view statuses.Error = error

-- what a Rust value says
abbrev pub leaf_view : LeafPolicy → LeafData
leaf_view leaves.AlwaysSample = always_sample
leaf_view (leaves.Latency threshold) = latency threshold
leaf_view (leaves.StatusCode codes) = status_code (map status_view codes.items)
leaf_view (leaves.StringAttribute key values) = string_attribute (string_bytes key) (map string_bytes values.items)
leaf_view (leaves.NumericAttribute key low high) = numeric_attribute (string_bytes key) low high

-- what a Rust value says
abbrev pub policy_view : PolicySpec → PolicyData
policy_view (policies.Leaf l) = leaf (leaf_view l)
policy_view (policies.And ls) = and (map leaf_view ls.items)

-- the policy `latency`
abbrev pub latency_of : Members → Result LeafData FaultData
latency_of table = do
  threshold ← required_number_at (codes "threshold_ms") 0 (2 ^ 40) table
  Ok (latency threshold)

-- the status of this name
abbrev pub status_of : List ℕ → Result StatusData FaultData
status_of name =
    if bytes_eq name (codes "UNSET") then Ok unset
    else if bytes_eq name (codes "OK") then Ok ok
    else if bytes_eq name (codes "ERROR") then Ok error
    else Err (out_of_range (codes "status_codes"))

-- the policy `status_code`
unfoldable pub status_code_of : Members → Result LeafData FaultData
status_code_of table = do
  names ← some_texts_at (codes "status_codes") table
  statuses ← each (λ _. status_of) [] names
  Ok (status_code statuses)

-- the texts of which an attribute's value has to be one
unfoldable pub values_of : Members → Result (List (List ℕ)) FaultData
values_of table = do
  values ← some_texts_at (codes "values") table
  at_most 64 (out_of_range (codes "values")) values

-- the policy `string_attribute`
unfoldable pub string_attribute_of : Members → Result LeafData FaultData
string_attribute_of table = do
  key ← attribute_key_at (codes "key") table
  values ← values_of table
  Ok (string_attribute key values)

-- the policy `numeric_attribute`
unfoldable pub numeric_attribute_of : Members → Result LeafData FaultData
numeric_attribute_of table = do
  key ← attribute_key_at (codes "key") table
  low ← integer_at (codes "min_value") table
  high ← integer_at (codes "max_value") table
  Ok (numeric_attribute key low high)

-- a policy of this type that holds no other
unfoldable pub leaf_of_type : List ℕ → Members → Result LeafData FaultData
leaf_of_type type table =
    if bytes_eq type (codes "always_sample") then Ok always_sample
    else if bytes_eq type (codes "latency") then latency_of table
    else if bytes_eq type (codes "status_code") then status_code_of table
    else if bytes_eq type (codes "string_attribute") then string_attribute_of table
    else if bytes_eq type (codes "numeric_attribute") then numeric_attribute_of table
    else Err (out_of_range (codes "type"))

-- a policy's table that may hold no other
unfoldable pub leaf_of : Members → Result LeafData FaultData
leaf_of table = do
  type ← text_at (codes "type") table
  leaf_of_type type table

-- policies that all have to keep a trace, none of which holds others
unfoldable pub and_of : Members → Result PolicyData FaultData
and_of table = do
  tables ← some_tables_at (codes "and_sub_policy") table
  chosen ← each (λ _. leaf_of) [] tables
  Ok (and chosen)

-- a policy's table
unfoldable pub policy_of : Members → Result PolicyData FaultData
policy_of table = do
  type ← text_at (codes "type") table
  if bytes_eq type (codes "and") then and_of table else (leaf_of_type type table >>= λ l. Ok (leaf l))

-- how many policies that hold no other
abbrev pub leaf_count : PolicyData → ℕ
leaf_count (leaf l) = 1
leaf_count (and ls) = length ls

-- how many of them policies hold in all
abbrev pub leaves_of : List PolicyData → ℕ
leaves_of = sum_by leaf_count

-- policies that hold at most 64
abbrev pub few_leaves : List PolicyData → Result (List PolicyData) FaultData
few_leaves ps = if nat_le (leaves_of ps) 64 then Ok ps else Err too_many

-- one or more policies, and at most 64 that hold no other
unfoldable pub policies_of : Members → Result (List PolicyData) FaultData
policies_of sampling = do
  tables ← some_tables_at (codes "policy") sampling
  ps ← each (λ _. policy_of) [] tables
  few_leaves ps
