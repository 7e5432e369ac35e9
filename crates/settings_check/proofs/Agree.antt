-- Keys that a kind of table doesn't have mean nothing in it.
use Rattle.std.proofs.Common.{◌≡◌, codes, ℕ, Bool, true, false, List, Option, Some, None, Result, Ok, Err, refl, sym, ap}
use Rattle.std.specs.Prelude.{if◌then◌else◌, option_and_then}
use Rattle.std.specs.Str.{bytes_eq}
use Rattle.std.proofs.lemmas.Slice.Eq.{bytes_eq-Decides}
use Rattle.toml.specs.Data.{Data, string, integer, float, boolean, datetime, array, table, Members, get_member, as_str}
use Rattle.tail_settings.specs.Batch.{batch_of}
use Rattle.tail_settings.specs.Fault.{FaultData, out_of_range, ◌>>=◌}
use Rattle.tail_settings.specs.Global.{global_of}
use Rattle.tail_settings.specs.Keys.{number_at, integer_at, required_number_at, text_at, text_or_at, table_at, tables_at, texts_at, some_tables_at, some_texts_at}
use Rattle.tail_settings.specs.Policy.{LeafData, always_sample, leaf, latency_of, status_code_of, values_of, string_attribute_of, numeric_attribute_of, leaf_of_type, leaf_of, and_of, policy_of, policies_of}
use Rattle.tail_settings.specs.RetryOnFailure.{retry_of}
use Rattle.tail_settings.specs.Section.{section_of}
use Rattle.tail_settings.specs.SendingQueue.{sending_queue_of}
use Rattle.tail_settings.specs.Settings.{TenantData, name_of, numbered_tenant, tenant_of, tenants_of, settings_of_table}
use Rattle.tail_settings.specs.TailSampling.{tail_sampling_of}
use Rattle.tail_settings.specs.Texts.{address_at, header_at, attribute_key_at}
use Rattle.settings_check.specs.declared.table.TableKind.{TableKind}
use Rattle.settings_check.specs.declared.table.TableKind.TheVariants as kinds
use Rattle.settings_check.specs.Law.{Agree, ReadsAlike, holding, with_cache}
use Rattle.settings_check.specs.Table.{policy_kind}
use Rattle.settings_check.specs.Unknown.{kind_of}

pub document_alike : ReadsAlike kinds.Document settings_of_table
unfolding settings_of_table global_of tenants_of table_at tables_at
document_alike m n h = rw (h.0, h.1.0) refl

pub global_alike : ReadsAlike kinds.Global (λ t. global_of (holding (codes "global") t))
unfolding global_of table_at number_at address_at header_at text_or_at
global_alike m n h = rw (h.0, h.1.0, h.1.1.0, h.1.1.1.0, h.1.1.1.1.0, h.1.1.1.1.1.0, h.1.1.1.1.1.1.0) refl

pub tenant_alike : (before : List TenantData) → ReadsAlike kinds.Tenant (tenant_of before)
unfolding numbered_tenant name_of section_of tail_sampling_of batch_of sending_queue_of retry_of table_at text_at number_at address_at text_or_at
tenant_alike before m n h =
    rw (h.0, h.1.0, h.1.1.0, h.1.1.1.0, h.1.1.1.1.0, h.1.1.1.1.1.0, h.1.1.1.1.1.1.0, h.1.1.1.1.1.1.1.0) refl

pub sampling_alike : ReadsAlike kinds.TailSampling (λ t. tail_sampling_of (holding (codes "tail_sampling") t))
unfolding tail_sampling_of table_at number_at policies_of some_tables_at tables_at
sampling_alike m n h = rw (h.0, h.1.0, h.1.1.0, h.1.1.1.0) refl

pub cache_alike : (rest : Members) → ReadsAlike kinds.DecisionCache (λ t. tail_sampling_of (with_cache t rest))
unfolding tail_sampling_of table_at number_at policies_of some_tables_at tables_at
cache_alike rest m n h = rw (h.0, h.1.0) refl

pub batch_alike : ReadsAlike kinds.Batch (λ t. batch_of (holding (codes "batch") t))
unfolding batch_of table_at number_at
batch_alike m n h = rw (h.0, h.1.0, h.1.1.0) refl

pub queue_alike : ReadsAlike kinds.SendingQueue (λ t. sending_queue_of (holding (codes "sending_queue") t))
unfolding sending_queue_of table_at number_at
queue_alike m n h = rw (h.0, h.1.0) refl

pub retry_alike : ReadsAlike kinds.RetryOnFailure (λ t. retry_of (holding (codes "retry_on_failure") t))
unfolding retry_of table_at number_at
retry_alike m n h = rw (h.0, h.1.0, h.1.1.0, h.1.1.1.0, h.1.1.1.1.0) refl

-- ---- policies

latency_alike : ReadsAlike kinds.Latency latency_of
unfolding required_number_at integer_at
latency_alike m n h = rw (h.1.0) refl

status_code_alike : ReadsAlike kinds.StatusCode status_code_of
unfolding status_code_of some_texts_at texts_at
status_code_alike m n h = rw (h.1.0) refl

string_attribute_alike : ReadsAlike kinds.StringAttribute string_attribute_of
unfolding string_attribute_of attribute_key_at text_at values_of some_texts_at texts_at
string_attribute_alike m n h = rw (h.1.0, h.1.1.0) refl

numeric_attribute_alike : ReadsAlike kinds.NumericAttribute numeric_attribute_of
unfolding numeric_attribute_of attribute_key_at text_at integer_at
numeric_attribute_alike m n h = rw (h.1.0, h.1.1.0, h.1.1.1.0) refl

and_alike : ReadsAlike kinds.And and_of
unfolding and_of some_tables_at tables_at
and_alike m n h = rw (h.1.0) refl

-- the kind of a policy that is no `and`, by the tests of its type in turn
abbrev leaf_kind : Bool → Bool → Bool → Bool → Bool → TableKind
leaf_kind a b c d e =
    if a then kinds.AlwaysSample
    else if b then kinds.Latency
    else if c then kinds.StatusCode
    else if d then kinds.StringAttribute
    else if e then kinds.NumericAttribute
    else kinds.AnyPolicy

-- a policy that holds no other, by the same tests
abbrev read_leaf : Bool → Bool → Bool → Bool → Bool → Members → Result LeafData FaultData
read_leaf a b c d e m =
    if a then Ok always_sample
    else if b then latency_of m
    else if c then status_code_of m
    else if d then string_attribute_of m
    else if e then numeric_attribute_of m
    else Err (out_of_range (codes "type"))

read_leaf-alike : (a b c d e : Bool) (m n : Members) → Agree (leaf_kind a b c d e) m n → read_leaf a b c d e m ≡ read_leaf a b c d e n
read_leaf-alike true b c d e m n h = refl
read_leaf-alike false true c d e m n h = latency_alike m n h
read_leaf-alike false false true d e m n h = status_code_alike m n h
read_leaf-alike false false false true e m n h = string_attribute_alike m n h
read_leaf-alike false false false false true m n h = numeric_attribute_alike m n h
read_leaf-alike false false false false false m n h = refl

leaf_of_type-alike : (type : List ℕ) (m n : Members) → Agree (leaf_kind (bytes_eq type (codes "always_sample")) (bytes_eq type (codes "latency")) (bytes_eq type (codes "status_code")) (bytes_eq type (codes "string_attribute")) (bytes_eq type (codes "numeric_attribute"))) m n → leaf_of_type type m ≡ leaf_of_type type n
unfolding leaf_of_type
leaf_of_type-alike type m n h = read_leaf-alike (bytes_eq type (codes "always_sample")) (bytes_eq type (codes "latency")) (bytes_eq type (codes "status_code")) (bytes_eq type (codes "string_attribute")) (bytes_eq type (codes "numeric_attribute")) m n h

no_and : (m n : Members) → leaf_of_type (codes "and") m ≡ leaf_of_type (codes "and") n
unfolding leaf_of_type
no_and m n = refl

-- what a policy's type says of how it is read
abbrev Whole : List ℕ → Bool → Members → Members → Type 0
Whole type is_and m n = Agree (if is_and then kinds.And else leaf_kind (bytes_eq type (codes "always_sample")) (bytes_eq type (codes "latency")) (bytes_eq type (codes "status_code")) (bytes_eq type (codes "string_attribute")) (bytes_eq type (codes "numeric_attribute"))) m n

part_of_type : (type : List ℕ) (is_and : Bool) (m n : Members) → (is_and ≡ true → type ≡ codes "and") → Whole type is_and m n → leaf_of_type type m ≡ leaf_of_type type n
part_of_type type true m n same h = rw (same refl) (no_and m n)
part_of_type type false m n same h = leaf_of_type-alike type m n h

policy_of_type : (type : List ℕ) (is_and : Bool) (m n : Members) → Whole type is_and m n → (if is_and then and_of m else (leaf_of_type type m >>= λ l. Ok (leaf l))) ≡ (if is_and then and_of n else (leaf_of_type type n >>= λ l. Ok (leaf l)))
policy_of_type type true m n h = and_alike m n h
policy_of_type type false m n h = ap (λ r. r >>= λ l. Ok (leaf l)) (leaf_of_type-alike type m n h)

-- all kinds of policies have the key `type`
first_leaf_key : (a b c d e : Bool) (m n : Members) → Agree (leaf_kind a b c d e) m n → get_member (codes "type") m ≡ get_member (codes "type") n
first_leaf_key true b c d e m n h = h.0
first_leaf_key false true c d e m n h = h.0
first_leaf_key false false true d e m n h = h.0
first_leaf_key false false false true e m n h = h.0
first_leaf_key false false false false true m n h = h.0
first_leaf_key false false false false false m n h = h.0

first_key : (is_and a b c d e : Bool) (m n : Members) → Agree (if is_and then kinds.And else leaf_kind a b c d e) m n → get_member (codes "type") m ≡ get_member (codes "type") n
first_key true a b c d e m n h = h.0
first_key false a b c d e m n h = first_leaf_key a b c d e m n h

same_type : (o : Option Data) (m n : Members) → Agree (policy_kind (option_and_then as_str o)) m n → get_member (codes "type") m ≡ get_member (codes "type") n
same_type None m n h = h.0
same_type (Some (string t)) m n h = first_key (bytes_eq t (codes "and")) (bytes_eq t (codes "always_sample")) (bytes_eq t (codes "latency")) (bytes_eq t (codes "status_code")) (bytes_eq t (codes "string_attribute")) (bytes_eq t (codes "numeric_attribute")) m n h
same_type (Some (integer z)) m n h = h.0
same_type (Some (float x)) m n h = h.0
same_type (Some (boolean b)) m n h = h.0
same_type (Some (datetime d)) m n h = h.0
same_type (Some (array ds)) m n h = h.0
same_type (Some (table ms)) m n h = h.0

policy_with : (o : Option Data) (m n : Members) → get_member (codes "type") m ≡ o → get_member (codes "type") n ≡ o → Agree (policy_kind (option_and_then as_str o)) m n → policy_of m ≡ policy_of n
unfolding policy_of text_at
policy_with None m n a b h = rw (a, b) refl
policy_with (Some (string t)) m n a b h = rw (a, b) (policy_of_type t (bytes_eq t (codes "and")) m n h)
policy_with (Some (integer z)) m n a b h = rw (a, b) refl
policy_with (Some (float x)) m n a b h = rw (a, b) refl
policy_with (Some (boolean t)) m n a b h = rw (a, b) refl
policy_with (Some (datetime d)) m n a b h = rw (a, b) refl
policy_with (Some (array ds)) m n a b h = rw (a, b) refl
policy_with (Some (table ms)) m n a b h = rw (a, b) refl

part_with : (o : Option Data) (m n : Members) → get_member (codes "type") m ≡ o → get_member (codes "type") n ≡ o → Agree (policy_kind (option_and_then as_str o)) m n → leaf_of m ≡ leaf_of n
unfolding leaf_of text_at
part_with None m n a b h = rw (a, b) refl
part_with (Some (string t)) m n a b h = rw (a, b) (part_of_type t (bytes_eq t (codes "and")) m n (bytes_eq-Decides t (codes "and")).0 h)
part_with (Some (integer z)) m n a b h = rw (a, b) refl
part_with (Some (float x)) m n a b h = rw (a, b) refl
part_with (Some (boolean t)) m n a b h = rw (a, b) refl
part_with (Some (datetime d)) m n a b h = rw (a, b) refl
part_with (Some (array ds)) m n a b h = rw (a, b) refl
part_with (Some (table ms)) m n a b h = rw (a, b) refl

pub policy_alike : (m n : Members) → Agree (kind_of m) m n → policy_of m ≡ policy_of n
policy_alike m n h = let o = get_member (codes "type") m in policy_with o m n refl (sym (same_type o m n h)) h

pub part_alike : (m n : Members) → Agree (kind_of m) m n → leaf_of m ≡ leaf_of n
part_alike m n h = let o = get_member (codes "type") m in part_with o m n refl (sym (same_type o m n h)) h
