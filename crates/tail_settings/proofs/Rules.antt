-- Only a text that is no TOML document has the fault that says so.
use Rattle.std.proofs.Common.{◌≡◌, ◌↔◌, ℕ, ◌^◌, ℤ, pos, negsuc, Bool, true, false, codes, List, [], ◌∷◌, ◌++◌, length, Option, Some, None, Result, Ok, Err, refl, nat_le, ◌&&◌}
use Rattle.std.specs.Prelude.{if◌then◌else◌}
use Rattle.std.specs.Str.{bytes_eq}
use Rattle.toml.specs.Data.{Data, Members, no_members, get_member, as_integer, as_str, as_array, as_table}
use Rattle.toml.specs.Parse.{parse_document}
use Rattle.tail_settings.specs.Batch.{is_max_size, batch_of}
use Rattle.tail_settings.specs.Fault.{FaultData, not_toml, missing_key, wrong_kind, out_of_range, double_tenant, too_many, ◌>>=◌}
use Rattle.tail_settings.specs.Global.{global_of}
use Rattle.tail_settings.specs.Keys.{required, of_kind, allowed, in_range, number_or, number_at, integer_at, required_number_at, text_or, text_or_at, text_at, table_or, table_at, are_all, all_of, array_at, tables_at, texts_at, not_empty, some_tables_at, some_texts_at, at_most, each}
use Rattle.tail_settings.specs.Policy as status
use Rattle.tail_settings.specs.Policy.{unset, error, always_sample, latency, status_code, string_attribute, numeric_attribute, PolicyData, leaf, and, latency_of, status_of, status_code_of, values_of, string_attribute_of, numeric_attribute_of, leaf_of_type, leaf_of, and_of, policy_of, leaves_of, few_leaves, policies_of}
use Rattle.tail_settings.specs.RetryOnFailure.{retry_of}
use Rattle.tail_settings.specs.Section.{section_of}
use Rattle.tail_settings.specs.SendingQueue.{sending_queue_of}
use Rattle.tail_settings.specs.Settings.{TenantData, name_of, numbered_tenant, tenant_of, tenants_of, spans_of, few_spans, settings_of_table, document_in, settings_of}
use Rattle.tail_settings.specs.TailSampling.{tail_sampling_of}
use Rattle.tail_settings.specs.Texts.{is_name, is_address, is_header, is_attribute_key, address_at, header_at, attribute_key_at}

abbrev pub IsToml : {A : Type 0} → Result A FaultData → Type 0
IsToml r = r ≡ Err not_toml → ⊥

bind : {A B : Type 0} (m : Result A FaultData) (k : A → Result B FaultData) → IsToml m → ((x : A) → IsToml (k x)) → IsToml (m >>= k)
bind (Ok x) k a b = b x
bind (Err e) k a b = λ h. a (let same : e ≡ not_toml = cc in rw same)

choice : {A : Type 0} (b : Bool) (x y : Result A FaultData) → IsToml x → IsToml y → IsToml (if b then x else y)
choice true x y p q = p
choice false x y p q = q

ok : {A : Type 0} (x : A) → IsToml (Ok x)
ok x = λ h. cc

required-toml : (key : List ℕ) (o : Option Data) → IsToml (required key o)
required-toml key None = λ h. cc
required-toml key (Some d) = λ h. cc

of_kind-toml : {A : Type 0} (key : List ℕ) (o : Option A) → IsToml (of_kind key o)
of_kind-toml key None = λ h. cc
of_kind-toml key (Some x) = λ h. cc

out : {A : Type 0} (key : List ℕ) → IsToml {A = A} (Err (out_of_range key))
out key = λ h. cc

in_range-toml : (key : List ℕ) (low high : ℕ) (z : ℤ) → IsToml (in_range key low high z)
in_range-toml key low high (pos n) = choice (nat_le low n && nat_le n high) (Ok n) (Err (out_of_range key)) (ok n) (out key)
in_range-toml key low high (negsuc n) = out key

number_or-toml : (key : List ℕ) (low high default : ℕ) (o : Option Data) → IsToml (number_or key low high default o)
number_or-toml key low high default None = ok default
number_or-toml key low high default (Some d) = bind (of_kind key (as_integer d)) (in_range key low high) (of_kind-toml key (as_integer d)) (in_range-toml key low high)

number_at-toml : (key : List ℕ) (low high default : ℕ) (table : Members) → IsToml (number_at key low high default table)
unfolding number_at
number_at-toml key low high default table = number_or-toml key low high default (get_member key table)

number : {B : Type 0} (key : List ℕ) (low high default : ℕ) (table : Members) {k : ℕ → Result B FaultData} → ((n : ℕ) → IsToml (k n)) → IsToml (number_at key low high default table >>= k)
number key low high default table {k} h = bind (number_at key low high default table) k (number_at-toml key low high default table) h

integer_at-toml : (key : List ℕ) (table : Members) → IsToml (integer_at key table)
unfolding integer_at
integer_at-toml key table = bind (required key (get_member key table)) (λ d. of_kind key (as_integer d)) (required-toml key (get_member key table)) (λ d. of_kind-toml key (as_integer d))

required_number_at-toml : (key : List ℕ) (low high : ℕ) (table : Members) → IsToml (required_number_at key low high table)
unfolding required_number_at
required_number_at-toml key low high table = bind (integer_at key table) (in_range key low high) (integer_at-toml key table) (in_range-toml key low high)

text_or-toml : (key default : List ℕ) (o : Option Data) → IsToml (text_or key default o)
text_or-toml key default None = ok default
text_or-toml key default (Some d) = of_kind-toml key (as_str d)

text_or_at-toml : (key default : List ℕ) (table : Members) → IsToml (text_or_at key default table)
unfolding text_or_at
text_or_at-toml key default table = text_or-toml key default (get_member key table)

text_at-toml : (key : List ℕ) (table : Members) → IsToml (text_at key table)
unfolding text_at
text_at-toml key table = bind (required key (get_member key table)) (λ d. of_kind key (as_str d)) (required-toml key (get_member key table)) (λ d. of_kind-toml key (as_str d))

allowed-toml : {A : Type 0} (key : List ℕ) (test : A → Bool) (x : A) → IsToml (allowed key test x)
allowed-toml key test x = choice (test x) (Ok x) (Err (out_of_range key)) (ok x) (out key)

table_or-toml : (key : List ℕ) (o : Option Data) → IsToml (table_or key o)
table_or-toml key None = λ h. cc
table_or-toml key (Some d) = of_kind-toml key (as_table d)

table_at-toml : (key : List ℕ) (table : Members) → IsToml (table_at key table)
unfolding table_at
table_at-toml key table = table_or-toml key (get_member key table)

array_at-toml : {A : Type 0} (kind : Data → Option A) (other : A) (key : List ℕ) (table : Members) → IsToml (array_at kind other key table)
array_at-toml kind other key table =
    bind (required key (get_member key table)) _ (required-toml key (get_member key table)) (λ d.
    bind (of_kind key (as_array d)) _ (of_kind-toml key (as_array d)) (λ items.
    choice (are_all kind items) (Ok (all_of kind other items)) (Err (wrong_kind key)) (ok (all_of kind other items)) (λ h. cc)))

tables_at-toml : (key : List ℕ) (table : Members) → IsToml (tables_at key table)
unfolding tables_at
tables_at-toml key table = array_at-toml as_table no_members key table

texts_at-toml : (key : List ℕ) (table : Members) → IsToml (texts_at key table)
unfolding texts_at
texts_at-toml key table = array_at-toml as_str [] key table

not_empty-toml : {A : Type 0} (fault : FaultData) (xs : List A) → (fault ≡ not_toml → ⊥) → IsToml (not_empty fault xs)
not_empty-toml fault [] h = λ e. h cc
not_empty-toml fault (x ∷ xs) h = ok (x ∷ xs)

some_tables_at-toml : (key : List ℕ) (table : Members) → IsToml (some_tables_at key table)
unfolding some_tables_at
some_tables_at-toml key table = bind (tables_at key table) _ (tables_at-toml key table) (λ found. not_empty-toml (out_of_range key) found (λ h. cc))

some_texts_at-toml : (key : List ℕ) (table : Members) → IsToml (some_texts_at key table)
unfolding some_texts_at
some_texts_at-toml key table = bind (texts_at key table) _ (texts_at-toml key table) (λ found. not_empty-toml (out_of_range key) found (λ h. cc))

each-toml : {A B : Type 0} (read : List B → A → Result B FaultData) → ((before : List B) (x : A) → IsToml (read before x)) → (before : List B) (xs : List A) → IsToml (each read before xs)
each-toml read h before [] = ok before
each-toml read h before (x ∷ xs) = bind (read before x) (λ y. each read (before ++ y ∷ []) xs) (h before x) (λ y. each-toml read h (before ++ y ∷ []) xs)

address_at-toml : (key default : List ℕ) (table : Members) → IsToml (address_at key default table)
unfolding address_at
address_at-toml key default table = bind (text_or_at key default table) _ (text_or_at-toml key default table) (allowed-toml key is_address)

header_at-toml : (key default : List ℕ) (table : Members) → IsToml (header_at key default table)
unfolding header_at
header_at-toml key default table = bind (text_or_at key default table) _ (text_or_at-toml key default table) (allowed-toml key is_header)

attribute_key_at-toml : (key : List ℕ) (table : Members) → IsToml (attribute_key_at key table)
unfolding attribute_key_at
attribute_key_at-toml key table = bind (text_at key table) _ (text_at-toml key table) (allowed-toml key is_attribute_key)

latency_of-toml : (table : Members) → IsToml (latency_of table)
latency_of-toml table = bind (required_number_at (codes "threshold_ms") 0 (2 ^ 40) table) _ (required_number_at-toml (codes "threshold_ms") 0 (2 ^ 40) table) (λ threshold. ok (latency threshold))

status_of-toml : (name : List ℕ) → IsToml (status_of name)
status_of-toml name =
    choice (bytes_eq name (codes "UNSET")) _ _ (ok unset)
    (choice (bytes_eq name (codes "OK")) _ _ (ok status.ok)
    (choice (bytes_eq name (codes "ERROR")) _ _ (ok error)
    (out (codes "status_codes"))))

status_code_of-toml : (table : Members) → IsToml (status_code_of table)
unfolding status_code_of
status_code_of-toml table =
    bind (some_texts_at (codes "status_codes") table) _ (some_texts_at-toml (codes "status_codes") table) (λ names.
    bind (each (λ _. status_of) [] names) _ (each-toml (λ _. status_of) (λ _. status_of-toml) [] names) (λ statuses. ok (status_code statuses)))

values_of-toml : (table : Members) → IsToml (values_of table)
unfolding values_of
values_of-toml table =
    bind (some_texts_at (codes "values") table) _ (some_texts_at-toml (codes "values") table) (λ values.
    choice (nat_le (length values) 64) (Ok values) (Err (out_of_range (codes "values"))) (ok values) (out (codes "values")))

string_attribute_of-toml : (table : Members) → IsToml (string_attribute_of table)
unfolding string_attribute_of
string_attribute_of-toml table =
    bind (attribute_key_at (codes "key") table) _ (attribute_key_at-toml (codes "key") table) (λ key.
    bind (values_of table) _ (values_of-toml table) (λ values. ok (string_attribute key values)))

numeric_attribute_of-toml : (table : Members) → IsToml (numeric_attribute_of table)
unfolding numeric_attribute_of
numeric_attribute_of-toml table =
    bind (attribute_key_at (codes "key") table) _ (attribute_key_at-toml (codes "key") table) (λ key.
    bind (integer_at (codes "min_value") table) _ (integer_at-toml (codes "min_value") table) (λ low.
    bind (integer_at (codes "max_value") table) _ (integer_at-toml (codes "max_value") table) (λ high. ok (numeric_attribute key low high))))

leaf_of_type-toml : (type : List ℕ) (table : Members) → IsToml (leaf_of_type type table)
unfolding leaf_of_type
leaf_of_type-toml type table =
    choice (bytes_eq type (codes "always_sample")) _ _ (ok always_sample)
    (choice (bytes_eq type (codes "latency")) _ _ (latency_of-toml table)
    (choice (bytes_eq type (codes "status_code")) _ _ (status_code_of-toml table)
    (choice (bytes_eq type (codes "string_attribute")) _ _ (string_attribute_of-toml table)
    (choice (bytes_eq type (codes "numeric_attribute")) _ _ (numeric_attribute_of-toml table)
    (out (codes "type"))))))

leaf_of-toml : (table : Members) → IsToml (leaf_of table)
unfolding leaf_of
leaf_of-toml table = bind (text_at (codes "type") table) _ (text_at-toml (codes "type") table) (λ type. leaf_of_type-toml type table)

and_of-toml : (table : Members) → IsToml (and_of table)
unfolding and_of
and_of-toml table =
    bind (some_tables_at (codes "and_sub_policy") table) _ (some_tables_at-toml (codes "and_sub_policy") table) (λ tables.
    bind (each (λ _. leaf_of) [] tables) _ (each-toml (λ _. leaf_of) (λ _. leaf_of-toml) [] tables) (λ chosen. ok (and chosen)))

policy_of-toml : (table : Members) → IsToml (policy_of table)
unfolding policy_of
policy_of-toml table =
    bind (text_at (codes "type") table) _ (text_at-toml (codes "type") table) (λ type.
    choice (bytes_eq type (codes "and")) _ _ (and_of-toml table)
    (bind (leaf_of_type type table) _ (leaf_of_type-toml type table) (λ l. ok (leaf l))))

few_leaves-toml : (ps : List PolicyData) → IsToml (few_leaves ps)
few_leaves-toml ps = choice (nat_le (leaves_of ps) 64) (Ok ps) (Err too_many) (ok ps) (λ h. cc)

policies_of-toml : (sampling : Members) → IsToml (policies_of sampling)
unfolding policies_of
policies_of-toml sampling =
    bind (some_tables_at (codes "policy") sampling) _ (some_tables_at-toml (codes "policy") sampling) (λ tables.
    bind (each (λ _. policy_of) [] tables) _ (each-toml (λ _. policy_of) (λ _. policy_of-toml) [] tables) few_leaves-toml)

tail_sampling_of-toml : (tenant : Members) → IsToml (tail_sampling_of tenant)
unfolding tail_sampling_of
tail_sampling_of-toml tenant =
    bind (table_at (codes "tail_sampling") tenant) _ (table_at-toml (codes "tail_sampling") tenant) (λ sampling.
    number (codes "decision_wait_ms") 1 86400000 30000 sampling (λ decision_wait.
    number (codes "num_traces") 1 1000000 50000 sampling (λ num_traces.
    bind (table_at (codes "decision_cache") sampling) _ (table_at-toml (codes "decision_cache") sampling) (λ cache.
    number (codes "sampled_cache_size") 0 1000000 0 cache (λ sampled.
    number (codes "non_sampled_cache_size") 0 1000000 0 cache (λ non_sampled.
    bind (policies_of sampling) _ (policies_of-toml sampling) (λ policies. ok _)))))))

batch_of-toml : (tenant : Members) → IsToml (batch_of tenant)
unfolding batch_of
batch_of-toml tenant =
    bind (table_at (codes "batch") tenant) _ (table_at-toml (codes "batch") tenant) (λ batch.
    number (codes "send_batch_size") 1 1000000 8192 batch (λ size.
    number (codes "timeout_ms") 0 86400000 200 batch (λ timeout.
    number (codes "send_batch_max_size") 0 1000000 0 batch (λ found.
    bind (allowed (codes "send_batch_max_size") (is_max_size size) found) _ (allowed-toml (codes "send_batch_max_size") (is_max_size size) found) (λ max_size. ok _)))))

sending_queue_of-toml : (tenant : Members) → IsToml (sending_queue_of tenant)
unfolding sending_queue_of
sending_queue_of-toml tenant =
    bind (table_at (codes "sending_queue") tenant) _ (table_at-toml (codes "sending_queue") tenant) (λ queue.
    number (codes "queue_size") 1 100000 1000 queue (λ queue_size.
    number (codes "num_consumers") 1 1000 10 queue (λ num_consumers. ok _)))

retry_of-toml : (tenant : Members) → IsToml (retry_of tenant)
unfolding retry_of
retry_of-toml tenant =
    bind (table_at (codes "retry_on_failure") tenant) _ (table_at-toml (codes "retry_on_failure") tenant) (λ retry.
    number (codes "initial_interval_ms") 1 86400000 5000 retry (λ initial_interval.
    number (codes "max_interval_ms") 1 86400000 30000 retry (λ max_interval.
    number (codes "max_elapsed_time_ms") 0 (2 ^ 40) 300000 retry (λ max_elapsed_time.
    number (codes "multiplier") 1000 100000 1500 retry (λ multiplier.
    number (codes "randomization_factor") 0 1000 500 retry (λ randomization_factor. ok _))))))

section_of-toml : (tenant : Members) → IsToml (section_of tenant)
unfolding section_of
section_of-toml tenant =
    bind (address_at (codes "endpoint") (codes "127.0.0.1:4319") tenant) _ (address_at-toml (codes "endpoint") (codes "127.0.0.1:4319") tenant) (λ endpoint.
    number (codes "max_spans") 1 (2 ^ 31) 100000 tenant (λ max_spans.
    number (codes "seed") 0 (2 ^ 62) 0 tenant (λ seed.
    bind (tail_sampling_of tenant) _ (tail_sampling_of-toml tenant) (λ tail_sampling.
    bind (batch_of tenant) _ (batch_of-toml tenant) (λ batch.
    bind (sending_queue_of tenant) _ (sending_queue_of-toml tenant) (λ sending_queue.
    bind (retry_of tenant) _ (retry_of-toml tenant) (λ retry_on_failure. ok _)))))))

name_of-toml : (before : List TenantData) (table : Members) → IsToml (name_of before table)
unfolding name_of
name_of-toml before table =
    bind (text_at (codes "name") table) _ (text_at-toml (codes "name") table) (λ text.
    bind (allowed (codes "name") is_name text) _ (allowed-toml (codes "name") is_name text) (λ name.
    choice _ (Err (double_tenant name)) (Ok name) (λ h. cc) (ok name)))

tenant_of-toml : (before : List TenantData) (table : Members) → IsToml (tenant_of before table)
unfolding numbered_tenant
tenant_of-toml before table =
    bind (name_of before table) _ (name_of-toml before table) (λ name.
    bind (section_of table) _ (section_of-toml table) (λ section. ok _))

tenants_of-toml : (document : Members) → IsToml (tenants_of document)
unfolding tenants_of
tenants_of-toml document =
    bind (tables_at (codes "tenant") document) _ (tables_at-toml (codes "tenant") document) (λ found.
    bind (not_empty (missing_key (codes "tenant")) found) _ (not_empty-toml (missing_key (codes "tenant")) found (λ h. cc)) (λ some.
    bind (at_most 1000 too_many some) _ (choice (nat_le (length some) 1000) (Ok some) (Err too_many) (ok some) (λ h. cc)) (λ tables.
    each-toml tenant_of tenant_of-toml [] tables)))

few_spans-toml : (tenants : List TenantData) → IsToml (few_spans tenants)
few_spans-toml tenants = choice (nat_le (spans_of tenants) (2 ^ 31)) (Ok tenants) (Err too_many) (ok tenants) (λ h. cc)

global_of-toml : (document : Members) → IsToml (global_of document)
unfolding global_of
global_of-toml document =
    bind (table_at (codes "global") document) _ (table_at-toml (codes "global") document) (λ global.
    number (codes "shards") 1 64 1 global (λ shards.
    number (codes "parts") 1 16 2 global (λ parts.
    number (codes "receivers") 1 64 4 global (λ receivers.
    number (codes "senders") 1 64 4 global (λ senders.
    number (codes "lane_size") 1 4096 64 global (λ lane_size.
    bind (address_at (codes "listen") (codes "127.0.0.1:4318") global) _ (address_at-toml (codes "listen") (codes "127.0.0.1:4318") global) (λ listen.
    bind (header_at (codes "tenant_header") (codes "x-scope-orgid") global) _ (header_at-toml (codes "tenant_header") (codes "x-scope-orgid") global) (λ tenant_header. ok _))))))))

settings_of_table-toml : (document : Members) → IsToml (settings_of_table document)
unfolding settings_of_table
settings_of_table-toml document =
    bind (global_of document) _ (global_of-toml document) (λ global.
    bind (tenants_of document) _ (tenants_of-toml document) (λ found.
    bind (few_spans found) _ (few_spans-toml found) (λ tenants. ok _)))

document_in-not_toml : (o : Option Members) → ((document_in o >>= settings_of_table) ≡ Err not_toml) ↔ (o ≡ None)
document_in-not_toml None = (λ _. refl, λ _. refl)
document_in-not_toml (Some document) = (λ h. absurd (settings_of_table-toml document h), λ h. cc)

pub settings_of-not_toml : (text : List ℕ) → (settings_of text ≡ Err not_toml) ↔ (parse_document text ≡ None)
unfolding settings_of
settings_of-not_toml text = document_in-not_toml (parse_document text)
