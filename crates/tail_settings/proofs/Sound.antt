-- The settings that a document means are sound.
use Rattle.std.proofs.Common.{◌≡◌, ◌≢◌, ℕ, ◌^◌, ℤ, pos, negsuc, zero, suc, ◌+◌, ◌<◌, ◌≤◌, Bool, true, false, codes, List, [], ◌∷◌, ◌++◌, length, get_or, Option, Some, None, Result, Ok, Err, refl, sym, ap, subst, ◌∙◌, nat_le, ◌&&◌, ◌||◌, arith, length-append, inl, inr}
use Rattle.std.specs.Prelude.{if◌then◌else◌, IsTrue, All}
use Rattle.std.specs.List.{list_any}
use Rattle.std.specs.Str.{bytes_eq}
use Rattle.std.proofs.lemmas.Bool.{and_parts, leb-true, cases_lt}
use Rattle.std.proofs.lemmas.List.{get_or_append_left, get_or_push, length_push}
use Rattle.std.proofs.lemmas.Bool.Decides.{not_from_Decides, nat_tests}
use Rattle.std.proofs.lemmas.Slice.Eq.{bytes_eq-Decides}
use Rattle.std.proofs.lemmas.List.Elements.{All-nil, All-push}
use Rattle.std.proofs.lemmas.List.Quantifiers.{all_pairs_push}
use Rattle.toml.specs.Data.{Data, Members, get_member, as_integer}
use Rattle.toml.specs.Parse.{parse_document}
use Rattle.tail_settings.specs.Batch.{BatchData, is_max_size, batch_of}
use Rattle.tail_settings.specs.Fault.{FaultData, missing_key, out_of_range, double_tenant, too_many, ◌>>=◌}
use Rattle.tail_settings.specs.Global.{GlobalData, global_of}
use Rattle.tail_settings.specs.Keys.{IsFrom, of_kind, allowed, in_range, number_or, number_at, integer_at, required_number_at, text_at, text_or_at, table_at, tables_at, not_empty, some_tables_at, some_texts_at, texts_at, at_most, each}
use Rattle.tail_settings.specs.Policy.{LeafData, always_sample, latency, status_code, string_attribute, numeric_attribute, PolicyData, leaf, and, latency_of, status_of, status_code_of, values_of, string_attribute_of, numeric_attribute_of, leaf_of_type, leaf_of, and_of, policy_of, leaves_of, policies_of}
use Rattle.tail_settings.specs.RetryOnFailure.{RetryData, retry_of}
use Rattle.tail_settings.specs.Section.{SectionData, section_of}
use Rattle.tail_settings.specs.SendingQueue.{SendingQueueData, most_queue_bytes, sending_queue_of}
use Rattle.tail_settings.specs.Settings.{TenantData, SettingsData, new_name, name_of, numbered_tenant, tenant_of, tenants_of, spans_of, few_spans, settings_of_table, document_in, settings_of}
use Rattle.tail_settings.specs.Valid.{IsValidGlobal, IsValidLeaf, IsValidPolicy, IsValidTailSampling, IsValidBatch, IsValidSendingQueue, IsValidRetry, IsValidSection, AreSoundTenants, AreByPlace, AreValidSettings}
use Rattle.tail_settings.specs.TailSampling.{TailSamplingData, tail_sampling_of}
use Rattle.tail_settings.specs.Texts.{is_name, is_address, is_header, is_attribute_key, address_at, header_at, attribute_key_at}

pub ok_is : {A : Type 0} (x y : A) → (let r : Result A FaultData = Ok x in r) ≡ Ok y → x ≡ y
ok_is x y h = cc

-- what was read before a result
pub bound : {A B : Type 0} (m : Result A FaultData) (k : A → Result B FaultData) (y : B) → (m >>= k) ≡ Ok y → (x : A) × (m ≡ Ok x) × (k x ≡ Ok y)
bound (Ok x) k y h = (x, refl, h)
bound (Err e) k y h = absurd (let no : ⊥ = cc in no)

pub chosen : {A : Type 0} (b : Bool) (x y : A) (fault : FaultData) → (if b then Ok x else Err fault) ≡ Ok y → (b ≡ true) × (x ≡ y)
chosen true x y fault h = (refl, cc)
chosen false x y fault h = absurd (let no : ⊥ = cc in no)

otherwise : {A : Type 0} (b : Bool) (x y : A) (fault : FaultData) → (if b then Err fault else Ok x) ≡ Ok y → (b ≡ false) × (x ≡ y)
otherwise true x y fault h = absurd (let no : ⊥ = cc in no)
otherwise false x y fault h = (refl, cc)

or_parts : (a b : Bool) → (a || b) ≡ false → (a ≡ false) × (b ≡ false)
or_parts true b h = absurd (let no : ⊥ = cc in no)
or_parts false b h = (refl, h)

bytes_eq-differs : (xs ys : List ℕ) → bytes_eq xs ys ≡ false → xs ≢ ys
bytes_eq-differs xs ys h = not_from_Decides (bytes_eq xs ys) (bytes_eq-Decides xs ys) h

within : (low high n : ℕ) → (nat_le low n && nat_le n high) ≡ true → (low ≤ n) × (n ≤ high)
within low high n h =
    let parts = and_parts (nat_le low n) (nat_le n high) h in
    (leb-true low n parts.0, leb-true n high parts.1)

in_range-within : (key : List ℕ) (low high : ℕ) (z : ℤ) (n : ℕ) → in_range key low high z ≡ Ok n → (low ≤ n) × (n ≤ high)
in_range-within key low high (pos m) n h =
    let c = chosen (nat_le low m && nat_le m high) m n (out_of_range key) h in
    subst (λ x. (low ≤ x) × (x ≤ high)) c.1 (within low high m c.0)
in_range-within key low high (negsuc m) n h = absurd (let no : ⊥ = cc in no)

number_or-within : (key : List ℕ) (low high default : ℕ) (o : Option Data) (n : ℕ) → low ≤ default → default ≤ high → number_or key low high default o ≡ Ok n → (low ≤ n) × (n ≤ high)
number_or-within key low high default None n a b h = let same : default ≡ n = cc in subst (λ x. (low ≤ x) × (x ≤ high)) same (a, b)
number_or-within key low high default (Some d) n a b h =
    let z = bound (of_kind key (as_integer d)) (in_range key low high) n h in
    in_range-within key low high z.0 n z.2

number_at-within : (key : List ℕ) (low high default : ℕ) (table : Members) (n : ℕ) → low ≤ default → default ≤ high → number_at key low high default table ≡ Ok n → (low ≤ n) × (n ≤ high)
unfolding number_at
number_at-within key low high default table n a b h = number_or-within key low high default (get_member key table) n a b h

not_empty-length : {A : Type 0} (fault : FaultData) (xs ys : List A) → not_empty fault xs ≡ Ok ys → 0 < length ys
not_empty-length fault [] ys h = absurd (let no : ⊥ = cc in no)
not_empty-length fault (x ∷ xs) ys h = let same : x ∷ xs ≡ ys = cc in subst (λ l. 0 < length l) same (omega arith)

module _ {A B : Type 0} (read : List B → A → Result B FaultData) where
  each-length : (before : List B) (tables : List A) (all : List B) → each read before tables ≡ Ok all → length all ≡ length before + length tables
  each-length before [] all h = let same : before ≡ all = cc in rw (← same) (omega arith)
  each-length before (t ∷ ts) all h =
      let b = bound (read before t) _ all h in
      omega (arith, each-length (before ++ b.0 ∷ []) ts all b.2, length-append before (b.0 ∷ []))

  -- what holds of what was read before, and stays so, holds of all
  each-keeps : (P : List B → Type 0) → ((before : List B) (t : A) (x : B) → P before → read before t ≡ Ok x → P (before ++ x ∷ [])) → (before : List B) (tables : List A) (all : List B) → P before → each read before tables ≡ Ok all → P all
  each-keeps P step before [] all p h = let same : before ≡ all = cc in subst P same p
  each-keeps P step before (t ∷ ts) all p h =
      let b = bound (read before t) _ all h in
      each-keeps P step (before ++ b.0 ∷ []) ts all (step before t b.0 p b.1) b.2

-- a number is read as one of its range
number_at-from : (key : List ℕ) (low high default : ℕ) (table : Members) (n : ℕ) → IsFrom low high default → number_at key low high default table ≡ Ok n → IsFrom low high n
number_at-from key low high default table n d h = number_at-within key low high default table n d.0 d.1 h

required_number_at-from : (key : List ℕ) (low high : ℕ) (table : Members) (n : ℕ) → required_number_at key low high table ≡ Ok n → IsFrom low high n
unfolding required_number_at
required_number_at-from key low high table n h =
    let z = bound (integer_at key table) (in_range key low high) n h in
    in_range-within key low high z.0 n z.2

-- a value that was tested passes the test
allowed-test : {A : Type 0} (key : List ℕ) (test : A → Bool) (x y : A) → allowed key test x ≡ Ok y → test y ≡ true
allowed-test key test x y h =
    let c = chosen (test x) x y (out_of_range key) h in
    subst (λ z. test z ≡ true) c.1 c.0

address_at-is : (key default : List ℕ) (table : Members) (t : List ℕ) → address_at key default table ≡ Ok t → is_address t ≡ true
unfolding address_at
address_at-is key default table t h =
    let text = bound (text_or_at key default table) _ t h in
    allowed-test key is_address text.0 t text.2

header_at-is : (key default : List ℕ) (table : Members) (t : List ℕ) → header_at key default table ≡ Ok t → is_header t ≡ true
unfolding header_at
header_at-is key default table t h =
    let text = bound (text_or_at key default table) _ t h in
    allowed-test key is_header text.0 t text.2

attribute_key_at-is : (key : List ℕ) (table : Members) (t : List ℕ) → attribute_key_at key table ≡ Ok t → is_attribute_key t ≡ true
unfolding attribute_key_at
attribute_key_at-is key table t h =
    let text = bound (text_at key table) _ t h in
    allowed-test key is_attribute_key text.0 t text.2

some_tables_at-some : (key : List ℕ) (table : Members) (ts : List Members) → some_tables_at key table ≡ Ok ts → 0 < length ts
unfolding some_tables_at
some_tables_at-some key table ts h =
    let found = bound (tables_at key table) _ ts h in
    not_empty-length (out_of_range key) found.0 ts found.2

some_texts_at-some : (key : List ℕ) (table : Members) (ts : List (List ℕ)) → some_texts_at key table ≡ Ok ts → 0 < length ts
unfolding some_texts_at
some_texts_at-some key table ts h =
    let found = bound (texts_at key table) _ ts h in
    not_empty-length (out_of_range key) found.0 ts found.2

latency_of-sound : (table : Members) (l : LeafData) → latency_of table ≡ Ok l → IsValidLeaf l
latency_of-sound table l h =
    let threshold = bound (required_number_at (codes "threshold_ms") 0 (2 ^ 40) table) _ l h in
    let range = required_number_at-from (codes "threshold_ms") 0 (2 ^ 40) table threshold.0 threshold.1 in
    let same : latency threshold.0 ≡ l = cc in
    subst IsValidLeaf same range.1

status_code_of-sound : (table : Members) (l : LeafData) → status_code_of table ≡ Ok l → IsValidLeaf l
unfolding status_code_of
status_code_of-sound table l h =
    let names = bound (some_texts_at (codes "status_codes") table) _ l h in
    let statuses = bound (each (λ _. status_of) [] names.0) _ l names.2 in
    let some = some_texts_at-some (codes "status_codes") table names.0 names.1 in
    let long = each-length (λ _. status_of) [] names.0 statuses.0 statuses.1 in
    let same : status_code statuses.0 ≡ l = cc in
    subst IsValidLeaf same (omega arith)

values_of-few : (table : Members) (values : List (List ℕ)) → values_of table ≡ Ok values → IsFrom 1 64 (length values)
unfolding values_of
values_of-few table values h =
    let found = bound (some_texts_at (codes "values") table) _ values h in
    let some = some_texts_at-some (codes "values") table found.0 found.1 in
    let limit = chosen (nat_le (length found.0) 64) found.0 values (out_of_range (codes "values")) found.2 in
    let few : length found.0 ≤ 64 = leb-true (length found.0) 64 limit.0 in
    subst (λ v. IsFrom 1 64 (length v)) limit.1 (omega arith, few)

string_attribute_of-sound : (table : Members) (l : LeafData) → string_attribute_of table ≡ Ok l → IsValidLeaf l
unfolding string_attribute_of
string_attribute_of-sound table l h =
    let key = bound (attribute_key_at (codes "key") table) _ l h in
    let values = bound (values_of table) _ l key.2 in
    let same : string_attribute key.0 values.0 ≡ l = cc in
    subst IsValidLeaf same (attribute_key_at-is (codes "key") table key.0 key.1, values_of-few table values.0 values.1)

numeric_attribute_of-sound : (table : Members) (l : LeafData) → numeric_attribute_of table ≡ Ok l → IsValidLeaf l
unfolding numeric_attribute_of
numeric_attribute_of-sound table l h =
    let key = bound (attribute_key_at (codes "key") table) _ l h in
    let low = bound (integer_at (codes "min_value") table) _ l key.2 in
    let high = bound (integer_at (codes "max_value") table) _ l low.2 in
    let same : numeric_attribute key.0 low.0 high.0 ≡ l = cc in
    subst IsValidLeaf same (attribute_key_at-is (codes "key") table key.0 key.1)

-- a choice that was made
either : {A : Type 0} (b : Bool) (r s : Result A FaultData) (y : A) (P : A → Type 0) → (r ≡ Ok y → P y) → (s ≡ Ok y → P y) → (if b then r else s) ≡ Ok y → P y
either true r s y P f g h = f h
either false r s y P f g h = g h

leaf_of_type-sound : (type : List ℕ) (table : Members) (l : LeafData) → leaf_of_type type table ≡ Ok l → IsValidLeaf l
unfolding leaf_of_type
leaf_of_type-sound type table l =
    either (bytes_eq type (codes "always_sample")) _ _ l IsValidLeaf (λ h. let same : always_sample ≡ l = cc in subst IsValidLeaf same tt)
    (either (bytes_eq type (codes "latency")) _ _ l IsValidLeaf (latency_of-sound table l)
    (either (bytes_eq type (codes "status_code")) _ _ l IsValidLeaf (status_code_of-sound table l)
    (either (bytes_eq type (codes "string_attribute")) _ _ l IsValidLeaf (string_attribute_of-sound table l)
    (either (bytes_eq type (codes "numeric_attribute")) _ _ l IsValidLeaf (numeric_attribute_of-sound table l)
    (λ h. absurd (let no : ⊥ = cc in no))))))

leaf_of-sound : (table : Members) (l : LeafData) → leaf_of table ≡ Ok l → IsValidLeaf l
unfolding leaf_of
leaf_of-sound table l h =
    let type = bound (text_at (codes "type") table) _ l h in
    leaf_of_type-sound type.0 table l type.2

and_of-sound : (table : Members) (p : PolicyData) → and_of table ≡ Ok p → IsValidPolicy p
unfolding and_of
and_of-sound table p h =
    let tables = bound (some_tables_at (codes "and_sub_policy") table) _ p h in
    let ls = bound (each (λ _. leaf_of) [] tables.0) _ p tables.2 in
    let some = some_tables_at-some (codes "and_sub_policy") table tables.0 tables.1 in
    let long = each-length (λ _. leaf_of) [] tables.0 ls.0 ls.1 in
    let sound = each-keeps (λ _. leaf_of) (All IsValidLeaf) (λ before t l all r. All-push IsValidLeaf before l all (leaf_of-sound t l r)) [] tables.0 ls.0 (All-nil IsValidLeaf) ls.1 in
    let same : and ls.0 ≡ p = cc in
    let more : 0 < length ls.0 = omega arith in
    subst IsValidPolicy same (more, sound)

policy_of-sound : (table : Members) (p : PolicyData) → policy_of table ≡ Ok p → IsValidPolicy p
unfolding policy_of
policy_of-sound table p h =
    let type = bound (text_at (codes "type") table) _ p h in
    either (bytes_eq type.0 (codes "and")) _ _ p IsValidPolicy (and_of-sound table p)
    (λ k.
    let l = bound (leaf_of_type type.0 table) _ p k in
    let same : leaf l.0 ≡ p = cc in
    subst IsValidPolicy same (leaf_of_type-sound type.0 table l.0 l.1))
    type.2

policies_of-sound : (sampling : Members) (ps : List PolicyData) → policies_of sampling ≡ Ok ps → (0 < length ps) × (leaves_of ps ≤ 64) × All IsValidPolicy ps
unfolding policies_of
policies_of-sound sampling ps h =
    let tables = bound (some_tables_at (codes "policy") sampling) _ ps h in
    let found = bound (each (λ _. policy_of) [] tables.0) _ ps tables.2 in
    let limit = chosen (nat_le (leaves_of found.0) 64) found.0 ps too_many found.2 in
    let some = some_tables_at-some (codes "policy") sampling tables.0 tables.1 in
    let long = each-length (λ _. policy_of) [] tables.0 found.0 found.1 in
    let sound = each-keeps (λ _. policy_of) (All IsValidPolicy) (λ before t p all r. All-push IsValidPolicy before p all (policy_of-sound t p r)) [] tables.0 found.0 (All-nil IsValidPolicy) found.1 in
    let more : 0 < length found.0 = omega arith in
    subst (λ l. (0 < length l) × (leaves_of l ≤ 64) × All IsValidPolicy l) limit.1 (more, leb-true (leaves_of found.0) 64 limit.0, sound)

tail_sampling_of-sound : (tenant : Members) (s : TailSamplingData) → tail_sampling_of tenant ≡ Ok s → IsValidTailSampling s
unfolding tail_sampling_of
tail_sampling_of-sound tenant s h =
    let sampling = bound (table_at (codes "tail_sampling") tenant) _ s h in
    let wait = bound (number_at (codes "decision_wait_ms") 1 86400000 30000 sampling.0) _ s sampling.2 in
    let traces = bound (number_at (codes "num_traces") 1 1000000 50000 sampling.0) _ s wait.2 in
    let cache = bound (table_at (codes "decision_cache") sampling.0) _ s traces.2 in
    let sampled = bound (number_at (codes "sampled_cache_size") 0 1000000 0 cache.0) _ s cache.2 in
    let others = bound (number_at (codes "non_sampled_cache_size") 0 1000000 0 cache.0) _ s sampled.2 in
    let ps = bound (policies_of sampling.0) _ s others.2 in
    let sound = policies_of-sound sampling.0 ps.0 ps.1 in
    let read : TailSamplingData = record { decision_wait = wait.0; num_traces = traces.0; sampled_cache_size = sampled.0; non_sampled_cache_size = others.0; policies = ps.0 } in
    let same = ok_is read s ps.2 in
    subst IsValidTailSampling same (record {
      decision_wait = number_at-from (codes "decision_wait_ms") 1 86400000 30000 sampling.0 wait.0 (omega arith, omega arith) wait.1;
      num_traces = number_at-from (codes "num_traces") 1 1000000 50000 sampling.0 traces.0 (omega arith, omega arith) traces.1;
      sampled_cache_size = (number_at-from (codes "sampled_cache_size") 0 1000000 0 cache.0 sampled.0 (omega arith, omega arith) sampled.1).1;
      non_sampled_cache_size = (number_at-from (codes "non_sampled_cache_size") 0 1000000 0 cache.0 others.0 (omega arith, omega arith) others.1).1;
      some_policy = sound.0;
      few_leaves = sound.1;
      policies = sound.2;
    })

max_size-is : (size max_size : ℕ) → is_max_size size max_size ≡ true → 0 < max_size → size ≤ max_size
max_size-is size max_size h some = grind (arith, nat_tests)

batch_of-sound : (tenant : Members) (b : BatchData) → batch_of tenant ≡ Ok b → IsValidBatch b
unfolding batch_of
batch_of-sound tenant b h =
    let batch = bound (table_at (codes "batch") tenant) _ b h in
    let size = bound (number_at (codes "send_batch_size") 1 1000000 8192 batch.0) _ b batch.2 in
    let timeout = bound (number_at (codes "timeout_ms") 0 86400000 200 batch.0) _ b size.2 in
    let found = bound (number_at (codes "send_batch_max_size") 0 1000000 0 batch.0) _ b timeout.2 in
    let max_size = bound (allowed (codes "send_batch_max_size") (is_max_size size.0) found.0) _ b found.2 in
    let limit = chosen (is_max_size size.0 found.0) found.0 max_size.0 (out_of_range (codes "send_batch_max_size")) max_size.1 in
    let read : BatchData = record { send_batch_size = size.0; timeout = timeout.0; send_batch_max_size = max_size.0 } in
    let same = ok_is read b max_size.2 in
    subst IsValidBatch same (record {
      send_batch_size = number_at-from (codes "send_batch_size") 1 1000000 8192 batch.0 size.0 (omega arith, omega arith) size.1;
      timeout = (number_at-from (codes "timeout_ms") 0 86400000 200 batch.0 timeout.0 (omega arith, omega arith) timeout.1).1;
      send_batch_max_size = subst (λ n. n ≤ 1000000) limit.1 (number_at-from (codes "send_batch_max_size") 0 1000000 0 batch.0 found.0 (omega arith, omega arith) found.1).1;
      none_or_more = max_size-is size.0 max_size.0 (allowed-test (codes "send_batch_max_size") (is_max_size size.0) found.0 max_size.0 max_size.1);
    })

sending_queue_of-sound : (tenant : Members) (q : SendingQueueData) → sending_queue_of tenant ≡ Ok q → IsValidSendingQueue q
unfolding sending_queue_of
sending_queue_of-sound tenant q h =
    let queue = bound (table_at (codes "sending_queue") tenant) _ q h in
    let size = bound (number_at (codes "queue_size") 1 100000 1000 queue.0) _ q queue.2 in
    let consumers = bound (number_at (codes "num_consumers") 1 1000 10 queue.0) _ q size.2 in
    let read : SendingQueueData = record { queue_size = size.0; queue_bytes = most_queue_bytes; num_consumers = consumers.0 } in
    let same = ok_is read q consumers.2 in
    subst IsValidSendingQueue same (record {
      queue_size = number_at-from (codes "queue_size") 1 100000 1000 queue.0 size.0 (omega arith, omega arith) size.1;
      queue_bytes = refl;
      num_consumers = number_at-from (codes "num_consumers") 1 1000 10 queue.0 consumers.0 (omega arith, omega arith) consumers.1;
    })

retry_of-sound : (tenant : Members) (r : RetryData) → retry_of tenant ≡ Ok r → IsValidRetry r
unfolding retry_of
retry_of-sound tenant r h =
    let retry = bound (table_at (codes "retry_on_failure") tenant) _ r h in
    let initial = bound (number_at (codes "initial_interval_ms") 1 86400000 5000 retry.0) _ r retry.2 in
    let longest = bound (number_at (codes "max_interval_ms") 1 86400000 30000 retry.0) _ r initial.2 in
    let elapsed = bound (number_at (codes "max_elapsed_time_ms") 0 (2 ^ 40) 300000 retry.0) _ r longest.2 in
    let multiplier = bound (number_at (codes "multiplier") 1000 100000 1500 retry.0) _ r elapsed.2 in
    let factor = bound (number_at (codes "randomization_factor") 0 1000 500 retry.0) _ r multiplier.2 in
    let read : RetryData = record { initial_interval = initial.0; max_interval = longest.0; max_elapsed_time = elapsed.0; multiplier = multiplier.0; randomization_factor = factor.0 } in
    let same = ok_is read r factor.2 in
    subst IsValidRetry same (record {
      initial_interval = number_at-from (codes "initial_interval_ms") 1 86400000 5000 retry.0 initial.0 (omega arith, omega arith) initial.1;
      max_interval = number_at-from (codes "max_interval_ms") 1 86400000 30000 retry.0 longest.0 (omega arith, omega arith) longest.1;
      max_elapsed_time = (number_at-from (codes "max_elapsed_time_ms") 0 (2 ^ 40) 300000 retry.0 elapsed.0 (omega arith, omega arith) elapsed.1).1;
      multiplier = number_at-from (codes "multiplier") 1000 100000 1500 retry.0 multiplier.0 (omega arith, omega arith) multiplier.1;
      randomization_factor = (number_at-from (codes "randomization_factor") 0 1000 500 retry.0 factor.0 (omega arith, omega arith) factor.1).1;
    })

pub section_of-sound : (tenant : Members) (s : SectionData) → section_of tenant ≡ Ok s → IsValidSection s
unfolding section_of
section_of-sound tenant s h =
    let endpoint = bound (address_at (codes "endpoint") (codes "127.0.0.1:4319") tenant) _ s h in
    let spans = bound (number_at (codes "max_spans") 1 (2 ^ 31) 100000 tenant) _ s endpoint.2 in
    let seed = bound (number_at (codes "seed") 0 (2 ^ 62) 0 tenant) _ s spans.2 in
    let sampling = bound (tail_sampling_of tenant) _ s seed.2 in
    let batch = bound (batch_of tenant) _ s sampling.2 in
    let queue = bound (sending_queue_of tenant) _ s batch.2 in
    let retry = bound (retry_of tenant) _ s queue.2 in
    let read : SectionData = record { endpoint = endpoint.0; max_spans = spans.0; seed = seed.0; tail_sampling = sampling.0; batch = batch.0; sending_queue = queue.0; retry_on_failure = retry.0 } in
    let same = ok_is read s retry.2 in
    subst IsValidSection same (record {
      endpoint = address_at-is (codes "endpoint") (codes "127.0.0.1:4319") tenant endpoint.0 endpoint.1;
      max_spans = number_at-from (codes "max_spans") 1 (2 ^ 31) 100000 tenant spans.0 (omega arith, omega arith) spans.1;
      seed = (number_at-from (codes "seed") 0 (2 ^ 62) 0 tenant seed.0 (omega arith, omega arith) seed.1).1;
      tail_sampling = tail_sampling_of-sound tenant sampling.0 sampling.1;
      batch = batch_of-sound tenant batch.0 batch.1;
      sending_queue = sending_queue_of-sound tenant queue.0 queue.1;
      retry_on_failure = retry_of-sound tenant retry.0 retry.1;
    })

-- a new name is none of those before
list_any-apart : (name : List ℕ) (before : List TenantData) → list_any (λ t. bytes_eq name t.name) before ≡ false → (k : ℕ) (d : TenantData) → k < length before → (get_or before k d).name ≢ name
list_any-apart name [] h k d short = absurd (omega arith)
list_any-apart name (t ∷ ts) h zero d short = λ same. bytes_eq-differs name t.name (or_parts (bytes_eq name t.name) (list_any (λ t. bytes_eq name t.name) ts) h).0 (sym same)
list_any-apart name (t ∷ ts) h (suc k) d short = list_any-apart name ts (or_parts (bytes_eq name t.name) (list_any (λ t. bytes_eq name t.name) ts) h).1 k d (omega arith)

new_name-apart : (before : List TenantData) (name same : List ℕ) → new_name before name ≡ Ok same → (list_any (λ t. bytes_eq name t.name) before ≡ false) × (name ≡ same)
new_name-apart before name same h = otherwise (list_any (λ t. bytes_eq name t.name) before) name same (double_tenant name) h

name_of-sound : (before : List TenantData) (table : Members) (name : List ℕ) → name_of before table ≡ Ok name → (is_name name ≡ true) × (list_any (λ t. bytes_eq name t.name) before ≡ false)
unfolding name_of
name_of-sound before table name h =
    let text = bound (text_at (codes "name") table) _ name h in
    let allowed_text = bound (allowed (codes "name") is_name text.0) _ name text.2 in
    let test = chosen (is_name text.0) text.0 allowed_text.0 (out_of_range (codes "name")) allowed_text.1 in
    let new = new_name-apart before allowed_text.0 name allowed_text.2 in
    (subst (λ n. is_name n ≡ true) (test.1 ∙ new.1) test.0, subst (λ n. list_any (λ t. bytes_eq n t.name) before ≡ false) new.1 new.0)

tenant_of-sound : (before : List TenantData) (table : Members) (t : TenantData) → AreSoundTenants before → tenant_of before table ≡ Ok t → AreSoundTenants (before ++ t ∷ [])
unfolding numbered_tenant
tenant_of-sound before table t sound h =
    let name = bound (name_of before table) _ t h in
    let section = bound (section_of table) _ t name.2 in
    let read : TenantData = record { number = length before; name = name.0; section = section.0 } in
    let same : read ≡ t = cc in
    let parts = name_of-sound before table name.0 name.1 in
    subst (λ x. AreSoundTenants (before ++ x ∷ [])) same (record {
      names = All-push (λ u. IsTrue (is_name u.name)) before read sound.names parts.0;
      distinct = all_pairs_push (λ u v. u.name ≢ v.name) before read sound.distinct (list_any-apart name.0 before parts.1);
      sections = All-push (λ u. IsValidSection u.section) before read sound.sections (section_of-sound table section.0 section.1);
    })

-- a tenant has the number that was given
pub numbered_tenant-number : (number : ℕ) (before : List TenantData) (table : Members) (t : TenantData) → numbered_tenant number before table ≡ Ok t → t.number ≡ number
unfolding numbered_tenant
numbered_tenant-number number before table t h =
    let name = bound (name_of before table) _ t h in
    let section = bound (section_of table) _ t name.2 in
    let read : TenantData = record { number = number; name = name.0; section = section.0 } in
    sym (ap (λ (u : TenantData). u.number) (ok_is read t section.2))

-- tenants stay by place where the next has the next place for a number
by_place-push : (before : List TenantData) (t : TenantData) → AreByPlace before → t.number ≡ length before → AreByPlace (before ++ t ∷ [])
by_place-push before t all here i d short = elim (cases_lt i (length before)) [
  | inl lt ↦ rw (get_or_append_left before (t ∷ []) d i lt) (all i d lt)
  | inr le ↦
      let last : length before ≡ i = omega (arith, length_push before t, short, le) in
      rw (get_or_push before t d i last) (here ∙ last)
]

no_tenants-sound : AreSoundTenants []
no_tenants-sound = record {
  names = λ k d short. absurd (omega arith);
  distinct = λ i j d below short. absurd (omega arith);
  sections = λ k d short. absurd (omega arith);
}

pub tenants_of-sound : (document : Members) (tenants : List TenantData) → tenants_of document ≡ Ok tenants → (0 < length tenants) × (length tenants ≤ 1000) × AreSoundTenants tenants × AreByPlace tenants
unfolding tenants_of
tenants_of-sound document tenants h =
    let found = bound (tables_at (codes "tenant") document) _ tenants h in
    let some = bound (not_empty (missing_key (codes "tenant")) found.0) _ tenants found.2 in
    let few = bound (at_most 1000 too_many some.0) _ tenants some.2 in
    let limit = chosen (nat_le (length some.0) 1000) some.0 few.0 too_many few.1 in
    let long = each-length tenant_of [] few.0 tenants few.2 in
    let many : length some.0 ≤ 1000 = leb-true (length some.0) 1000 limit.0 in
    let more : 0 < length some.0 = not_empty-length (missing_key (codes "tenant")) found.0 some.0 some.1 in
    let as_many = ap length limit.1 in
    let numbers = each-keeps tenant_of AreByPlace (λ before table t all read. by_place-push before t all (numbered_tenant-number (length before) before table t read)) [] few.0 tenants (λ i d short. absurd (omega (arith, short))) few.2 in
    (omega arith, omega arith, each-keeps tenant_of AreSoundTenants tenant_of-sound [] few.0 tenants no_tenants-sound few.2, numbers)

global_of-sound : (document : Members) (g : GlobalData) → global_of document ≡ Ok g → IsValidGlobal g
unfolding global_of
global_of-sound document g h =
    let global = bound (table_at (codes "global") document) _ g h in
    let shards = bound (number_at (codes "shards") 1 64 1 global.0) _ g global.2 in
    let parts = bound (number_at (codes "parts") 1 16 2 global.0) _ g shards.2 in
    let receivers = bound (number_at (codes "receivers") 1 64 4 global.0) _ g parts.2 in
    let senders = bound (number_at (codes "senders") 1 64 4 global.0) _ g receivers.2 in
    let lane = bound (number_at (codes "lane_size") 1 4096 64 global.0) _ g senders.2 in
    let listen = bound (address_at (codes "listen") (codes "127.0.0.1:4318") global.0) _ g lane.2 in
    let header = bound (header_at (codes "tenant_header") (codes "x-scope-orgid") global.0) _ g listen.2 in
    let read : GlobalData = record { shards = shards.0; parts = parts.0; receivers = receivers.0; senders = senders.0; lane_size = lane.0; listen = listen.0; tenant_header = header.0 } in
    let same = ok_is read g header.2 in
    subst IsValidGlobal same (record {
      shards = number_at-from (codes "shards") 1 64 1 global.0 shards.0 (omega arith, omega arith) shards.1;
      parts = number_at-from (codes "parts") 1 16 2 global.0 parts.0 (omega arith, omega arith) parts.1;
      receivers = number_at-from (codes "receivers") 1 64 4 global.0 receivers.0 (omega arith, omega arith) receivers.1;
      senders = number_at-from (codes "senders") 1 64 4 global.0 senders.0 (omega arith, omega arith) senders.1;
      lane_size = number_at-from (codes "lane_size") 1 4096 64 global.0 lane.0 (omega arith, omega arith) lane.1;
      listen = address_at-is (codes "listen") (codes "127.0.0.1:4318") global.0 listen.0 listen.1;
      tenant_header = header_at-is (codes "tenant_header") (codes "x-scope-orgid") global.0 header.0 header.1;
    })

settings_of_table-sound : (document : Members) (s : SettingsData) → settings_of_table document ≡ Ok s → AreValidSettings s
unfolding settings_of_table
settings_of_table-sound document s h =
    let global = bound (global_of document) _ s h in
    let found = bound (tenants_of document) _ s global.2 in
    let tenants = bound (few_spans found.0) _ s found.2 in
    let limit = chosen (nat_le (spans_of found.0) (2 ^ 31)) found.0 tenants.0 too_many tenants.1 in
    let read : SettingsData = record { global = global.0; tenants = tenants.0; next = length tenants.0; queue_bytes = most_queue_bytes } in
    let same : read ≡ s = cc in
    let parts = tenants_of-sound document found.0 found.1 in
    let few : spans_of found.0 ≤ 2 ^ 31 = leb-true (spans_of found.0) (2 ^ 31) limit.0 in
    subst AreValidSettings same
    (subst (λ ts. AreValidSettings (record { global = global.0; tenants = ts; next = length ts; queue_bytes = most_queue_bytes })) limit.1
    (record { global = global_of-sound document global.0 global.1; some_tenant = parts.0; few_tenants = parts.1; few_spans = few; tenants = parts.2; numbers = parts.3; next = refl; queue_bytes = refl }))

document_in-sound : (o : Option Members) (s : SettingsData) → (document_in o >>= settings_of_table) ≡ Ok s → AreValidSettings s
document_in-sound None s h = absurd (let no : ⊥ = cc in no)
document_in-sound (Some document) s h = settings_of_table-sound document s h

pub settings_of-sound : (text : List ℕ) (s : SettingsData) → settings_of text ≡ Ok s → AreValidSettings s
unfolding settings_of
settings_of-sound text s h = document_in-sound (parse_document text) s h
