-- The document that says all of some settings means these settings.
use Rattle.std.proofs.Common.{◌≡◌, ◌≢◌, ℕ, ◌+◌, ◌^◌, ℤ, pos, zero, suc, min, ◌<◌, ◌≤◌, Bool, true, false, codes, List, [], ◌∷◌, ◌++◌, map, length, get_or, Some, Result, Ok, refl, sym, ap, ◌∙◌, ◌==◌, arith, append_assoc, append-nil}
use Rattle.std.specs.Prelude.{IsTrue, All, AllPairs}
use Rattle.std.specs.List.{list_any}
use Rattle.std.specs.Str.{bytes_eq}
use Rattle.std.proofs.lemmas.Bool.{le-leb}
use Rattle.std.proofs.Math.Bool.{or-true}
use Rattle.std.proofs.lemmas.List.{length-map, length_push}
use Rattle.std.proofs.lemmas.List.Elements.{All-head, All-tail}
use Rattle.std.proofs.lemmas.List.Folds.{list_any-append}
use Rattle.std.proofs.lemmas.Slice.Eq.{bytes_eq-Decides}
use Rattle.toml.specs.Data.{string, integer, table, Members, no_members, get_member, as_str, as_table}
use Rattle.toml.specs.Parse.{parse_document}
use Rattle.toml.specs.View.{items_of}
use Rattle.tail_settings.specs.Batch.{is_max_size, batch_of}
use Rattle.tail_settings.specs.Fault.{FaultData, missing_key, out_of_range, too_many}
use Rattle.tail_settings.specs.Global.{global_of}
use Rattle.tail_settings.specs.Keys.{IsFrom, are_all, all_of, number_at, integer_at, required_number_at, text_at, text_or_at, table_at, tables_at, texts_at, not_empty, some_tables_at, some_texts_at, at_most, each}
use Rattle.tail_settings.specs.Policy.{StatusData, unset, ok, error, LeafData, always_sample, latency, status_code, string_attribute, numeric_attribute, PolicyData, leaf, and, status_of, status_code_of, values_of, string_attribute_of, numeric_attribute_of, leaf_of_type, leaf_of, and_of, policy_of, leaves_of, policies_of}
use Rattle.tail_settings.specs.RetryOnFailure.{retry_of}
use Rattle.tail_settings.specs.Section.{SectionData, section_of}
use Rattle.tail_settings.specs.SendingQueue.{most_queue_bytes, sending_queue_of}
use Rattle.tail_settings.specs.Settings.{TenantData, SettingsData, name_of, numbered_tenant, tenant_of, tenants_of, spans_of, settings_of_table, settings_of}
use Rattle.tail_settings.specs.Valid.{IsValidGlobal, IsValidLeaf, IsValidPolicy, IsValidTailSampling, IsValidBatch, IsValidSendingQueue, IsValidRetry, IsValidSection, AreValidSettings}
use Rattle.tail_settings.specs.TailSampling.{TailSamplingData, tail_sampling_of}
use Rattle.tail_settings.specs.Texts.{is_name, is_address, is_header, is_attribute_key, address_at, header_at, attribute_key_at}
use Rattle.settings_check.specs.Document.{number, tables, texts, global_table, status_name, leaf_table, policy_table, cache_table, sampling_table, batch_table, queue_table, retry_table, section_table, tenant_table, document_of}

-- ---- keys

number_back : (key : List ℕ) (low high default n : ℕ) (m : Members) → get_member key m ≡ Some (number n) → IsFrom low high n → number_at key low high default m ≡ Ok n
unfolding number_at
number_back key low high default n m found h = rw (found, le-leb low n h.0, le-leb n high h.1) refl

integer_back : (key : List ℕ) (z : ℤ) (m : Members) → get_member key m ≡ Some (integer z) → integer_at key m ≡ Ok z
unfolding integer_at
integer_back key z m found = rw found refl

required_back : (key : List ℕ) (low high n : ℕ) (m : Members) → get_member key m ≡ Some (number n) → IsFrom low high n → required_number_at key low high m ≡ Ok n
unfolding required_number_at
required_back key low high n m found h = rw (integer_back key (pos n) m found, le-leb low n h.0, le-leb n high h.1) refl

text_back : (key text : List ℕ) (m : Members) → get_member key m ≡ Some (string text) → text_at key m ≡ Ok text
unfolding text_at
text_back key text m found = rw found refl

text_or_back : (key default text : List ℕ) (m : Members) → get_member key m ≡ Some (string text) → text_or_at key default m ≡ Ok text
unfolding text_or_at
text_or_back key default text m found = rw found refl

table_back : (key : List ℕ) (inner m : Members) → get_member key m ≡ Some (table inner) → table_at key m ≡ Ok inner
unfolding table_at
table_back key inner m found = rw found refl

address_back : (key default text : List ℕ) (m : Members) → get_member key m ≡ Some (string text) → is_address text ≡ true → address_at key default m ≡ Ok text
unfolding address_at
address_back key default text m found h = rw (text_or_back key default text m found, h) refl

header_back : (key default text : List ℕ) (m : Members) → get_member key m ≡ Some (string text) → is_header text ≡ true → header_at key default m ≡ Ok text
unfolding header_at
header_back key default text m found h = rw (text_or_back key default text m found, h) refl

attribute_key_back : (key text : List ℕ) (m : Members) → get_member key m ≡ Some (string text) → is_attribute_key text ≡ true → attribute_key_at key m ≡ Ok text
unfolding attribute_key_at
attribute_key_back key text m found h = rw (text_back key text m found, h) refl

-- ---- arrays

are_tables : {A : Type 0} (f : A → Members) (xs : List A) → are_all as_table (items_of (map (λ x. table (f x)) xs)) ≡ true
are_tables f [] = refl
are_tables f (x ∷ xs) = are_tables f xs

all_tables : {A : Type 0} (f : A → Members) (xs : List A) → all_of as_table no_members (items_of (map (λ x. table (f x)) xs)) ≡ map f xs
all_tables f [] = refl
all_tables f (x ∷ xs) = ap (λ rest. f x ∷ rest) (all_tables f xs)

tables_back : {A : Type 0} (key : List ℕ) (f : A → Members) (xs : List A) (m : Members) → get_member key m ≡ Some (tables f xs) → tables_at key m ≡ Ok (map f xs)
unfolding tables_at
tables_back key f xs m found = rw (found, are_tables f xs, all_tables f xs) refl

are_texts : {A : Type 0} (f : A → List ℕ) (xs : List A) → are_all as_str (items_of (map (λ x. string (f x)) xs)) ≡ true
are_texts f [] = refl
are_texts f (x ∷ xs) = are_texts f xs

all_texts : {A : Type 0} (f : A → List ℕ) (xs : List A) → all_of as_str [] (items_of (map (λ x. string (f x)) xs)) ≡ map f xs
all_texts f [] = refl
all_texts f (x ∷ xs) = ap (λ rest. f x ∷ rest) (all_texts f xs)

texts_back : {A : Type 0} (key : List ℕ) (f : A → List ℕ) (xs : List A) (m : Members) → get_member key m ≡ Some (texts f xs) → texts_at key m ≡ Ok (map f xs)
unfolding texts_at
texts_back key f xs m found = rw (found, are_texts f xs, all_texts f xs) refl

some_back : {A B : Type 0} (fault : FaultData) (f : A → B) (xs : List A) → 0 < length xs → not_empty fault (map f xs) ≡ Ok (map f xs)
some_back fault f [] h = absurd (omega arith)
some_back fault f (x ∷ xs) h = refl

some_tables_back : {A : Type 0} (key : List ℕ) (f : A → Members) (xs : List A) (m : Members) → get_member key m ≡ Some (tables f xs) → 0 < length xs → some_tables_at key m ≡ Ok (map f xs)
unfolding some_tables_at
some_tables_back key f xs m found h = rw (tables_back key f xs m found, some_back (out_of_range key) f xs h) refl

some_texts_back : {A : Type 0} (key : List ℕ) (f : A → List ℕ) (xs : List A) (m : Members) → get_member key m ≡ Some (texts f xs) → 0 < length xs → some_texts_at key m ≡ Ok (map f xs)
unfolding some_texts_at
some_texts_back key f xs m found h = rw (texts_back key f xs m found, some_back (out_of_range key) f xs h) refl

few_back : {A : Type 0} (limit : ℕ) (fault : FaultData) (xs : List A) → length xs ≤ limit → at_most limit fault xs ≡ Ok xs
few_back limit fault xs h = rw (le-leb (length xs) limit h) refl

each_back : {A B : Type 0} (read : A → Result B FaultData) (f : B → A) (before xs : List B) → All (λ x. read (f x) ≡ Ok x) xs → each (λ _. read) before (map f xs) ≡ Ok (before ++ xs)
each_back read f before [] h = ap Ok (sym (append-nil before))
each_back read f before (x ∷ xs) h =
    rw (All-head (λ y. read (f y) ≡ Ok y) x xs h)
    (each_back read f (before ++ x ∷ []) xs (All-tail (λ y. read (f y) ≡ Ok y) x xs h) ∙ ap Ok (append_assoc before (x ∷ []) xs))

map_same : {A : Type 0} (xs : List A) → map (λ x. x) xs ≡ xs
map_same [] = refl
map_same (x ∷ xs) = ap (λ rest. x ∷ rest) (map_same xs)

-- ---- tables of numbers and texts

pub global_back : (s : SettingsData) → IsValidGlobal s.global → global_of (document_of s) ≡ Ok s.global
unfolding global_of
global_back s h =
    let g = s.global in
    let m = global_table g in
    rw (
      table_back (codes "global") m (document_of s) refl,
      number_back (codes "shards") 1 64 1 g.shards m refl h.shards,
      number_back (codes "parts") 1 16 2 g.parts m refl h.parts,
      number_back (codes "receivers") 1 64 4 g.receivers m refl h.receivers,
      number_back (codes "senders") 1 64 4 g.senders m refl h.senders,
      number_back (codes "lane_size") 1 4096 64 g.lane_size m refl h.lane_size,
      address_back (codes "listen") (codes "127.0.0.1:4318") g.listen m refl h.listen,
      header_back (codes "tenant_header") (codes "x-scope-orgid") g.tenant_header m refl h.tenant_header,
    ) refl

max_size_fits : (size max_size : ℕ) → (0 < max_size → size ≤ max_size) → is_max_size size max_size ≡ true
max_size_fits size zero h = refl
max_size_fits size (suc n) h = rw (le-leb size (suc n) (h (omega arith)), or-true (suc n == 0)) refl

batch_back : (name : List ℕ) (s : SectionData) → IsValidBatch s.batch → batch_of (section_table name s) ≡ Ok s.batch
unfolding batch_of
batch_back name s h =
    let b = s.batch in
    let m = batch_table b in
    rw (
      table_back (codes "batch") m (section_table name s) refl,
      number_back (codes "send_batch_size") 1 1000000 8192 b.send_batch_size m refl h.send_batch_size,
      number_back (codes "timeout_ms") 0 86400000 200 b.timeout m refl (omega arith, h.timeout),
      number_back (codes "send_batch_max_size") 0 1000000 0 b.send_batch_max_size m refl (omega arith, h.send_batch_max_size),
      max_size_fits b.send_batch_size b.send_batch_max_size h.none_or_more,
    ) refl

queue_back : (name : List ℕ) (s : SectionData) → IsValidSendingQueue s.sending_queue → sending_queue_of (section_table name s) ≡ Ok s.sending_queue
unfolding sending_queue_of
queue_back name s h =
    let q = s.sending_queue in
    let m = queue_table q in
    rw (
      table_back (codes "sending_queue") m (section_table name s) refl,
      number_back (codes "queue_size") 1 100000 1000 q.queue_size m refl h.queue_size,
      number_back (codes "num_consumers") 1 1000 10 q.num_consumers m refl h.num_consumers,
    )
    (ap (λ n. Ok (record { queue_size = q.queue_size; queue_bytes = n; num_consumers = q.num_consumers })) (sym h.queue_bytes))

retry_back : (name : List ℕ) (s : SectionData) → IsValidRetry s.retry_on_failure → retry_of (section_table name s) ≡ Ok s.retry_on_failure
unfolding retry_of
retry_back name s h =
    let r = s.retry_on_failure in
    let m = retry_table r in
    rw (
      table_back (codes "retry_on_failure") m (section_table name s) refl,
      number_back (codes "initial_interval_ms") 1 86400000 5000 r.initial_interval m refl h.initial_interval,
      number_back (codes "max_interval_ms") 1 86400000 30000 r.max_interval m refl h.max_interval,
      number_back (codes "max_elapsed_time_ms") 0 (2 ^ 40) 300000 r.max_elapsed_time m refl (omega arith, h.max_elapsed_time),
      number_back (codes "multiplier") 1000 100000 1500 r.multiplier m refl h.multiplier,
      number_back (codes "randomization_factor") 0 1000 500 r.randomization_factor m refl (omega arith, h.randomization_factor),
    ) refl

-- ---- policies

status_back : (status : StatusData) → status_of (status_name status) ≡ Ok status
status_back unset = refl
status_back ok = refl
status_back error = refl

min_low : (n high : ℕ) → n ≤ high → min n high ≡ n
min_low n high h = omega arith

leaf_type_back : (l : LeafData) → IsValidLeaf l → (type : List ℕ) × (text_at (codes "type") (leaf_table l) ≡ Ok type) × (bytes_eq type (codes "and") ≡ false) × (leaf_of_type type (leaf_table l) ≡ Ok l)
unfolding leaf_of_type status_code_of string_attribute_of values_of numeric_attribute_of
leaf_type_back always_sample h = (codes "always_sample", text_back (codes "type") (codes "always_sample") (leaf_table always_sample) refl, refl, refl)
leaf_type_back (latency t) h =
    let m = leaf_table (latency t) in
    let same : min t (2 ^ 40) ≡ t = min_low t (2 ^ 40) h in
    let found : get_member (codes "threshold_ms") m ≡ Some (number t) = rw same refl in (
      codes "latency",
      text_back (codes "type") (codes "latency") m refl,
      refl,
      rw (required_back (codes "threshold_ms") 0 (2 ^ 40) t m found (omega arith, h)) refl,
    )
leaf_type_back (status_code ss) h =
    let m = leaf_table (status_code ss) in (
      codes "status_code",
      text_back (codes "type") (codes "status_code") m refl,
      refl,
      rw (
        some_texts_back (codes "status_codes") status_name ss m refl h,
        each_back status_of status_name [] ss (λ k d _. status_back (get_or ss k d)),
      ) refl,
    )
leaf_type_back (string_attribute key values) h =
    let m = leaf_table (string_attribute key values) in
    let few : at_most 64 (out_of_range (codes "values")) (map (λ v. v) values) ≡ Ok values = rw (map_same values) (few_back 64 (out_of_range (codes "values")) values h.1.1) in (
      codes "string_attribute",
      text_back (codes "type") (codes "string_attribute") m refl,
      refl,
      rw (
        attribute_key_back (codes "key") key m refl h.0,
        some_texts_back (codes "values") (λ v. v) values m refl h.1.0,
        few,
      ) refl,
    )
leaf_type_back (numeric_attribute key low high) h =
    let m = leaf_table (numeric_attribute key low high) in (
      codes "numeric_attribute",
      text_back (codes "type") (codes "numeric_attribute") m refl,
      refl,
      rw (
        attribute_key_back (codes "key") key m refl h,
        integer_back (codes "min_value") low m refl,
        integer_back (codes "max_value") high m refl,
      ) refl,
    )

leaf_back : (l : LeafData) → IsValidLeaf l → leaf_of (leaf_table l) ≡ Ok l
unfolding leaf_of
leaf_back l h =
    let (type, read, other, back) = leaf_type_back l h in
    rw (read, back) refl

policy_back : (p : PolicyData) → IsValidPolicy p → policy_of (policy_table p) ≡ Ok p
unfolding policy_of and_of
policy_back (leaf l) h =
    let (type, read, other, back) = leaf_type_back l h in
    rw (read, other, back) refl
policy_back (and ls) h =
    let m = policy_table (and ls) in
    let leaves : each (λ _. leaf_of) [] (map leaf_table ls) ≡ Ok ls = each_back leaf_of leaf_table [] ls (λ k d short. leaf_back (get_or ls k d) (h.1 k d short)) in
    rw (text_back (codes "type") (codes "and") m refl, some_tables_back (codes "and_sub_policy") leaf_table ls m refl h.0, leaves) refl

policies_back : (s : TailSamplingData) → IsValidTailSampling s → policies_of (sampling_table s) ≡ Ok s.policies
unfolding policies_of
policies_back s h =
    let ps = s.policies in
    let read : each (λ _. policy_of) [] (map policy_table ps) ≡ Ok ps = each_back policy_of policy_table [] ps (λ k d short. policy_back (get_or ps k d) (h.policies k d short)) in
    rw (some_tables_back (codes "policy") policy_table ps (sampling_table s) refl h.some_policy, read, le-leb (leaves_of ps) 64 h.few_leaves) refl

sampling_back : (name : List ℕ) (s : SectionData) → IsValidTailSampling s.tail_sampling → tail_sampling_of (section_table name s) ≡ Ok s.tail_sampling
unfolding tail_sampling_of
sampling_back name s h =
    let t = s.tail_sampling in
    let m = sampling_table t in
    let k = cache_table t in
    rw (
      table_back (codes "tail_sampling") m (section_table name s) refl,
      number_back (codes "decision_wait_ms") 1 86400000 30000 t.decision_wait m refl h.decision_wait,
      number_back (codes "num_traces") 1 1000000 50000 t.num_traces m refl h.num_traces,
      table_back (codes "decision_cache") k m refl,
      number_back (codes "sampled_cache_size") 0 1000000 0 t.sampled_cache_size k refl (omega arith, h.sampled_cache_size),
      number_back (codes "non_sampled_cache_size") 0 1000000 0 t.non_sampled_cache_size k refl (omega arith, h.non_sampled_cache_size),
      policies_back t h,
    ) refl

-- ---- tenants

section_back : (name : List ℕ) (s : SectionData) → IsValidSection s → section_of (section_table name s) ≡ Ok s
unfolding section_of
section_back name s h =
    let m = section_table name s in
    rw (
      address_back (codes "endpoint") (codes "127.0.0.1:4319") s.endpoint m refl h.endpoint,
      number_back (codes "max_spans") 1 (2 ^ 31) 100000 s.max_spans m refl h.max_spans,
      number_back (codes "seed") 0 (2 ^ 62) 0 s.seed m refl (omega arith, h.seed),
      sampling_back name s h.tail_sampling,
      batch_back name s h.batch,
      queue_back name s h.sending_queue,
      retry_back name s h.retry_on_failure,
    ) refl

-- no tenant of these has this name
abbrev IsNew : List TenantData → TenantData → Type 0
IsNew before t = list_any (λ u. bytes_eq t.name u.name) before ≡ false

tenant_back : (before : List TenantData) (t : TenantData) → IsTrue (is_name t.name) → IsValidSection t.section → IsNew before t → t.number ≡ length before → tenant_of before (tenant_table t) ≡ Ok t
unfolding numbered_tenant name_of
tenant_back before t named sound new here =
    rw (text_back (codes "name") t.name (tenant_table t) refl, named, new, section_back t.name t.section sound)
    (ap (λ n. Ok (record { number = n; name = t.name; section = t.section })) (sym here))

undecided : {P : Type 0} (b : Bool) → (b ≡ true → P) → (P → ⊥) → b ≡ false
undecided true h k = absurd (k (h refl))
undecided false _ k = refl

differs : (xs ys : List ℕ) → xs ≢ ys → bytes_eq xs ys ≡ false
differs xs ys h = undecided (bytes_eq xs ys) (bytes_eq-Decides xs ys).0 h

new_behind : (before : List TenantData) (t u : TenantData) → t.name ≢ u.name → IsNew before u → IsNew (before ++ t ∷ []) u
new_behind before t u apart new =
    rw (list_any-append (λ v. bytes_eq u.name v.name) before (t ∷ []), new, differs u.name t.name (λ e. apart (sym e))) refl

tenants_back : (before ts : List TenantData) → All (λ t. IsTrue (is_name t.name)) ts → All (λ t. IsValidSection t.section) ts → AllPairs (λ t u. t.name ≢ u.name) ts → All (IsNew before) ts
    → ((i : ℕ) (d : TenantData) → i < length ts → (get_or ts i d).number ≡ length before + i) → each tenant_of before (map tenant_table ts) ≡ Ok (before ++ ts)
tenants_back before [] names sections apart new numbers = ap Ok (sym (append-nil before))
tenants_back before (t ∷ ts) names sections apart new numbers =
    let first : t.number ≡ length before = omega (arith, numbers 0 t (omega arith)) in
    let head = tenant_back before t (All-head (λ u. IsTrue (is_name u.name)) t ts names) (All-head (λ u. IsValidSection u.section) t ts sections) (All-head (IsNew before) t ts new) first in
    let behind : All (IsNew (before ++ t ∷ [])) ts = λ k d short. new_behind before t (get_or ts k d) (apart 0 (suc k) d (omega arith) (omega arith)) (All-tail (IsNew before) t ts new k d short) in
    rw head
    (tenants_back (before ++ t ∷ []) ts (All-tail (λ u. IsTrue (is_name u.name)) t ts names) (All-tail (λ u. IsValidSection u.section) t ts sections)
    (λ i j d below short. apart (suc i) (suc j) d (omega arith) (omega arith)) behind
    (λ i d short. omega (arith, length_push before t, numbers (suc i) d (omega (arith, short))))
    ∙ ap Ok (append_assoc before (t ∷ []) ts))

-- ---- documents

all_tenants_back : (s : SettingsData) → AreValidSettings s → tenants_of (document_of s) ≡ Ok s.tenants
unfolding tenants_of
all_tenants_back s h =
    let ts = s.tenants in
    let few : length (map tenant_table ts) ≤ 1000 = rw (length-map ts tenant_table) h.few_tenants in
    rw (
      tables_back (codes "tenant") tenant_table ts (document_of s) refl,
      some_back (missing_key (codes "tenant")) tenant_table ts h.some_tenant,
      few_back 1000 too_many (map tenant_table ts) few,
    )
    (tenants_back [] ts h.tenants.names h.tenants.sections h.tenants.distinct (λ k d _. refl) (λ i d short. omega (arith, h.numbers i d short)))

pub document_back : (s : SettingsData) → AreValidSettings s → settings_of_table (document_of s) ≡ Ok s
unfolding settings_of_table
document_back s h =
    rw (global_back s h.global, all_tenants_back s h, le-leb (spans_of s.tenants) (2 ^ 31) h.few_spans)
    (ap (λ n. Ok (record { global = s.global; tenants = s.tenants; next = n; queue_bytes = most_queue_bytes })) (sym h.next)
    ∙ ap (λ n. Ok (record { global = s.global; tenants = s.tenants; next = s.next; queue_bytes = n })) (sym h.queue_bytes))

pub text_back_to : (text : List ℕ) (s : SettingsData) → parse_document text ≡ Some (document_of s) → AreValidSettings s → settings_of text ≡ Ok s
unfolding settings_of
text_back_to text s parsed h = rw parsed (document_back s h)
