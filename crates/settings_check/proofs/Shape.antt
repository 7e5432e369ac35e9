-- The document that says all of some settings is not deep, and has no dates.
use Rattle.std.proofs.Common.{◌≡◌, ℕ, ◌+◌, ◌≤◌, true, List, [], ◌∷◌, map, refl, arith}
use Rattle.toml.specs.Data.{string, table, Members, items_depth, members_depth, items_have_valid_dates, members_have_valid_dates}
use Rattle.toml.specs.View.{items_of}
use Rattle.tail_settings.specs.Policy.{LeafData, always_sample, latency, status_code, string_attribute, numeric_attribute, PolicyData, leaf, and}
use Rattle.tail_settings.specs.Settings.{TenantData, SettingsData}
use Rattle.tail_settings.specs.TailSampling.{TailSamplingData}
use Rattle.settings_check.specs.Document.{status_name, leaf_table, policy_table, sampling_table, tenant_table, document_of}

texts_depth : {A : Type 0} (f : A → List ℕ) (xs : List A) → items_depth (items_of (map (λ x. string (f x)) xs)) ≡ 0
texts_depth f [] = refl
texts_depth f (x ∷ xs) = rw (texts_depth f xs) refl

tables_depth : {A : Type 0} (f : A → Members) (n : ℕ) → ((x : A) → members_depth (f x) ≤ n) → (xs : List A) → items_depth (items_of (map (λ x. table (f x)) xs)) ≤ n + 1
tables_depth f n h [] = omega arith
tables_depth f n h (x ∷ xs) = let here = h x in let rest = tables_depth f n h xs in omega arith

leaf_depth : (l : LeafData) → members_depth (leaf_table l) ≤ 2
leaf_depth always_sample = omega arith
leaf_depth (latency t) = omega arith
leaf_depth (status_code ss) = let flat = texts_depth status_name ss in omega arith
leaf_depth (string_attribute key values) = let flat = texts_depth (λ (v : List ℕ). v) values in omega arith
leaf_depth (numeric_attribute key low high) = omega arith

policy_depth : (p : PolicyData) → members_depth (policy_table p) ≤ 4
policy_depth (leaf l) = let low = leaf_depth l in omega arith
policy_depth (and ls) = let low = tables_depth leaf_table 2 leaf_depth ls in omega arith

sampling_depth : (s : TailSamplingData) → members_depth (sampling_table s) ≤ 6
sampling_depth s = let low = tables_depth policy_table 4 policy_depth s.policies in omega arith

tenant_depth : (t : TenantData) → members_depth (tenant_table t) ≤ 7
tenant_depth t = let low = sampling_depth t.section.tail_sampling in omega arith

pub document_depth : (s : SettingsData) → members_depth (document_of s) ≤ 80
document_depth s = let low = tables_depth tenant_table 7 tenant_depth s.tenants in omega arith

texts_dates : {A : Type 0} (f : A → List ℕ) (xs : List A) → items_have_valid_dates (items_of (map (λ x. string (f x)) xs)) ≡ true
texts_dates f [] = refl
texts_dates f (x ∷ xs) = texts_dates f xs

tables_dates : {A : Type 0} (f : A → Members) → ((x : A) → members_have_valid_dates (f x) ≡ true) → (xs : List A) → items_have_valid_dates (items_of (map (λ x. table (f x)) xs)) ≡ true
tables_dates f h [] = refl
tables_dates f h (x ∷ xs) = rw (h x) (tables_dates f h xs)

leaf_dates : (l : LeafData) → members_have_valid_dates (leaf_table l) ≡ true
leaf_dates always_sample = refl
leaf_dates (latency t) = refl
leaf_dates (status_code ss) = rw (texts_dates status_name ss) refl
leaf_dates (string_attribute key values) = rw (texts_dates (λ (v : List ℕ). v) values) refl
leaf_dates (numeric_attribute key low high) = refl

policy_dates : (p : PolicyData) → members_have_valid_dates (policy_table p) ≡ true
policy_dates (leaf l) = leaf_dates l
policy_dates (and ls) = rw (tables_dates leaf_table leaf_dates ls) refl

sampling_dates : (s : TailSamplingData) → members_have_valid_dates (sampling_table s) ≡ true
sampling_dates s = rw (tables_dates policy_table policy_dates s.policies) refl

tenant_dates : (t : TenantData) → members_have_valid_dates (tenant_table t) ≡ true
tenant_dates t = rw (sampling_dates t.section.tail_sampling) refl

pub document_dates : (s : SettingsData) → members_have_valid_dates (document_of s) ≡ true
document_dates s = rw (tables_dates tenant_table tenant_dates s.tenants) refl
