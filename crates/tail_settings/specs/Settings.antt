-- All settings, and what a TOML document means as settings: keys in this order, the first fault being the answer. The
-- document is TOML 1.1's (toml.io); its keys and their order are this project's own rule.
use Rattle.std.specs.Prelude.{codes, ℕ, ◌==◌, ◌^◌, List, [], ◌∷◌, ◌++◌, length, map, find, sum_by, Option, Some, None, option_map, Result, Ok, Err, nat_le, string_bytes, String, if◌then◌else◌}
use Rattle.std.specs.List.{list_any}
use Rattle.std.specs.Str.{bytes_eq}
use Rattle.std.specs.declared.alloc.Global.{Global}
use Rattle.toml.specs.Data.{Members}
use Rattle.toml.specs.Parse.{parse_document}
use Rattle.toml.specs.View.{table_view}
use Rattle.tail_settings.specs.declared.parsed.Document.{Document}
use Rattle.tail_settings.specs.declared.settings.Settings.{Settings}
use Rattle.tail_settings.specs.declared.tenant.Tenant.{Tenant}
use Rattle.tail_settings.specs.Fault.{FaultData, not_toml, missing_key, double_tenant, too_many, ◌>>=◌}
use Rattle.tail_settings.specs.Global.{GlobalData, global_view, global_of}
use Rattle.tail_settings.specs.Keys.{text_at, allowed, tables_at, not_empty, at_most, each}
use Rattle.tail_settings.specs.Section.{SectionData, section_view, section_of}
use Rattle.tail_settings.specs.SendingQueue.{most_queue_bytes}
use Rattle.tail_settings.specs.Texts.{is_name}

-- a tenant's number, its name and what its table says beside it
pub record TenantData : Type 0 where
  pub number : ℕ
  pub name : List ℕ
  pub section : SectionData

-- what holds for all tenants, the tenants in the order of their numbers, the number that the next one gets, and how
-- many bytes its queue may hold
pub record SettingsData : Type 0 where
  pub global : GlobalData
  pub tenants : List TenantData
  pub next : ℕ
  pub queue_bytes : ℕ

-- what a Rust entry says
abbrev pub tenant_view : String Global × Tenant → TenantData
tenant_view entry = record {
  number = entry.1.number;
  name = string_bytes entry.0;
  section = section_view entry.1.section;
}

-- what a Rust value says
abbrev pub settings_view : Settings → SettingsData
settings_view s = record {
  global = global_view s.global;
  tenants = map tenant_view s.tenants.entries;
  next = s.next;
  queue_bytes = s.queue_bytes;
}

-- the tenant with a number
abbrev pub tenant_at : SettingsData → ℕ → Option TenantData
tenant_at s number = find (λ t. t.number == number) s.tenants

-- the section of the tenant with a number
abbrev pub section_at : SettingsData → ℕ → Option SectionData
section_at s number = option_map (λ t. t.section) (tenant_at s number)

-- the number of the tenant of a name
abbrev pub number_of : SettingsData → List ℕ → Option ℕ
number_of s name = option_map (λ t. t.number) (find (λ t. bytes_eq name t.name) s.tenants)

-- a name that no tenant before has
abbrev pub new_name : List TenantData → List ℕ → Result (List ℕ) FaultData
new_name before name = if list_any (λ t. bytes_eq name t.name) before then Err (double_tenant name) else Ok name

-- the name in a tenant's table, tested against all tenants before it
unfoldable pub name_of : List TenantData → Members → Result (List ℕ) FaultData
name_of before table = do
  text ← text_at (codes "name") table
  name ← allowed (codes "name") is_name text
  new_name before name

-- a tenant's table, behind those before it; the tenant gets this number
unfoldable pub numbered_tenant : ℕ → List TenantData → Members → Result TenantData FaultData
numbered_tenant number before table = do
  name ← name_of before table
  section ← section_of table
  Ok (record { number = number; name = name; section = section })

-- the same in a document, whose tenants are numbered from 0
abbrev pub tenant_of : List TenantData → Members → Result TenantData FaultData
tenant_of before table = numbered_tenant (length before) before table

-- the tenants, with one more at the end
abbrev pub with_tenant : List TenantData → Members → Result (List TenantData) FaultData
with_tenant before table = tenant_of before table >>= λ t. Ok (before ++ t ∷ [])

-- the tenants of a document, 1 to 1,000
unfoldable pub tenants_of : Members → Result (List TenantData) FaultData
tenants_of document = do
  found ← tables_at (codes "tenant") document
  some ← not_empty (missing_key (codes "tenant")) found
  tables ← at_most 1000 too_many some
  each tenant_of [] tables

-- how many spans all tenants together may hold
abbrev pub spans_of : List TenantData → ℕ
spans_of = sum_by (λ t. t.section.max_spans)

-- tenants that may hold at most 2^31 spans together
abbrev pub few_spans : List TenantData → Result (List TenantData) FaultData
few_spans tenants = if nat_le (spans_of tenants) (2 ^ 31) then Ok tenants else Err too_many

-- a document's settings, or its first fault
unfoldable pub settings_of_table : Members → Result SettingsData FaultData
settings_of_table document = do
  global ← global_of document
  found ← tenants_of document
  tenants ← few_spans found
  Ok (record { global = global; tenants = tenants; next = length tenants; queue_bytes = most_queue_bytes })

-- the document of a text, where there is one
abbrev pub document_in : Option Members → Result Members FaultData
document_in None = Err not_toml
document_in (Some document) = Ok document

-- what a Rust document says
abbrev pub document_view : Document → Members
document_view d = table_view d.table

-- what a text means as settings, or the first fault
unfoldable pub settings_of : List ℕ → Result SettingsData FaultData
settings_of text = document_in (parse_document text) >>= settings_of_table
