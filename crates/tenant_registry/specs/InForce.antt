-- Settings in force, to which tenants come and which they leave while threads look at them under a lock. This project's
-- own rule.
use Rattle.std.specs.Prelude.{◌≡◌, ◌⊎◌, ◌+◌, ◌-◌, ◌^◌, ℕ, min, List, [], ◌∷◌, ◌++◌, Option, Some, None, Ok, Err, option_map, string_bytes}
use Rattle.otlp_front.specs.Route.{Route, post, refuse, unknown_tenant}
use Rattle.otlp_front.specs.Seen.{response_for}
use Rattle.tail_settings.specs.Change.{Change, admit, strike, after, admitted}
use Rattle.tail_settings.specs.Fault.{FaultData}
use Rattle.tail_settings.specs.Section.{SectionData, section_view}
use Rattle.tail_settings.specs.Settings.{SettingsData, tenant_at, section_at}
use Rattle.tenant_registry.specs.declared.in_force.Newcomer.{Newcomer}
use Rattle.tenant_registry.specs.declared.in_force.Destination.{Destination}
use Rattle.tenant_registry.specs.declared.in_force.Destination.TheVariants.{To, Nowhere}

-- settings that came of the first ones by changes, one after the other: whoever takes the lock finds such
abbrev pub CameOf : SettingsData → SettingsData → Type 0
CameOf first now = ∥ ((changes : List Change) × (now ≡ after first changes)) ∥₁

-- the settings of no service
abbrev pub no_settings : SettingsData
no_settings = record {
  global = record {
    shards = 0;
    parts = 0;
    receivers = 0;
    senders = 0;
    lane_size = 0;
    listen = [];
    tenant_header = [];
  };
  tenants = [];
  next = 0;
  queue_bytes = 0;
}

-- under settings that came of the first ones this is the back end of the tenant with this number, or there is none
abbrev pub HasBackEnd : SettingsData → ℕ → Option (List ℕ) → Type 0
HasBackEnd first tenant address =
    (now : SettingsData) × CameOf first now × (address ≡ option_map (λ s. s.endpoint) (section_at now tenant))

-- under settings that came of the first ones the tenant of this number has this name
abbrev pub HasName : SettingsData → ℕ → List ℕ → Type 0
HasName first tenant name =
    (now : SettingsData) × CameOf first now × (option_map (λ t. t.name) (tenant_at now tenant) ≡ Some name)

-- for how long, in milliseconds, spans of a tenant with this section may wait until a batch has them, or the greatest
-- number of 64 bits if that is less
abbrev pub longest_wait : Option SectionData → ℕ
longest_wait (Some section) = min (section.tail_sampling.decision_wait + section.batch.timeout) (2 ^ 64 - 1)
longest_wait None = 0

-- the tenant of this number, with its section; or that there is no such tenant
abbrev pub IsTenant : Option SectionData → ℕ → Destination → Type 0
IsTenant (Some section) number (To tenant own) = (tenant ≡ number) × (section_view own ≡ section)
IsTenant (Some section) number (Nowhere refusal) = ⊥
IsTenant None number (To tenant own) = ⊥
IsTenant None number (Nowhere refusal) = response_for refusal ≡ unknown_tenant

-- where a message goes that has this route under these settings
abbrev pub IsWhere : Route → SettingsData → Destination → Type 0
IsWhere (post number) now destination = IsTenant (section_at now number) number destination
IsWhere (refuse due) now (To tenant own) = ⊥
IsWhere (refuse due) now (Nowhere refusal) = response_for refusal ≡ due

-- who came under settings with the document of this text: their next tenant, with its name and section
pub record IsNewcomer (now : SettingsData) (text : List ℕ) (newcomer : Newcomer) : Type 0 where
  pub grown : SettingsData
  pub admits : admitted now text ≡ Ok grown
  pub number : newcomer.number ≡ now.next
  pub name : option_map (λ t. t.name) (tenant_at grown newcomer.number) ≡ Some (string_bytes newcomer.name)
  pub section : section_at grown newcomer.number ≡ Some (section_view newcomer.section)

-- the tenant of a text came under the settings that these changes made of the first ones, and that is one change more
abbrev pub IsLetIn : SettingsData → List Change → List ℕ → Newcomer → List Change → Type 0
IsLetIn first changes text newcomer left =
    IsNewcomer (after first changes) text newcomer × (left ≡ changes ++ admit text ∷ [])

-- Nobody came with the document of this text under the settings that these changes made of the first ones: its fault is
-- told, and nothing has changed; or memory was refused, and nothing has changed, or its tenant was let in and struck
-- again, so its number is used up.
abbrev pub IsTurnedAway : SettingsData → List Change → List ℕ → Option FaultData → List Change → Type 0
IsTurnedAway first changes text (Some fault) left =
    (admitted (after first changes) text ≡ Err fault) × (left ≡ changes)
IsTurnedAway first changes text None left =
    (left ≡ changes) ⊎ ((grown : SettingsData) × (admitted (after first changes) text ≡ Ok grown)
    × (left ≡ changes ++ admit text ∷ strike (after first changes).next ∷ []))
