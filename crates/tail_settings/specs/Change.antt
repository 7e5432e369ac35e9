-- Tenants that come to settings in force, each read from a document of its own, and tenants that leave them. This
-- project's own rule.
use Rattle.std.specs.Prelude.{codes, ℕ, ◌≡◌, ◌+◌, ◌<◌, ◌==◌, ◌^◌, ◌&&◌, ◌⊎◌, not, List, [], ◌∷◌, ◌++◌, length, filter, None, Result, Ok, Err, nat_lt, if◌then◌else◌}
use Rattle.toml.specs.Data.{Members}
use Rattle.toml.specs.Parse.{parse_document}
use Rattle.tail_settings.specs.Fault.{FaultData, missing_key, out_of_range, too_many, ◌>>=◌}
use Rattle.tail_settings.specs.Keys.{tables_at}
use Rattle.tail_settings.specs.QueueBytes.{bounded_tenant}
use Rattle.tail_settings.specs.Settings.{TenantData, SettingsData, tenant_at, numbered_tenant, few_spans, document_in}

-- the only table of an array
abbrev pub only_one : List Members → Result Members FaultData
only_one [] = Err (missing_key (codes "tenant"))
only_one (table ∷ []) = Ok table
only_one (table ∷ more ∷ tables) = Err (out_of_range (codes "tenant"))

-- the table of a document's only tenant
unfoldable pub only_tenant : Members → Result Members FaultData
only_tenant document = do
  tables ← tables_at (codes "tenant") document
  only_one tables

-- the next number, where fewer than 1,000 tenants are present and not all numbers of 32 bits were given
abbrev pub free_number : SettingsData → Result ℕ FaultData
free_number s = if nat_lt (length s.tenants) 1000 && nat_lt s.next (2 ^ 32) then Ok s.next else Err too_many

-- the settings with one more tenant, who has the next number
abbrev pub joined : SettingsData → TenantData → SettingsData
joined s tenant = record s { tenants = s.tenants ++ tenant ∷ []; next = s.next + 1 }

-- settings whose tenants may hold at most 2^31 spans together
abbrev pub fitting : SettingsData → Result SettingsData FaultData
fitting s = few_spans s.tenants >>= λ _. Ok s

-- the settings with a document's one tenant behind those present, or the document's first fault; of a document nothing
-- but its tenant is read, whose queue has the bound that these settings give to who comes
unfoldable pub admitted_table : SettingsData → Members → Result SettingsData FaultData
admitted_table s document = do
  table ← only_tenant document
  number ← free_number s
  tenant ← numbered_tenant number s.tenants table
  fitting (joined s (bounded_tenant s.queue_bytes tenant))

-- the settings with the tenant of a text, or the text's first fault
unfoldable pub admitted : SettingsData → List ℕ → Result SettingsData FaultData
admitted s text = document_in (parse_document text) >>= admitted_table s

-- the settings without the tenant of a number, which no other tenant gets
abbrev pub struck : SettingsData → ℕ → SettingsData
struck s number = record s { tenants = filter (λ t. not (t.number == number)) s.tenants }

-- a tenant comes or leaves
pub data Change : Type 0 where
  admit : List ℕ → Change
  strike : ℕ → Change

-- settings that came of a change, or those before it
abbrev pub or_before : SettingsData → Result SettingsData FaultData → SettingsData
or_before before (Ok s) = s
or_before before (Err fault) = before

-- the settings after a change; one that is refused changes nothing
abbrev pub changed : SettingsData → Change → SettingsData
changed s (admit text) = or_before s (admitted s text)
changed s (strike number) = struck s number

-- the settings after changes, one by one
abbrev pub after : SettingsData → List Change → SettingsData
after s [] = s
after s (change ∷ changes) = after (changed s change) changes

-- a number that was given has its tenant or none, whatever comes and leaves; so it is never used again
abbrev pub NumbersAreUsedOnce : Type 0
NumbersAreUsedOnce = (s : SettingsData) (changes : List Change) (number : ℕ) → number < s.next
    → (tenant_at (after s changes) number ≡ tenant_at s number) ⊎ (tenant_at (after s changes) number ≡ None)
