-- What a script's commands go by, which they change. This project's own rule.
use Rattle.std.specs.Prelude.{ℕ, ◌==◌, List, [], if◌then◌else◌}
use Rattle.tail_settings.specs.Settings.{SettingsData}
use Rattle.tenant_rules.specs.Own.{Own}

-- between two commands
pub record Session : Type 0 where
  pub table : SettingsData  -- the settings as they are now, which tenants join and leave
  pub pasts : ℕ → List Own  -- the own steps that the tenant of each number has had before, the newest first

-- before the first step
abbrev pub no_steps : ℕ → List Own
no_steps tenant = []

-- before the first command
abbrev pub begun : SettingsData → Session
begun settings = record { table = settings; pasts = no_steps }

-- the own steps where a tenant joined that has had none
abbrev pub new_among : (ℕ → List Own) → ℕ → ℕ → List Own
new_among pasts number tenant = if tenant == number then [] else pasts tenant
