-- What the code's list of tenants stands for. This project's own rule.
use Rattle.std.specs.Prelude.{ℕ, ◌<◌, List, map, string_bytes, vec_len, vec_capacity}
use Rattle.tenant_registry.specs.declared.roster.Present.{Present as Entry}
use Rattle.tenant_registry.specs.declared.roster.Roster.{Roster}

-- the tenants that are present, by number and name, in the order of their numbers
abbrev pub Present : Type 0
Present = List (ℕ × List ℕ)

-- a tenant's number and name
abbrev pub entry_of : Entry → ℕ × List ℕ
entry_of p = (p.number, string_bytes p.name)

-- those of all
abbrev pub present_in : Roster → Present
present_in roster = map entry_of roster.tenants.items

-- there is room for one more
abbrev pub HasRoom : Roster → Type 0
HasRoom roster = vec_len roster.tenants < vec_capacity roster.tenants
