-- When a tenant holds no spans. This project's own rule.
use Rattle.std.specs.Prelude.{Bool, false, Option, Some, None}
use Rattle.tenant_rules.specs.Retiring.{holds_none}
use Rattle.tenant_rules.specs.State.{State}

-- the tenant is a member, and holds none
abbrev pub is_empty : Option State → Bool
is_empty None = false
is_empty (Some kept) = holds_none kept.ledger.places
