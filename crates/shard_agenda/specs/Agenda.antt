-- The members of a shard, and when each is ready next: this project's own rule.
use Rattle.std.specs.Prelude.{◌≡◌, ℕ, suc, Bool, false, List, [], ◌∷◌, Option, Some, None, if◌then◌else◌, ◌==◌, ◌||◌, option_map}
use Rattle.shard_agenda.specs.declared.AgendaEntry.{AgendaEntry}

-- a member's ready moment; none of a tenant that is no member
abbrev pub ready_of : List AgendaEntry → ℕ → Option ℕ
ready_of [] tenant = None
ready_of (e ∷ es) tenant = if e.tenant == tenant then e.ready else ready_of es tenant

-- a tenant stands among the entries
abbrev pub is_member : List AgendaEntry → ℕ → Bool
is_member [] tenant = false
is_member (e ∷ es) tenant = e.tenant == tenant || is_member es tenant

-- one tenant's moment is another
abbrev pub with_ready : ℕ → Option ℕ → (ℕ → Option ℕ) → ℕ → Option ℕ
with_ready tenant ready ready_at other = if other == tenant then ready else ready_at other

-- each member stands once
abbrev pub AreApart : List AgendaEntry → Type 0
AreApart [] = Unit
AreApart (e ∷ es) = (is_member es e.tenant ≡ false) × AreApart es

-- at which place a tenant's entry stands; none of a tenant that is no member
abbrev pub place : ℕ → List AgendaEntry → Option ℕ
place tenant [] = None
place tenant (e ∷ es) = if e.tenant == tenant then Some 0 else option_map (λ at. suc at) (place tenant es)
