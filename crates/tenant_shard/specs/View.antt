-- What a shard keeps of each number that is or was a member's. This project's own rule.
use Rattle.std.specs.Prelude.{◌≡◌, ℕ, Bool, false, List, [], ◌∷◌, Option, None, if◌then◌else◌, ◌==◌, ◌||◌}
use Rattle.tenant_rules.specs.State.{State}

-- a number that is or was a member's, and what is kept of it: nothing where it is gone
pub record View : Type 0 where
  pub tenant : ℕ
  pub kept : Option State

-- what is kept of a tenant, or none where it is no member
abbrev pub kept_of : ℕ → List View → Option State
kept_of tenant [] = None
kept_of tenant (view ∷ views) = if view.tenant == tenant then view.kept else kept_of tenant views

-- whether a tenant is or was a member
abbrev pub was_of : ℕ → List View → Bool
was_of tenant [] = false
was_of tenant (view ∷ views) = view.tenant == tenant || was_of tenant views

-- the same is kept of a tenant, and it is or was a member as before
abbrev pub StaysOf : ℕ → List View → List View → Type 0
StaysOf tenant old new = (kept_of tenant new ≡ kept_of tenant old) × (was_of tenant new ≡ was_of tenant old)
