-- One tenant's part of a pool of spans, as a function of keys: this project's own rule. A span is of any type, of which
-- `owner` tells whose it is.
use Rattle.std.specs.Prelude.{ℕ, List, [], ◌∷◌, Option, Some, None, if◌then◌else◌, ◌==◌}
use Rattle.slab.specs.Slab.{Slab, get}

-- the span, where this tenant owns it
abbrev pub owned : {X : Type 0} → (X → ℕ) → ℕ → Option X → Option X
owned owner tenant None = None
owned owner tenant (Some span) = if owner span == tenant then Some span else None

-- what a tenant owns of a pool, by key
abbrev pub part : {X : Type 0} → (X → ℕ) → ℕ → Slab X → ℕ → Option X
part owner tenant pool key = owned owner tenant (get pool key)

-- the same part with another span, or none, at one key
abbrev pub with_span : {X : Type 0} → ℕ → Option X → (ℕ → Option X) → ℕ → Option X
with_span key slot at other = if other == key then slot else at other

-- the same part with none at these keys
abbrev pub without : {X : Type 0} → List ℕ → (ℕ → Option X) → ℕ → Option X
without [] at = at
without (key ∷ keys) at = without keys (with_span key None at)
