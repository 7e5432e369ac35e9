-- Whom a turn goes to: this project's own rule.
use Rattle.std.specs.Prelude.{◌≡◌, ℕ, ◌<◌, ◌≤◌, ◌⊎◌, Option, Some, None}

-- a pair of a moment and a number is not after another
abbrev pub NotAfter : ℕ → ℕ → ℕ → ℕ → Type 0
NotAfter moment number moment' number' = (moment < moment') ⊎ ((moment ≡ moment') × (number ≤ number'))

-- a turn goes to the tenant that is ready by now with the least (moment, number), or to none where none is ready by now
abbrev pub IsPick : (ℕ → Option ℕ) → ℕ → Option ℕ → Type 0
IsPick ready_when now None = (tenant moment : ℕ) → ready_when tenant ≡ Some moment → now < moment
IsPick ready_when now (Some picked) = (least : ℕ) × (ready_when picked ≡ Some least) × (least ≤ now)
    × ((tenant moment : ℕ) → ready_when tenant ≡ Some moment → NotAfter least picked moment tenant)

-- the least moment of any tenant, or none where none has one
abbrev pub IsNext : (ℕ → Option ℕ) → Option ℕ → Type 0
IsNext ready_when None = (tenant : ℕ) → ready_when tenant ≡ None
IsNext ready_when (Some least) = ((tenant : ℕ) × (ready_when tenant ≡ Some least))
    × ((tenant moment : ℕ) → ready_when tenant ≡ Some moment → least ≤ moment)
