-- The moments that a beat gives. This project's own rule.
use Rattle.std.specs.Prelude.{◌≡◌, ℕ, ◌≤◌, List, [], ◌∷◌}
use Rattle.export_edge.specs.Work.{BeatCall, looked, gave, paused}

-- what a call of a beat makes of its last moment: the one that it gives, which isn't below it, and nothing else
abbrev pub RisesBy : ℕ → BeatCall → ℕ → Type 0
RisesBy before (looked over) last = last ≡ before
RisesBy before (gave moment) last = (before ≤ moment) × (last ≡ moment)
RisesBy before paused last = last ≡ before

-- a beat whose last moment was the first of these gave these moments, none below the one before it, and its last one is
-- now this
abbrev pub Rises : ℕ → List ℕ → ℕ → Type 0
Rises before [] last = last ≡ before
Rises before (moment ∷ moments) last = (before ≤ moment) × Rises moment moments last
