-- A message that comes so many times, one after another. This project's own rule.
use Rattle.std.specs.Prelude.{ℕ, List, flat_map, replicate}

-- the bytes of that
abbrev pub repeated : List ℕ → ℕ → List ℕ
repeated message count = flat_map (λ m. m) (replicate count message)
