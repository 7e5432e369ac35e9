-- Texts that are written of a value, whole or at the front. Canonical text is that of `otlp_trace`'s Text, in the
-- proto3 encoding.
use Rattle.std.specs.Prelude.{◌≡◌, List, ℕ, ◌++◌}

-- the text is what is written of a sound value
pub record Whole {A : Type 0} (write : A → List ℕ) (Sound : A → Type 0) (text : List ℕ) : Type 0 where
  pub value : A
  pub sound : Sound value
  pub same : text ≡ write value

-- the text is what is written of a sound value, and the rest behind it
pub record Front {A : Type 0} (write : A → List ℕ) (Sound : A → Type 0) (text rest : List ℕ) : Type 0 where
  pub value : A
  pub sound : Sound value
  pub parts : text ≡ write value ++ rest
