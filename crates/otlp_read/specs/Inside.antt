-- What is promised of the messages in a body: they have their values and faults by the same rules as the body itself
-- (the proto3 encoding guide, "Submessages").
use Rattle.std.specs.Prelude.{◌≡◌, ◌↔◌, ◌-◌, ℕ, suc, List, Ok, Err}
use Rattle.otlp_read.specs.declared.fault.ReadFault.{ReadFault}
use Rattle.otlp_read.specs.declared.fault.ReadFault.TheVariants.{TooDeep}
use Rattle.otlp_read.specs.Stands.{Makes, Stands}
use Rattle.otlp_read.specs.Walk.{Step, Reader}

-- A reader gives what the fields of a text make, and else names a fault that stands in the text, never both. With room
-- for so many levels, its own among them, it is at depth 101 less that room; where there is room for none, each text is
-- refused, an empty one too.
pub record ReadsByFields {A : Type 0} (step : ℕ → Step A) (read : ℕ → Reader A) : Type 0 where
  pub value : (room : ℕ) (a b : A) (bytes : List ℕ)
      → (read (suc room) a bytes ≡ Ok b) ↔ Makes (step room) (100 - room) a bytes b
  pub fault : (room : ℕ) (a : A) (bytes : List ℕ) (fault : ReadFault)
      → read (suc room) a bytes ≡ Err fault → Stands (step room) (100 - room) a bytes fault
  pub apart : (room : ℕ) (a b : A) (bytes : List ℕ) (fault : ReadFault)
      → Stands (step room) (100 - room) a bytes fault → Makes (step room) (100 - room) a bytes b → ⊥
  pub deep : (a : A) (bytes : List ℕ) → read 0 a bytes ≡ Err TooDeep
