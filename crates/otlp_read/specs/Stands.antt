-- What message a text's fields make, and where a fault stands in the text (the proto3 encoding guide, "Message
-- Structure"; faults are this project's own).
use Rattle.std.specs.Prelude.{◌≡◌, ℕ, List, ◌++◌, Ok, Err}
use Rattle.pb_wire.specs.declared.field.WireFault.{WireFault}
use Rattle.pb_wire.specs.Grammar.{Entry, IsField, Fault}
use Rattle.otlp_read.specs.declared.fault.ReadFault.{ReadFault}
use Rattle.otlp_read.specs.Fault.{of_wire}
use Rattle.otlp_read.specs.Walk.{Step, Piece, Pieces, fold_fields}

-- at depth d the text is fields, and they make the message b of a
pub record Makes {A : Type 0} (step : Step A) (d : ℕ) (a : A) (text : List ℕ) (b : A) : Type 0 where
  pub pieces : List Piece
  pub are : Pieces d text pieces
  pub made : fold_fields step a pieces ≡ Ok b

-- After fields that are sound stands no field, or one that can't be taken.
pub data Stands {A : Type 0} (step : Step A) (d : ℕ) : A → List ℕ → ReadFault → Type 0 where
  no_field : {a : A} {text : List ℕ} {wire : WireFault} {fault : ReadFault}
      → Fault d text wire → fault ≡ of_wire wire → Stands step d a text fault
  unsound : {a : A} {text : List ℕ} {field : Entry} {fault : ReadFault} (rest : List ℕ)
      → IsField d text field → step a field text ≡ Err fault → Stands step d a (text ++ rest) fault
  behind : {a b : A} {text rest : List ℕ} {field : Entry} {fault : ReadFault}
      → IsField d text field → step a field text ≡ Ok b → Stands step d b rest fault
      → Stands step d a (text ++ rest) fault
