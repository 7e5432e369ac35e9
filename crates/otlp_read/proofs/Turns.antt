-- The turns of a reader's loop, which keeps that what is left, read on, gives what the whole reading gives.
use Rattle.std.proofs.Common.{◌≡◌, ℕ, List, Some, None, Result, Ok, Err, sym, ◌∙◌}
use Rattle.pb_wire.specs.declared.field.WireFault.{WireFault}
use Rattle.pb_wire.specs.Grammar.{Entry}
use Rattle.pb_wire.specs.Reading.{next_at}
use Rattle.otlp_read.specs.declared.fault.ReadFault.{ReadFault}
use Rattle.otlp_read.specs.Fault.{of_wire, Fails, Gives}
use Rattle.otlp_read.specs.Walk.{Step, before, walk}
use Rattle.otlp_read.proofs.Walks.{turn_end, turn_wire, turn_more, turn_fault, gives_wire, gives_fault}

pub record LeftGives {Y : Type 0} (step : Step Y) (d : ℕ) (y : Y) (left : List ℕ) (read : Result Y ReadFault) : Type 0 where
  pub same : walk step d y left ≡ read

-- no field is left
pub ends : {Y : Type 0} {step : Step Y} {d : ℕ} {y : Y} {left : List ℕ} {read : Result Y ReadFault} → LeftGives step d y left read → next_at d left ≡ Ok None → read ≡ Ok y
ends {step = step} {d = d} {y = y} {left = left} gives none = sym gives.same ∙ turn_end step d y left none

-- a field is taken
pub goes_on : {Y : Type 0} {step : Step Y} {d : ℕ} {y z : Y} {left rest : List ℕ} {field : Entry} {read : Result Y ReadFault} → LeftGives step d y left read → next_at d left ≡ Ok (Some (field, rest)) → step y field (before left rest) ≡ Ok z
    → LeftGives step d z rest read
goes_on {step = step} {d = d} {y = y} {z = z} {left = left} {rest = rest} {field = field} gives found taken = record { same = sym (turn_more step d y z left rest field found taken) ∙ gives.same }

-- no field begins here
pub stops : {X Y : Type 0} (view : X → Y) {step : Step Y} {d : ℕ} {y : Y} {left : List ℕ} {read : Result Y ReadFault} {f : WireFault} {r : Result X ReadFault} {x : ReadFault} → LeftGives step d y left read → next_at d left ≡ Err f → r ≡ Err x → x ≡ of_wire f
    → Gives view r read
stops view {step = step} {d = d} {y = y} {left = left} {read = read} {f = f} {r = r} {x = x} gives faulty is of = gives_wire view r x f read is of (sym gives.same ∙ turn_wire step d y left f faulty)

-- a field can't be taken
pub fails : {X Y : Type 0} (view : X → Y) {step : Step Y} {d : ℕ} {y : Y} {left rest : List ℕ} {field : Entry} {read : Result Y ReadFault} {e : ReadFault} {r : Result X ReadFault} {x : ReadFault} → LeftGives step d y left read → next_at d left ≡ Ok (Some (field, rest))
    → Fails e (step y field (before left rest)) → r ≡ Err x → x ≡ e → Gives view r read
fails view {step = step} {d = d} {y = y} {left = left} {rest = rest} {field = field} {read = read} {e = e} {r = r} {x = x} gives found failed is of =
    gives_fault view r x e (step y field (before left rest)) read is of failed (λ h. sym gives.same ∙ turn_fault step d y left rest field e found h)
