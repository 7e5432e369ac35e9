-- What was read, where something was.
use Rattle.std.proofs.Common.{◌≡◌, true, Result, Ok, Err, refl, ap}
use Rattle.std.specs.Prelude.{is_ok}
use Rattle.otlp_read.specs.declared.fault.ReadFault.{ReadFault}
use Rattle.otlp_parts.specs.ReadAs.{value_or}

pub value_is : {A : Type 0} (other : A) (r : Result A ReadFault) → is_ok r ≡ true → r ≡ Ok (value_or other r)
value_is other (Ok a) is = refl
value_is {A = A} other (Err f) is = absurd (cc)

pub of_value : {A : Type 0} (other a : A) (r : Result A ReadFault) → r ≡ Ok a → value_or other r ≡ a
of_value other a r is = ap (value_or other) is

pub ok_of : {A : Type 0} (a : A) (r : Result A ReadFault) → r ≡ Ok a → is_ok r ≡ true
ok_of a r is = ap is_ok is
