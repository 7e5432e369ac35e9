-- What a settings document is refused for, with the key or the name that the fault is about. This project's own rule.
use Rattle.std.specs.Prelude.{◌≡◌, ℕ, List, string_bytes, Option, Some, None, Result, Ok, Err, IfSome, IsSome}
use Rattle.tail_settings.specs.declared.fault.SettingsFault.{SettingsFault}
use Rattle.tail_settings.specs.declared.fault.SettingsFault.TheVariants as faults

-- a fault of the document, in the order of its numbers
pub data FaultData : Type 0 where
  not_toml : FaultData
  missing_key : List ℕ → FaultData
  wrong_kind : List ℕ → FaultData
  out_of_range : List ℕ → FaultData
  double_tenant : List ℕ → FaultData
  too_many : FaultData

-- the number by which a fault is reported
abbrev pub fault_number : FaultData → ℕ
fault_number not_toml = 10
fault_number (missing_key key) = 11
fault_number (wrong_kind key) = 12
fault_number (out_of_range key) = 13
fault_number (double_tenant name) = 14
fault_number too_many = 15

-- the fault of the document that a Rust fault tells; refused memory is none
abbrev pub fault_view : SettingsFault → Option FaultData
fault_view faults.NotToml = Some not_toml
fault_view (faults.MissingKey key) = Some (missing_key key.now)
fault_view (faults.WrongKind key) = Some (wrong_kind key.now)
fault_view (faults.OutOfRange key) = Some (out_of_range key.now)
fault_view (faults.DoubleTenant name) = Some (double_tenant (string_bytes name))
fault_view faults.TooMany = Some too_many
fault_view faults.OutOfMemory = None

infixl 10 ◌>>=◌
-- the first fault is the answer
abbrev pub ◌>>=◌ : {A B : Type 0} → Result A FaultData → (A → Result B FaultData) → Result B FaultData
(Ok x) >>= f = f x
(Err e) >>= f = Err e

-- a fault of the document, which refused memory is not
abbrev pub IsOfDocument : SettingsFault → Type 0
IsOfDocument e = IsSome (fault_view e)

-- a fault is the one that the meaning has; refused memory says nothing of it
abbrev pub TellsFault : {A : Type 0} → SettingsFault → Result A FaultData → Type 0
TellsFault e meaning = IfSome (fault_view e) (λ fault. meaning ≡ Err fault)

-- a result, seen by its view, is what the meaning is
abbrev pub Tells : {X A : Type 0} → (X → A) → Result X SettingsFault → Result A FaultData → Type 0
Tells view (Ok x) meaning = meaning ≡ Ok (view x)
Tells view (Err e) meaning = TellsFault e meaning
