-- Faults are equal where they say the same of the document.
use Rattle.std.proofs.Common.{◌≡◌, true, refl}
use Rattle.std.specs.Prelude.{◌↔◌}
use Rattle.std.proofs.lemmas.Slice.Eq.{bytes_eq-Decides}
use Rattle.tail_settings.specs.contracts.fault.SettingsFaultPartialEq.TheImpl as fault_equal
use Rattle.tail_settings.specs.declared.fault.SettingsFault.{SettingsFault}
use Rattle.tail_settings.specs.declared.fault.SettingsFault.TheVariants as faults
use Rattle.tail_settings.specs.Fault.{fault_view}
use Rattle.tail_settings.proofs.Policies.{texts_equal}

pub faults_equal : (a b : SettingsFault) → (fault_equal.eq-value.it a b ≡ true) ↔ (fault_view a ≡ fault_view b)
faults_equal faults.NotToml faults.NotToml = (λ _. refl, λ _. refl)
faults_equal (faults.MissingKey k) (faults.MissingKey l) =
    let keys = bytes_eq-Decides k.now l.now in
    (λ h. let same = keys.0 h in cc, λ h. keys.1 cc)
faults_equal (faults.WrongKind k) (faults.WrongKind l) =
    let keys = bytes_eq-Decides k.now l.now in
    (λ h. let same = keys.0 h in cc, λ h. keys.1 cc)
faults_equal (faults.OutOfRange k) (faults.OutOfRange l) =
    let keys = bytes_eq-Decides k.now l.now in
    (λ h. let same = keys.0 h in cc, λ h. keys.1 cc)
faults_equal (faults.DoubleTenant k) (faults.DoubleTenant l) =
    let names = texts_equal k l in
    (λ h. let same = names.0 h in cc, λ h. names.1 cc)
faults_equal faults.TooMany faults.TooMany = (λ _. refl, λ _. refl)
faults_equal faults.OutOfMemory faults.OutOfMemory = (λ _. refl, λ _. refl)
faults_equal _ _ = (λ h. cc, λ h. cc)
