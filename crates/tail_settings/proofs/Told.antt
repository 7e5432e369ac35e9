-- A step that fails decides what stands behind it.
use Rattle.std.proofs.Common.{◌≡◌, Option, Some, None, Result, Ok, Err}
use Rattle.std.specs.Prelude.{IfSome}
use Rattle.std.specs.Result.{IsErrAnd}
use Rattle.tail_settings.specs.declared.fault.SettingsFault.{SettingsFault}
use Rattle.std.specs.Prelude.{⊤}
use Rattle.tail_settings.specs.Settings.{settings_of, settings_of_table}
use Rattle.tail_settings.specs.Fault.{FaultData, fault_view, TellsFault, Tells, ◌>>=◌}

told_by : {A B : Type 0} (o : Option FaultData) (m : Result A FaultData) (k : A → Result B FaultData) → IfSome o (λ f. m ≡ Err f) → IfSome o (λ f. (m >>= k) ≡ Err f)
told_by None m k h = tt
told_by (Some f) m k h = rw h

pub tells_more : {A B : Type 0} (e : SettingsFault) (m : Result A FaultData) (k : A → Result B FaultData) → TellsFault e m → TellsFault e (m >>= k)
tells_more e m k h = told_by (fault_view e) m k h

-- the fault of a step, handed on
pub passed_on : {X A B : Type 0} (view : X → B) (r : Result X SettingsFault) (e : SettingsFault) (m : Result A FaultData) (k : A → Result B FaultData) → IsErrAnd r (λ y. y ≡ e) → TellsFault e m → Tells view r (m >>= k)
passed_on view (Ok x) e m k h told = absurd h
passed_on view (Err y) e m k h told = rw h (tells_more e m k told)

-- what a document means
unfoldable pub documents : ⊤
unfolding settings_of settings_of_table
documents = tt
