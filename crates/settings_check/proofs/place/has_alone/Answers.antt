use Rattle.std.proofs.Common.{◌≡◌, Bool, Some, Err, string_bytes, arith}
use Rattle.std.specs.Prelude.{◌↔◌, IsSome, IsTrue}
use Rattle.std.proofs.lemmas.Grind.{common_steps}
use Rattle.std.proofs.lemmas.Result.{IfOk-weaker}
use Rattle.toml.specs.Data.{as_table}
use Rattle.toml.specs.View.{view}
use Rattle.tail_settings.specs.Fault.{FaultData, fault_view}
use Rattle.tail_settings.specs.Settings.{settings_of}
use Rattle.settings_check.specs.Place.{document_with, IsWritable, HasAlone}
use Rattle.settings_check.proofs.Alone.{alone_iff}
use Rattle.settings_check.proofs.place.has_alone.Goals as goal

pub returns-in-Some : goal.returns-in-Some
returns-in-Some c =
    let d = view c.args.value.now in
    let level = c.args.level in
    let text = string_bytes c.in-Some.text in
    let fault = c.args.fault.now in
    let some : IsSome (as_table d) = grind (arith, common_steps) in
    IfOk-weaker c.has_fault.result
    (λ (has : Bool). (seen : FaultData) → fault_view fault ≡ Some seen → (IsTrue has ↔ (settings_of c.as_str.result.now ≡ Err seen)))
    (λ (has : Bool). (seen : FaultData) → fault_view fault ≡ Some seen → IsWritable (document_with level d) → (IsTrue has ↔ HasAlone level seen d))
    (λ has same seen is w. alone_iff level seen d text has some (rw c.in-Some.is at (c.in_ok-text.ensures w)) (rw c.as_str.ensures.value at (same seen is)))
    c.has_fault.ensures
