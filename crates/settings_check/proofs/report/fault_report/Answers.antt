use Rattle.std.proofs.Common.{◌≡◌, ◌++◌, Some, string_bytes, ap, subst, ◌∙◌, arith, rules}
use Rattle.std.specs.Prelude.{unwrap_or}
use Rattle.std.proofs.lemmas.Grind.{common_steps}
use Rattle.toml.specs.Data.{no_members}
use Rattle.toml.specs.Parse.{parse_document}
use Rattle.tail_settings.specs.Fault.{FaultData, fault_view}
use Rattle.settings_check.specs.Place.{place_view, IsPlace}
use Rattle.settings_check.specs.Warning.{warnings_of}
use Rattle.settings_check.proofs.Alone.{keys_by_ref}
use Rattle.settings_check.proofs.Reports.{fault_reports, by_ref}
use Rattle.settings_check.proofs.report.fault_report.Goals as goal

pub returns : goal.returns
returns c =
    let read = by_ref c.as_ref-2.result c.in_ok-document.document c.as_ref-2.ensures.value ∙ c.in_ok-document.ensures in
    let whole : string_bytes c.in_ok-told.told ≡ string_bytes c.in_ok-head.head ++ warnings_of (parse_document c.args.text.now) = grind (arith, common_steps, read) in
    let keys = keys_by_ref c.as_ref.result c.in_ok-document.document c.as_ref.ensures.value ∙ ap (λ o. unwrap_or o no_members) c.in_ok-document.ensures in
    let named = λ (seen : FaultData) (is : fault_view c.args.fault.now ≡ Some seen).
    subst (λ m. IsPlace seen m (place_view c.in_ok-place.place)) keys (c.in_ok-place.ensures seen is) in
    fault_reports (fault_view c.args.fault.now) (place_view c.in_ok-place.place) c.args.text.now c.as_str.result.now (string_bytes c.in_ok-head.head) (string_bytes c.in_ok-told.told) _ c.in_ok-head.ensures c.requires named whole (search rules)
