use Rattle.std.proofs.Common.{◌≡◌, ◌∙◌, None, subst, sym}
use Rattle.tail_settings.specs.Settings.{number_of}
use Rattle.service_front.specs.Pages.{IsNobody, no_text, not_known}
use Rattle.service_front.proofs.lookup.find.Goals as goal

pub returns-in-Err-clause-nobody : goal.returns-in-Err-clause-nobody
returns-in-Err-clause-nobody g c none = no_text c.in-Err.ensures.cases.0

pub returns-in_err-number-in-Ok-clause-nobody : goal.returns-in_err-number-in-Ok-clause-nobody
returns-in_err-number-in-Ok-clause-nobody g c none =
    let found = c.number_of.ensures in
    let nobody : number_of found.0 c.in-Ok.name.now ≡ None = sym found.2 ∙ c.in_err-number-in-Ok.was in
    subst (λ n. IsNobody g.J.SettingsNaming.first n) c.in-Ok.ensures.cases.0 (not_known found.0 found.1 nobody)
