use Rattle.std.proofs.Common.{subst}
use Rattle.tenant_registry.specs.Changed.{TellsRetiring}
use Rattle.tenant_registry.proofs.Answered.{if_ok, if_told}
use Rattle.service_front.specs.Pages.{TellsGoing, asked, not_asked}
use Rattle.service_front.proofs.pages.ask_to_go.Goals as goal

pub returns-in_default : goal.returns-in_default
returns-in_default g c =
    if_told c.unknown.result _ (TellsGoing g.J.SettingsNaming.first c.args.name.now) c.unknown.ensures
    (λ told is. not_asked (c.find.ensures.nobody c.in_default.is) is)

pub returns : goal.returns
returns g c =
    if_ok c.retired.result (TellsRetiring c.ask-asked.result c.in-Some.name.now) (TellsGoing g.J.SettingsNaming.first c.args.name.now)
    (λ told is. asked c.in-Some.field-0-1 c.ask-asked.result c.in-Some.ensures.known
    (subst (λ n. TellsRetiring c.ask-asked.result n told) c.in-Some.ensures.name is)) c.retired.ensures
