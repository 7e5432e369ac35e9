use Rattle.std.proofs.Common.{◌≡◌, ◌∙◌, Some, ap, length, option_map, refl, sym}
use Rattle.admin_pages.specs.Settings.{settled_text}
use Rattle.drop_ledger.specs.Ledger.{ledger_of}
use Rattle.http_edge.specs.declared.message.MediaType.TheVariants.{Json}
use Rattle.service_runtime.specs.Notice.{reply_of, unknown_reply}
use Rattle.tail_settings.specs.Section.{section_view}
use Rattle.tail_settings.specs.Settings.{section_at}
use Rattle.tenant_registry.proofs.Answered.{if_ok, on_err}
use Rattle.service_admin.specs.Shown.{ShowsTenant, gone, left, nobody, shown}
use Rattle.service_front.specs.Figures.{figures_with}
use Rattle.service_context.specs.Looks.{nothing}
use Rattle.service_admin.proofs.Shown.{one_looked, one_refused}
use Rattle.service_admin.proofs.figures.tenant_shown.Goals as goal

pub returns-in_default-clause-shown : goal.returns-in_default-clause-shown
returns-in_default-clause-shown g c =
    if_ok c.unknown.result (λ told. told ≡ unknown_reply)
    (λ told. ShowsTenant g.J.SettingsNaming.first (length c.args.context.now.hub.now) c.args.name.now c.args.context.now.caller c.args.context.now.caller told)
    (λ told is. nobody (c.find.ensures.nobody c.in_default.is) refl is) c.unknown.ensures

pub returns-in_default-clause-looks : goal.returns-in_default-clause-looks
returns-in_default-clause-looks g c = on_err c.unknown.result _ nothing

pub returns-in_err-section-clause-looks : goal.returns-in_err-section-clause-looks
returns-in_err-section-clause-looks g c = on_err c.from_residual.result _ nothing

pub returns-in_default-2-clause-shown : goal.returns-in_default-2-clause-shown
returns-in_default-2-clause-shown g c =
    let later = c.in_ok-section.ensures in
    if_ok c.unknown-in_default-2.result (λ told. told ≡ unknown_reply)
    (λ told. ShowsTenant g.J.SettingsNaming.first (length c.args.context.now.hub.now) c.args.name.now c.args.context.now.caller c.args.context.now.caller told)
    (λ told is. left c.in-Some.number c.in-Some.ensures.known (later.0, later.1, sym later.2 ∙ ap (option_map section_view) c.in_default-2.is) refl is)
    c.unknown-in_default-2.ensures

pub returns-in_default-2-clause-looks : goal.returns-in_default-2-clause-looks
returns-in_default-2-clause-looks g c = on_err c.unknown-in_default-2.result _ nothing

pub returns-in_err-counters-clause-looks : goal.returns-in_err-counters-clause-looks
returns-in_err-counters-clause-looks g c =
    on_err c.from_residual-in_err-counters.result _
    (one_refused (length c.args.context.now.hub.now) _ c.in-Some.number _ c.in_err-counters.ensures.refused)

pub returns-in_default-3-clause-shown : goal.returns-in_default-3-clause-shown
returns-in_default-3-clause-shown g c =
    let later = c.in_ok-section.ensures in
    let section = c.in-Some-2.section in
    let at : section_at later.0 c.in-Some.number ≡ Some (section_view section) = sym later.2 ∙ ap (option_map section_view) c.in-Some-2.is in
    if_ok c.unknown-in_default-3.result (λ told. told ≡ unknown_reply)
    (λ told. ShowsTenant g.J.SettingsNaming.first (length c.args.context.now.hub.now) c.args.name.now c.args.context.now.caller _ told)
    (λ told is. gone c.in-Some.number (section_view section) c.in-Some.ensures.known (later.0, later.1, at)
    (rw c.in_default-3.is at c.in_ok-counters.ensures.looked) is)
    c.unknown-in_default-3.ensures

pub returns-in_default-3-clause-looks : goal.returns-in_default-3-clause-looks
returns-in_default-3-clause-looks g c =
    on_err c.unknown-in_default-3.result _ (one_looked _ _ c.in-Some.number _ _ c.in_ok-counters.ensures.looked)

pub returns-clause-looks : goal.returns-clause-looks
returns-clause-looks g c =
    on_err c.tenant_reply.result _
    (rw c.waiting-waiting.ensures.same (one_looked _ _ c.in-Some.number _ _ c.in_ok-counters.ensures.looked))

pub returns-clause-shown : goal.returns-clause-shown
returns-clause-shown g c =
    let later = c.in_ok-section.ensures in
    let section = c.in-Some-2.section in
    let waiting = c.waiting-waiting.result in
    let answer = c.answer_of-answer.result in
    let ledger = ledger_of c.in-Some-3.counters in
    let at : section_at later.0 c.in-Some.number ≡ Some (section_view section) = sym later.2 ∙ ap (option_map section_view) c.in-Some-2.is in
    let seen = rw c.counters.ensures.hub at c.waiting-waiting.ensures.looked in
    if_ok c.tenant_reply.result (λ told. told ≡ reply_of 200 Json (settled_text (figures_with c.in-Some.name.now ledger waiting answer) (section_view section)))
    (λ told. ShowsTenant g.J.SettingsNaming.first (length c.args.context.now.hub.now) c.args.name.now c.args.context.now.caller c.waiting-waiting.new.self.caller told)
    (λ told is. rw c.waiting-waiting.ensures.same (shown c.in-Some.number (section_view section) ledger waiting answer
    c.in-Some.ensures.known (later.0, later.1, at)
    (rw c.in-Some-3.is at c.in_ok-counters.ensures.looked) seen c.answer_of-answer.ensures
    (is ∙ ap (λ n. reply_of 200 Json (settled_text (figures_with n ledger waiting answer) (section_view section))) c.in-Some.ensures.name)))
    c.tenant_reply.ensures
