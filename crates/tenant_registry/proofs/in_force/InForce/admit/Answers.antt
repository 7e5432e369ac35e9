use Rattle.std.proofs.Common.{◌++◌, ◌∷◌, [], sym, ap, inr, append_assoc, ◌∙◌}
use Rattle.std.proofs.lemmas.Result.{err_from_is_err_and}
use Rattle.tail_settings.specs.Change.{admit, strike, after}
use Rattle.tail_settings.specs.Settings.{SettingsData, document_view, settings_view}
use Rattle.tenant_registry.proofs.Admitted.{is_there}
use Rattle.tenant_registry.proofs.Came.{came_as, grown_as, after_admission, turned_away_as}
use Rattle.tenant_registry.proofs.in_force.InForce.admit.Goals as goal

pub invariant_of-self-2 : goal.invariant_of-self-2
invariant_of-self-2 g c =
    let first = g.J.SettingsNaming.first in
    let text = c.args.text.now in
    let known = c.args.known.now in
    let new = settings_view c.admit_document.new.self in
    let same = c.args.self.now.as_noted ∙ ap (after first) c.agree.ensures.same in
    let admits = grown_as first _ new known text (document_view c.args.document.now) c.requires same c.in_ok-number.ensures.on_success in
    let noted = after_admission first new known text admits
    ∙ ap (after first) (sym (c.admit.ensures.own ∙ ap (λ l. l ++ admit text ∷ []) c.agree.ensures.other)) in
    record { came = came_as first _ c.admit.new.own noted; as_noted = noted }

pub newcomer-requires : goal.newcomer-requires
newcomer-requires g c =
    is_there (settings_view c.args.self.now.settings) (settings_view c.admit_document.new.self) (document_view c.args.document.now)
    c.in_ok-number.number c.in_ok-number.ensures.on_success c.in_ok-number.ensures.number

pub returns-in_err-number-clause-fault : goal.returns-in_err-number-clause-fault
returns-in_err-number-clause-fault g c =
    let first = g.J.SettingsNaming.first in
    let p = err_from_is_err_and c.from_residual.result c.from_residual.ensures.1 in
    let same = c.args.self.now.as_noted ∙ ap (after first) c.agree.ensures.same in
    rw (p.1, p.2) (turned_away_as first _ c.args.known.now _ c.args.text.now (document_view c.args.document.now) _ c.requires same
    c.agree.ensures.other c.in_err-number.ensures.fault)

pub returns-in-Ok-clause-on_success : goal.returns-in-Ok-clause-on_success
returns-in-Ok-clause-on_success g c =
    let first = g.J.SettingsNaming.first in
    let text = c.args.text.now in
    let known = c.args.known.now in
    let new = settings_view c.admit_document.new.self in
    let same = c.args.self.now.as_noted ∙ ap (after first) c.agree.ensures.same in
    let who = c.in-Ok.ensures in (
      record {
        grown = new;
        admits = grown_as first _ new known text (document_view c.args.document.now) c.requires same c.in_ok-number.ensures.on_success;
        number = who.number ∙ c.in_ok-number.ensures.number ∙ ap (λ (s : SettingsData). s.next) same;
        name = rw who.number who.name;
        section = rw who.number who.section;
      },
      c.admit.ensures.other ∙ ap (λ l. l ++ admit text ∷ []) c.agree.ensures.other,
    )

pub returns-in-Err-clause-fault : goal.returns-in-Err-clause-fault
returns-in-Err-clause-fault g c =
    let first = g.J.SettingsNaming.first in
    let text = c.args.text.now in
    let known = c.args.known.now in
    let number = c.in_ok-number.number in
    let new = settings_view c.admit_document.new.self in
    let same = c.args.self.now.as_noted ∙ ap (after first) c.agree.ensures.same in
    rw c.from.ensures (inr (
      new,
      grown_as first _ new known text (document_view c.args.document.now) c.requires same c.in_ok-number.ensures.on_success,
      c.strike.ensures ∙ ap (λ l. l ++ strike number ∷ []) (c.admit.ensures.other ∙ ap (λ l. l ++ admit text ∷ []) c.agree.ensures.other)
          ∙ append_assoc known (admit text ∷ []) (strike number ∷ [])
          ∙ ap (λ n. known ++ admit text ∷ strike n ∷ []) (c.in_ok-number.ensures.number ∙ ap (λ (s : SettingsData). s.next) same),
    ))
