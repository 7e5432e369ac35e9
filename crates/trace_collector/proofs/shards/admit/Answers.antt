use Rattle.std.proofs.Common.{◌≡◌, Ok, Err, IfOk, IfErr, IfSome, sym, subst}
use Rattle.tail_settings.specs.Fault.{fault_view}
use Rattle.tail_settings.specs.Settings.{settings_view}
use Rattle.trace_collector.proofs.Arrives.{text_arrives, none_arrives}
use Rattle.trace_collector.proofs.shards.admit.Goals as goal

pub returns-in-Ok-clause-on_success : goal.returns-in-Ok-clause-on_success
returns-in-Ok-clause-on_success c =
    let old = settings_view c.args.settings.now in
    let new = settings_view c.admit.new.self in
    subst (λ m. IfOk c.admit.result (λ _. m ≡ Ok new)) (sym (text_arrives old c.in-Ok.text.now c.args.document.now c.in-Ok.ensures.cases.0 c.in-Ok.ensures.cases.1)) c.admit.ensures.on_success

pub returns-in-Ok-clause-fault : goal.returns-in-Ok-clause-fault
returns-in-Ok-clause-fault c =
    let old = settings_view c.args.settings.now in
    subst (λ m. IfErr c.admit.result (λ e. IfSome (fault_view e) (λ f. m ≡ Err f))) (sym (text_arrives old c.in-Ok.text.now c.args.document.now c.in-Ok.ensures.cases.0 c.in-Ok.ensures.cases.1))
    c.admit.ensures.fault

pub returns-in-Err-clause-fault : goal.returns-in-Err-clause-fault
returns-in-Err-clause-fault c = none_arrives (settings_view c.args.settings.now) c.args.document.now c.in-Err.ensures.cases.0
