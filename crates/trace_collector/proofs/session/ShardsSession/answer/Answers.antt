use Rattle.std.proofs.Common.{refl, ap, sym, ◌∙◌}
use Rattle.send_retry.specs.Class.{answer_view}
use Rattle.tail_settings.specs.Settings.{settings_view}
use Rattle.tenant_rules.specs.Own as own
use Rattle.tenant_shard.specs.declared.step.Step.TheVariants as steps
use Rattle.replay_script.specs.Command as data_of
use Rattle.trace_collector.proofs.Done.{done_asks}
use Rattle.trace_collector.proofs.session.ShardsSession.answer.Goals as goal

pub returns-in_ok-step_of-in-Answer-clause-on_success : goal.returns-in_ok-step_of-in-Answer-clause-on_success
returns-in_ok-step_of-in-Answer-clause-on_success g c =
    rw c.in-Answer.is (done_asks c.args.self.now c.step_of.new.self c.in-Some.tenant c.in-Answer.name.now
    (data_of.Answer c.in-Answer.name.now c.in-Answer.moment c.in-Answer.ticket c.in-Answer.word (answer_view c.in-Answer.answer))
    (steps.Answer c.in-Some.tenant c.in-Answer.moment c.in-Answer.ticket c.in-Answer.word c.in-Answer.answer)
    (own.Answer c.in-Answer.moment c.in-Answer.ticket c.in-Answer.word (answer_view c.in-Answer.answer)) _ _
    (ap settings_view c.in_ok-step_of-in-Answer.ensures.settings) (sym c.number.ensures ∙ c.in-Some.is) (λ old new line same asked. (same, asked)) refl refl refl
    c.in_ok-step_of-in-Answer.ensures.on_success)
