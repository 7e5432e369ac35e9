use Rattle.std.proofs.Common.{refl, ap, sym, ◌∙◌}
use Rattle.tail_settings.specs.Settings.{settings_view}
use Rattle.tenant_rules.specs.Own as own
use Rattle.tenant_shard.specs.declared.step.Step.TheVariants as steps
use Rattle.replay_script.specs.Command.{Drain}
use Rattle.trace_collector.proofs.Done.{done_asks}
use Rattle.trace_collector.proofs.shards.Shards.drain.Goals as goal

pub returns-clause-on_success : goal.returns-clause-on_success
returns-clause-on_success c =
    done_asks c.args.self.now c.step_of.new.self c.in-Some.tenant c.args.name.now (Drain c.args.name.now c.args.moment) (steps.Drain c.in-Some.tenant c.args.moment) (own.Drain c.args.moment) _ _
    (ap settings_view c.in_ok-step_of.ensures.settings) (sym c.number.ensures ∙ c.in-Some.is) (λ old new line same asked. (same, asked)) refl refl refl
    c.in_ok-step_of.ensures.on_success
