use Rattle.std.proofs.Common.{◌≡◌, ap, sym, ◌∙◌}
use Rattle.tail_settings.specs.Settings.{settings_view}
use Rattle.trace_collector.specs.Answered.{without}
use Rattle.trace_collector.specs.declared.shards.Shards.{Shards}
use Rattle.tenant_shard.specs.declared.step.Outcome.{Outcome}
use Rattle.trace_collector.proofs.Done.{nobody_leaves, retired}
use Rattle.trace_collector.proofs.shards.Shards.retire.Goals.{in-Report+in-Some-1, in-Report+in-None-1, in_default-outcome}
use Rattle.trace_collector.proofs.shards.Shards.retire.Goals as goal

pub returns-clause-on_success : goal.returns-clause-on_success
returns-clause-on_success c =
    let tenant = c.in-Some.tenant in
    let old = settings_view c.args.self.now.settings in
    let outcome = c.in_ok-outcome.outcome in
    let new = c.match-outcome-3.self in
    retired c.args.self.now new tenant c.args.name.now c.args.moment outcome c.step_at.new.shards.items c.from.result c.args.out.now.items c.put_outcome.new.out.items
    (sym c.number.ensures ∙ c.in-Some.is) c.in_ok-outcome.ensures.on_success c.from.ensures c.in_ok-put_outcome.ensures.on_success
    (elim c.match-outcome-3.branch as (λ b. new.shards.items ≡ c.step_at.new.shards.items) [
      | in-Report+in-Some-1 w ↦ ap (λ (s : Shards). s.shards.items) w.self-is
      | in-Report+in-None-1 w ↦ ap (λ (s : Shards). s.shards.items) w.self-is
      | in_default-outcome w ↦ ap (λ (s : Shards). s.shards.items) w.self-is
    ])
    (elim c.match-outcome-3.branch as (λ b. settings_view new.settings ≡ without tenant outcome old) [
      | in-Report+in-Some-1 w ↦ ap (λ (s : Shards). settings_view s.settings) w.self-is ∙ w.strike.ensures.left ∙ sym (ap (λ (o : Outcome). without tenant o old) w.in-Report.is)
      | in-Report+in-None-1 w ↦ ap (λ (s : Shards). settings_view s.settings) w.self-is ∙ w.strike.ensures.left ∙ sym (ap (λ (o : Outcome). without tenant o old) w.in-Report.is)
      | in_default-outcome w ↦
          ap (λ (s : Shards). settings_view s.settings) w.self-is ∙ sym (nobody_leaves tenant outcome old (λ whom report is. w.in_default-outcome.not-Report whom report is))
    ])
