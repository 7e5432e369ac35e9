use Rattle.std.proofs.Common.{ap, sym, subst, ◌∙◌}
use Rattle.tail_settings.specs.Section.{section_view}
use Rattle.tail_settings.specs.Settings.{settings_view}
use Rattle.otlp_prepare.specs.Prepared.{IsPrepared}
use Rattle.trace_collector.specs.Answered.{HasNoValue}
use Rattle.trace_collector.proofs.Done.{done_posts, bad_posts, bad_none}
use Rattle.trace_collector.proofs.Named.{named_section}
use Rattle.trace_collector.proofs.shards.Shards.post.Goals as goal

pub unreachable-requires : goal.unreachable-requires
unreachable-requires g c =
    named_section (settings_view c.args.self.now.settings) c.args.name.now c.in-Some.tenant (sym c.number.ensures ∙ c.in-Some.is) (sym c.in_default-section.ensures)

pub returns-in_ok-step_of-in-Ok-clause-on_success : goal.returns-in_ok-step_of-in-Ok-clause-on_success
returns-in_ok-step_of-in-Ok-clause-on_success g c =
    let value = subst (λ b. IsPrepared c.in-Some.tenant (section_view c.in-Some-section.section.now) b c.in-Ok.prepared) c.in_ok-body.ensures c.in-Ok.ensures.value in
    done_posts c.args.self.now _ c.in-Some.tenant (section_view c.in-Some-section.section.now) c.args.moment c.args.name.now c.args.body.items c.in-Ok.prepared _ _
    (ap settings_view c.in_ok-step_of-in-Ok.ensures.settings) (sym c.number.ensures ∙ c.in-Some.is) (sym c.in-Some-section.ensures) value c.in_ok-step_of-in-Ok.ensures.on_success

pub returns-in_ok-put_bad_request-in-Err-Bad-clause-on_success : goal.returns-in_ok-put_bad_request-in-Err-Bad-clause-on_success
returns-in_ok-put_bad_request-in-Err-Bad-clause-on_success g c =
    let none = bad_none c.in_ok-body.body c.in-Err-Bad.field-0 c.in-Err-Bad.field-0-0 c.in-Err-Bad.ensures.only c.in-Err-Bad.field-0-is in
    bad_posts c.args.self.now c.in-Some.tenant c.args.moment c.args.name.now c.args.body.items _ _ (sym c.number.ensures ∙ c.in-Some.is)
    (subst HasNoValue c.in_ok-body.ensures none) c.in_ok-put_bad_request-in-Err-Bad.ensures.on_success
