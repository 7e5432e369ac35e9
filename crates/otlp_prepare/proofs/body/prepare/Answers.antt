use Rattle.std.proofs.Common.{ℕ, List, subst}
use Rattle.std.specs.Prelude.{IfOk}
use Rattle.tail_settings.specs.Section.{section_view}
use Rattle.otlp_prepare.specs.Prepared.{IsPrepared, PreparesValue, NamesFault}
use Rattle.otlp_prepare.proofs.body.prepare.Goals as goal

pub returns-clause-value : goal.returns-clause-value
returns-clause-value g c =
    subst (λ (bs : List ℕ). IfOk c.prepare_by.result (λ prepared. IsPrepared c.args.tenant (section_view c.args.section.now) bs prepared)) c.in_ok-block.ensures c.prepare_by.ensures.value

pub returns-clause-only : goal.returns-clause-only
returns-clause-only g c =
    subst (λ (bs : List ℕ). PreparesValue c.args.tenant (section_view c.args.section.now) bs c.prepare_by.result) c.in_ok-block.ensures c.prepare_by.ensures.only

pub returns-clause-bad : goal.returns-clause-bad
returns-clause-bad g c =
    subst (λ (bs : List ℕ). NamesFault bs c.prepare_by.result) c.in_ok-block.ensures c.prepare_by.ensures.bad
