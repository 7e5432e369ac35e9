use Rattle.std.proofs.Common.{ap, ◌∙◌}
use Rattle.span_view.specs.Facts.{SpanFacts}
use Rattle.span_view.specs.Fields.{first_start, first_end, first_status, attributes_told}
use Rattle.span_view.proofs.FieldsTold.{start_is, end_is, status_is, attributes_are}
use Rattle.span_view.proofs.span.SpanRef.fields.Goals as goal

pub returns-clause-start : goal.returns-clause-start
returns-clause-start c =
    ap first_start c.of.ensures ∙ start_is c.self.inside.span.now c.self.inside.resource.now
    ∙ ap (λ (f : SpanFacts). f.start_time_unix_nano) c.self.view_is

pub returns-clause-end : goal.returns-clause-end
returns-clause-end c =
    ap first_end c.of.ensures ∙ end_is c.self.inside.span.now c.self.inside.resource.now
    ∙ ap (λ (f : SpanFacts). f.end_time_unix_nano) c.self.view_is

pub returns-clause-status : goal.returns-clause-status
returns-clause-status c =
    ap first_status c.of.ensures ∙ status_is c.self.inside.span.now c.self.inside.resource.now
    ∙ ap (λ (f : SpanFacts). f.status) c.self.view_is

pub returns-clause-attributes : goal.returns-clause-attributes
returns-clause-attributes c =
    ap attributes_told c.of.ensures ∙ attributes_are c.self.inside.span.now c.self.inside.resource.now
    ∙ ap (λ (f : SpanFacts). f.attributes) c.self.view_is
