use Rattle.std.proofs.Common.{◌∙◌, sym}
use Rattle.http1.specs.Fields.{values_named}
use Rattle.http_edge.specs.Fields.{field}
use Rattle.http_edge.proofs.Named.{field_named, field_other}
use Rattle.http_edge.proofs.single.Single.and.Goals as goal

pub returns-then-eq_ignore_case : goal.returns-then-eq_ignore_case
unfolding field
returns-then-eq_ignore_case c = λ before p.
    c.add.ensures (values_named c.args.wanted.now before) p
    ∙ sym (field_named c.args.wanted.now c.args.name.now c.args.value.now before c.if-eq_ignore_case.ensures)

pub returns-else-eq_ignore_case : goal.returns-else-eq_ignore_case
returns-else-eq_ignore_case c = λ before p.
    p ∙ sym (field_other c.args.wanted.now c.args.name.now c.args.value.now before c.if-eq_ignore_case.ensures)
