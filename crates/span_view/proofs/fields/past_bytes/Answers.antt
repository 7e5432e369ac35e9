use Rattle.std.proofs.Common.{◌∙◌}
use Rattle.pb_wire.specs.declared.field.WireType.TheVariants as types
use Rattle.span_view.proofs.Short.{passed, other_passed}
use Rattle.span_view.proofs.fields.past_bytes.Goals as goal

pub fields-preserved : goal.fields-preserved
fields-preserved c = λ other differs.
    c.fields.invariant other differs
    ∙ other_passed other c.args.number types.Bytes c.fields.left.now c.in-Some.rest.now (passed c.in-Some.ensures) differs
