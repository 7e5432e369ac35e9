use Rattle.std.proofs.Common.{◌∙◌, sym, arith}
use Rattle.span_view.proofs.Short.{silent_passed}
use Rattle.span_view.proofs.walk.past_silent.Goals as goal

pub fields-preserved : goal.fields-preserved
fields-preserved c =
    let behind = c.in-Some.ensures in
    record {
      same = c.fields.invariant.same ∙ silent_passed c.in-Some.number c.fields.left.now c.in-Some.rest.now behind (sym c.may_tell.ensures ∙ c.if-may_tell.false);
      within = omega (arith, behind.shorter, c.fields.invariant.within);
    }
