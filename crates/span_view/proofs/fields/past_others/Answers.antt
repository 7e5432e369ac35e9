use Rattle.std.proofs.Common.{◌∙◌, arith}
use Rattle.std.proofs.lemmas.Bool.{ne_eqb}
use Rattle.span_view.proofs.Short.{other_passed}
use Rattle.span_view.proofs.fields.past_others.Goals as goal

pub fields-preserved : goal.fields-preserved
fields-preserved c =
    let behind = c.in-Some.ensures in
    record {
      same = λ kind. c.fields.invariant.same kind ∙ other_passed c.args.number c.in-Some.other kind c.fields.left.now c.in-Some.rest.now behind (ne_eqb c.in-Some.other c.args.number c.if-other-number.false);
      within = omega (arith, behind.shorter, c.fields.invariant.within);
    }
