use Rattle.otlp_prepare.specs.BodySpans.{noted}
use Rattle.otlp_prepare.proofs.Lists.{one_more_part}
use Rattle.otlp_prepare.proofs.notes.noted_in.Goals as goal

pub loop-alloc-preserved : goal.loop-alloc-preserved
loop-alloc-preserved g c =
    one_more_part (noted c.args.policies.now) _ _ _ _ _ _ _ c.in_ok-now.ensures.front c.in_ok-more.ensures c.in_ok-append.ensures.items c.loop-alloc.invariant
