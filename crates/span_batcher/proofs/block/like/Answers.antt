use Rattle.std.proofs.Common.{◌∙◌, sym, arith}
use Rattle.span_batcher.proofs.Alike.{like_more}
use Rattle.span_batcher.proofs.block.like.Goals as goal

pub loop-count-preserved : goal.loop-count-preserved
loop-count-preserved c = record {
  within = omega arith;
  alike = like_more c.args.first.now c.args.spans.now c.loop-count.count c.index-spans-count.result c.loop-count-test.true c.index-spans-count.is (sym c.is_like.ensures ∙ c.if-is_like.true) c.loop-count.invariant.alike;
}
