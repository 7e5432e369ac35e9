use Rattle.std.proofs.Common.{arith}
use Rattle.otlp_front.proofs.Texts.{before_at, before_none}
use Rattle.otlp_front.proofs.target.before.Goals as goal

pub returns-then-b-stop : goal.returns-then-b-stop
returns-then-b-stop c =
    before_at c.args.stop c.args.text.now c.loop-i.i c.loop-i-test.true c.loop-i.invariant c.if-b-stop.true

pub returns : goal.returns
returns c = before_none c.args.stop c.args.text.now (λ k lt. c.loop-i.invariant k (omega arith))
