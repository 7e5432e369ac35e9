use Rattle.std.proofs.Common.{◌≡◌, length}
use Rattle.otlp_front.specs.Target.{from_slash}
use Rattle.otlp_front.proofs.target.from_slash.Given as goal

abbrev pub invariant-loop-text : goal.invariant-loop-text
invariant-loop-text l = from_slash l.text ≡ from_slash l.fn.text

abbrev pub decreases-loop-text : goal.decreases-loop-text
decreases-loop-text l = length l.text
