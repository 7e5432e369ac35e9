use Rattle.std.proofs.Common.{◌≡◌, ◌++◌, map, length}
use Rattle.std.specs.Prelude.{reverse}
use Rattle.otlp_prepare.specs.BodySpans.{noted}
use Rattle.otlp_prepare.proofs.notes.noted_in.Given as goal

-- the spans that were noted and those of what is left, in order, are the whole
abbrev pub invariant-loop-alloc : goal.invariant-loop-alloc
invariant-loop-alloc g l = l.spans.items ++ map (noted l.fn.policies) (reverse l.left.items) ≡ map (noted l.fn.policies) l.fn.parts.items

abbrev pub decreases-loop-alloc : goal.decreases-loop-alloc
decreases-loop-alloc g l = length l.left.items
