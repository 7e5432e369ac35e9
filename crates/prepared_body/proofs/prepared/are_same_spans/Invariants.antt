use Rattle.std.proofs.Common.{◌≡◌, drop}
use Rattle.std.specs.Cmp.Lexicographic.{pointwise}
use Rattle.prepared_body.specs.Arrivals.{arrivals_in}
use Rattle.prepared_body.specs.Equal.{arrival_eq}
use Rattle.prepared_body.proofs.prepared.are_same_spans.Given as goal

-- what is left is as much the same as the whole
abbrev pub invariant-loop-i : goal.invariant-loop-i
invariant-loop-i l =
    pointwise arrival_eq (arrivals_in l.origins (drop l.i l.spans)) (arrivals_in l.others (drop l.i l.more))
    ≡ pointwise arrival_eq (arrivals_in l.origins l.spans) (arrivals_in l.others l.more)
