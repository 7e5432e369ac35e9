use Rattle.std.proofs.Common.{◌≡◌, ◌≤◌, length}
use Rattle.otlp_canonical.proofs.Runs.{Found}
use Rattle.otlp_canonical.proofs.order.runs.Given as goal

abbrev pub invariant-fields : goal.invariant-fields
invariant-fields l = record {
  size : length l.runs ≡ 18;
  within : length l.left ≤ length l.text;
  so_far : Found l.depth l.text l.left l.runs;
}

abbrev pub decreases-fields : goal.decreases-fields
decreases-fields l = length l.left
