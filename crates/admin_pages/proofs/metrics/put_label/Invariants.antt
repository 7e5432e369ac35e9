use Rattle.std.proofs.Common.{◌≡◌, ◌++◌, length}
use Rattle.admin_pages.specs.Metrics.{label_text}
use Rattle.admin_pages.proofs.metrics.put_label.Given as goal

abbrev pub invariant-loop-value : goal.invariant-loop-value
invariant-loop-value l = l.out.items ++ label_text l.value ≡ l.fn.out.items ++ label_text l.fn.value

abbrev pub decreases-loop-value : goal.decreases-loop-value
decreases-loop-value l = length l.value
