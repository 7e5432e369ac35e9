use Rattle.std.proofs.Common.{◌≡◌, ◌++◌, length, map}
use Rattle.admin_pages.specs.Metrics.{sample_of, labels_text}
use Rattle.admin_pages.proofs.metrics.put_labels.Given as goal

abbrev pub invariant-loop-samples : goal.invariant-loop-samples
invariant-loop-samples l = l.out.items ++ labels_text l.name l.label (map sample_of l.samples)
    ≡ l.fn.out.items ++ labels_text l.fn.name l.fn.label (map sample_of l.fn.samples)

abbrev pub decreases-loop-samples : goal.decreases-loop-samples
decreases-loop-samples l = length l.samples
