use Rattle.std.proofs.Common.{◌≡◌, map, drop}
use Rattle.tail_settings.specs.Policy.{leaf_view}
use Rattle.tail_policy.specs.Marks.{all_marked}
use Rattle.tail_policy.proofs.marks.mark_leaves.Given as goal

abbrev pub invariant-loop-leaf : goal.invariant-loop-leaf
invariant-loop-leaf l =
    all_marked l.marks (map leaf_view (drop l.leaf-index l.leaves)) ≡ all_marked l.initial.marks (map leaf_view l.initial.leaves)
