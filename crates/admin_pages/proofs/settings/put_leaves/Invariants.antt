use Rattle.std.proofs.Common.{◌≡◌, ◌++◌, [], length, map}
use Rattle.tail_settings.specs.Policy.{leaf_view}
use Rattle.admin_pages.specs.Settings.{leaves_behind}
use Rattle.admin_pages.proofs.settings.put_leaves.Given as goal

abbrev pub invariant-loop-leaves : goal.invariant-loop-leaves
invariant-loop-leaves l = l.out.items ++ leaves_behind l.mark (map leaf_view l.leaves) ≡ l.fn.out.items ++ leaves_behind [] (map leaf_view l.fn.leaves)

abbrev pub decreases-loop-leaves : goal.decreases-loop-leaves
decreases-loop-leaves l = length l.leaves
