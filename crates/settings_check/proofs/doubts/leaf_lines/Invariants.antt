use Rattle.std.proofs.Common.{◌≡◌, ◌++◌, drop, map, string_bytes}
use Rattle.tail_settings.specs.Policy.{leaf_view}
use Rattle.settings_check.specs.Doubts.{leaf_lines}
use Rattle.settings_check.proofs.doubts.leaf_lines.Given as goal

abbrev pub invariant-loop-leaf : goal.invariant-loop-leaf
invariant-loop-leaf l = string_bytes l.lines ++ leaf_lines l.name (map leaf_view (drop l.leaf-index l.leaves)) ≡ leaf_lines l.name (map leaf_view l.leaves)
