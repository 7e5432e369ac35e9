use Rattle.std.proofs.Common.{◌≡◌, ◌+◌, ◌++◌, drop, string_bytes}
use Rattle.toml.specs.View.{items_view}
use Rattle.settings_check.specs.Unknown.{unknown_in_leaves}
use Rattle.settings_check.specs.Warning.{warnings}
use Rattle.settings_check.proofs.unknown.warn_in_leaves.Given as goal

abbrev pub invariant-loop-leaf : goal.invariant-loop-leaf
invariant-loop-leaf l = record {
  count : l.number ≡ l.leaf-index;
  told : string_bytes l.out ++ warnings (unknown_in_leaves l.place (l.number + 1) (items_view (drop l.leaf-index l.leaves)))
      ≡ string_bytes l.fn.out ++ warnings (unknown_in_leaves l.place 1 (items_view l.leaves));
}
