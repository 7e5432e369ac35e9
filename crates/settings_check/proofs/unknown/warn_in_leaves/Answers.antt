use Rattle.std.proofs.Common.{◌≡◌, ◌+◌, ◌++◌, codes, get_or, string_bytes, sym, ◌∙◌, arith}
use Rattle.std.specs.Fmt.{decimal}
use Rattle.toml.specs.View.{view}
use Rattle.tail_settings.specs.Keys.{keys_of}
use Rattle.settings_check.specs.Unknown.{table_of, kind_of, unknown_in}
use Rattle.settings_check.specs.Warning.{warnings}
use Rattle.settings_check.proofs.Warnings.{put_first, keys_of-table, leaves-first}
use Rattle.settings_check.proofs.unknown.warn_in_leaves.Goals as goal

pub loop-leaf-preserved : goal.loop-leaf-preserved
loop-leaf-preserved c =
    let xs = c.args.leaves.now in
    let i = c.loop-leaf.leaf-index in
    let x = c.leaf-item.result in
    let m = c.loop-leaf.number + 1 in
    let at : get_or xs i x ≡ x = sym c.leaf-item.is in
    let same : keys_of c.as_table-leaf.result ≡ table_of (view x) = keys_of-table c.as_table-leaf.result (view x) c.as_table-leaf.ensures in
    let put : string_bytes c.warn_in.new.out ≡ string_bytes c.loop-leaf.out
    ++ warnings (unknown_in (c.args.place.now ++ codes ", part " ++ decimal m) (kind_of (table_of (view x))) (table_of (view x))) =
    rw (c.as_str.ensures.value, c.in_ok-place.ensures, c.policy_kind.ensures, same) at c.in_ok-warn_in.ensures in
    record {
      count = omega arith;
      told = put_first (string_bytes c.loop-leaf.out) (string_bytes c.warn_in.new.out) _ _ _ (leaves-first xs i x c.loop-leaf-test.true at c.args.place.now m) put ∙ c.loop-leaf.invariant.told;
    }
