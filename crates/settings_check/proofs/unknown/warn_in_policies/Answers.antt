use Rattle.std.proofs.Common.{◌≡◌, ◌+◌, ◌++◌, codes, get_or, string_bytes, sym, ◌∙◌, arith}
use Rattle.std.specs.Fmt.{decimal}
use Rattle.toml.specs.View.{view}
use Rattle.tail_settings.specs.Keys.{keys_of}
use Rattle.settings_check.specs.Unknown.{table_of, unknown_in_policy}
use Rattle.settings_check.specs.Warning.{warnings}
use Rattle.settings_check.proofs.Warnings.{put_first, keys_of-table, policies-first}
use Rattle.settings_check.proofs.unknown.warn_in_policies.Goals as goal

pub loop-policy-preserved : goal.loop-policy-preserved
loop-policy-preserved c =
    let xs = c.args.policies.now in
    let i = c.loop-policy.policy-index in
    let x = c.policy-item.result in
    let m = c.loop-policy.number + 1 in
    let at : get_or xs i x ≡ x = sym c.policy-item.is in
    let same : keys_of c.as_table.result ≡ table_of (view x) = keys_of-table c.as_table.result (view x) c.as_table.ensures in
    let put : string_bytes c.warn_in_policy.new.out ≡ string_bytes c.loop-policy.out
    ++ warnings (unknown_in_policy (c.args.place.now ++ codes ", policy " ++ decimal m) (table_of (view x))) =
    rw (c.as_str.ensures.value, c.in_ok-place.ensures, same) at c.in_ok-warn_in_policy.ensures in
    record {
      count = omega arith;
      told = put_first (string_bytes c.loop-policy.out) (string_bytes c.warn_in_policy.new.out) _ _ _ (policies-first xs i x c.loop-policy-test.true at c.args.place.now m) put ∙ c.loop-policy.invariant.told;
    }
