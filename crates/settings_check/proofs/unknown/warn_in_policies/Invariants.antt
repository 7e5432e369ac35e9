use Rattle.std.proofs.Common.{◌≡◌, ◌+◌, ◌++◌, drop, string_bytes}
use Rattle.toml.specs.View.{items_view}
use Rattle.settings_check.specs.Unknown.{unknown_in_policies}
use Rattle.settings_check.specs.Warning.{warnings}
use Rattle.settings_check.proofs.unknown.warn_in_policies.Given as goal

abbrev pub invariant-loop-policy : goal.invariant-loop-policy
invariant-loop-policy l = record {
  count : l.number ≡ l.policy-index;
  told : string_bytes l.out ++ warnings (unknown_in_policies l.place (l.number + 1) (items_view (drop l.policy-index l.policies)))
      ≡ string_bytes l.fn.out ++ warnings (unknown_in_policies l.place 1 (items_view l.policies));
}
