use Rattle.std.proofs.Common.{◌≡◌, drop, get_or, sym, ap, ◌∙◌}
use Rattle.toml.proofs.Views.{view-Table}
use Rattle.std.proofs.lemmas.List.{drop_all}
use Rattle.toml.specs.Data.{table}
use Rattle.toml.specs.View.{view}
use Rattle.toml.specs.declared.value.Value.TheVariants.{Table}
use Rattle.tail_settings.specs.Policy.{policy_view}
use Rattle.settings_check.specs.Document.{policy_table}
use Rattle.settings_check.proofs.Put.{made_at, all_made}
use Rattle.settings_check.proofs.document.policy_array.Goals as goal

pub loop-policy-preserved : goal.loop-policy-preserved
loop-policy-preserved c =
    let xs = c.args.policies.now in
    let i = c.loop-policy.policy-index in
    let x = c.policy-item.result in
    let v = Table c.in_ok-policy_table.field-0 in
    let at : get_or xs i x ≡ x = sym c.policy-item.is in
    let is : view v ≡ table (policy_table (policy_view (get_or xs i x))) = view-Table c.in_ok-policy_table.field-0 ∙ rw at (ap table c.in_ok-policy_table.ensures) in
    rw c.in_ok-push.ensures.items (made_at view policy_view (λ p. table (policy_table p)) c.loop-policy.tables.items v xs i x c.loop-policy-test.true is ∙ c.loop-policy.invariant)

pub returns : goal.returns
returns c =
    let xs = c.args.policies.now in
    let i = c.loop-policy.policy-index in
    all_made policy_view (λ p. table (policy_table p)) c.loop-policy.tables (drop i xs) xs (drop_all i xs c.loop-policy-test.false) c.loop-policy.invariant
