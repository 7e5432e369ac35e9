use Rattle.std.proofs.Common.{◌≡◌, drop, get_or, sym, ap, ◌∙◌}
use Rattle.toml.proofs.Views.{view-Table}
use Rattle.std.proofs.lemmas.List.{drop_all}
use Rattle.toml.specs.Data.{table}
use Rattle.toml.specs.View.{view}
use Rattle.toml.specs.declared.value.Value.TheVariants.{Table}
use Rattle.tail_settings.specs.Policy.{leaf_view}
use Rattle.settings_check.specs.Document.{leaf_table}
use Rattle.settings_check.proofs.Put.{made_at, all_made}
use Rattle.settings_check.proofs.document.leaf_array.Goals as goal

pub loop-leaf-preserved : goal.loop-leaf-preserved
loop-leaf-preserved c =
    let xs = c.args.leaves.now in
    let i = c.loop-leaf.leaf-index in
    let x = c.leaf-item.result in
    let v = Table c.in_ok-leaf_table.field-0 in
    let at : get_or xs i x ≡ x = sym c.leaf-item.is in
    let is : view v ≡ table (leaf_table (leaf_view (get_or xs i x))) = view-Table c.in_ok-leaf_table.field-0 ∙ rw at (ap table c.in_ok-leaf_table.ensures) in
    rw c.in_ok-push.ensures.items (made_at view leaf_view (λ p. table (leaf_table p)) c.loop-leaf.tables.items v xs i x c.loop-leaf-test.true is ∙ c.loop-leaf.invariant)

pub returns : goal.returns
returns c =
    let xs = c.args.leaves.now in
    let i = c.loop-leaf.leaf-index in
    all_made leaf_view (λ p. table (leaf_table p)) c.loop-leaf.tables (drop i xs) xs (drop_all i xs c.loop-leaf-test.false) c.loop-leaf.invariant
