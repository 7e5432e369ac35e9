use Rattle.std.proofs.Common.{◌≡◌, drop, get_or, string_bytes, sym, ◌∙◌}
use Rattle.std.proofs.lemmas.List.{drop_all}
use Rattle.toml.specs.Data.{string}
use Rattle.toml.specs.View.{view}
use Rattle.settings_check.proofs.Put.{made_at, all_made}
use Rattle.settings_check.proofs.document.text_array.Goals as goal

pub loop-value-preserved : goal.loop-value-preserved
loop-value-preserved c =
    let xs = c.args.values.now in
    let i = c.loop-value.value-index in
    let x = c.value-item.result in
    let v = c.in_ok-string.field-0 in
    let at : get_or xs i x ≡ x = sym c.value-item.is in
    let is : view v ≡ string (string_bytes (get_or xs i x)) = rw at (rw c.as_str.ensures.value at c.in_ok-string.ensures) in
    rw c.in_ok-push.ensures.items (made_at view string_bytes (λ t. string t) c.loop-value.members.items v xs i x c.loop-value-test.true is ∙ c.loop-value.invariant)

pub returns : goal.returns
returns c =
    let xs = c.args.values.now in
    let i = c.loop-value.value-index in
    all_made string_bytes (λ t. string t) c.loop-value.members (drop i xs) xs (drop_all i xs c.loop-value-test.false) c.loop-value.invariant
