use Rattle.std.proofs.Common.{◌≡◌, ℕ, ◌+◌, ◌<◌, List, ◌++◌, length, get_or, drop, map, string_bytes, sym, ap, ◌∙◌, append_assoc}
use Rattle.std.proofs.lemmas.List.{at_drop_more}
use Rattle.tail_settings.specs.declared.policy.LeafPolicy.{LeafPolicy}
use Rattle.tail_settings.specs.Policy.{leaf_view}
use Rattle.settings_check.specs.Doubts.{bounds_line, leaf_lines}
use Rattle.settings_check.proofs.doubts.leaf_lines.Goals as goal

lines_more : (out name : List ℕ) (xs : List LeafPolicy) (i : ℕ) (x : LeafPolicy) → i < length xs
    → (out ++ bounds_line name (leaf_view (get_or xs i x))) ++ leaf_lines name (map leaf_view (drop (i + 1) xs)) ≡ out ++ leaf_lines name (map leaf_view (drop i xs))
lines_more out name xs i x within =
    append_assoc out (bounds_line name (leaf_view (get_or xs i x))) (leaf_lines name (map leaf_view (drop (i + 1) xs)))
    ∙ ap (λ t. out ++ t) (sym (at_drop_more (λ ys. leaf_lines name (map leaf_view ys)) xs i x within))

pub loop-leaf-preserved : goal.loop-leaf-preserved
loop-leaf-preserved c =
    let xs = c.args.leaves.now in
    let i = c.loop-leaf.leaf-index in
    let x = c.leaf-item.result in
    let out = string_bytes c.loop-leaf.lines in
    let at : get_or xs i x ≡ x = sym c.leaf-item.is in
    let told : c.as_str.result.now ≡ bounds_line c.args.name.now (leaf_view (get_or xs i x)) = c.as_str.ensures.value ∙ c.in_ok-line.ensures ∙ ap (λ y. bounds_line c.args.name.now (leaf_view y)) (sym at) in
    let put : string_bytes c.push_str.new.self ≡ out ++ bounds_line c.args.name.now (leaf_view (get_or xs i x)) = c.in_ok-push_str.ensures.bytes ∙ ap (λ t. out ++ t) told in
    rw put (lines_more out c.args.name.now xs i x c.loop-leaf-test.true ∙ c.loop-leaf.invariant)
