use Rattle.std.proofs.Common.{◌≡◌, ℕ, ◌+◌, ◌<◌, List, ◌++◌, length, get_or, drop, map, string_bytes, sym, ap, ◌∙◌, append_assoc}
use Rattle.std.proofs.lemmas.List.{at_drop_more}
use Rattle.tail_settings.specs.declared.policy.PolicySpec.{PolicySpec}
use Rattle.tail_settings.specs.Policy.{policy_view}
use Rattle.settings_check.specs.Doubts.{policy_lines, lines_of_policies}
use Rattle.settings_check.proofs.doubts.lines_of_policies.Goals as goal

lines_more : (out name : List ℕ) (xs : List PolicySpec) (i : ℕ) (x : PolicySpec) → i < length xs
    → (out ++ policy_lines name (policy_view (get_or xs i x))) ++ lines_of_policies name (map policy_view (drop (i + 1) xs)) ≡ out ++ lines_of_policies name (map policy_view (drop i xs))
lines_more out name xs i x within =
    append_assoc out (policy_lines name (policy_view (get_or xs i x))) (lines_of_policies name (map policy_view (drop (i + 1) xs)))
    ∙ ap (λ t. out ++ t) (sym (at_drop_more (λ ys. lines_of_policies name (map policy_view ys)) xs i x within))

pub loop-policy-preserved : goal.loop-policy-preserved
loop-policy-preserved c =
    let xs = c.args.policies.now in
    let i = c.loop-policy.policy-index in
    let x = c.policy-item.result in
    let out = string_bytes c.loop-policy.lines in
    let at : get_or xs i x ≡ x = sym c.policy-item.is in
    let told : c.as_str.result.now ≡ policy_lines c.args.name.now (policy_view (get_or xs i x)) = c.as_str.ensures.value ∙ c.in_ok-more.ensures ∙ ap (λ y. policy_lines c.args.name.now (policy_view y)) (sym at) in
    let put : string_bytes c.push_str.new.self ≡ out ++ policy_lines c.args.name.now (policy_view (get_or xs i x)) = c.in_ok-push_str.ensures.bytes ∙ ap (λ t. out ++ t) told in
    rw put (lines_more out c.args.name.now xs i x c.loop-policy-test.true ∙ c.loop-policy.invariant)
