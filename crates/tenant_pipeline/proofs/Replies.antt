-- The content of a reply to a post of which spans were left out.
use Rattle.std.proofs.Common.{◌≡◌, ◌<◌, ◌+◌, ◌++◌, ◌^◌, ◌∙◌, ◌⊎◌, inl, inr, ℕ, List, [], refl, sym, ap, arith, false, Some, pos, to_z, w64, append_assoc}
use Rattle.std.specs.Prelude.{◌==◌, ◌&&◌}
use Rattle.std.specs.Fmt.{decimal}
use Rattle.std.specs.Prelude.{codes}
use Rattle.std.proofs.lemmas.Bool.Decides.{nat_tests}
use Rattle.std.proofs.lemmas.Int.{ints}
use Rattle.otlp_trace.specs.Text.{response_text}
use Rattle.tenant_rules.specs.Answers.{partial_message, success_text}

-- its message, piece by piece
regrouped : (a b c d e : List ℕ) → a ++ (b ++ (c ++ (d ++ e))) ≡ (((a ++ b) ++ c) ++ d) ++ e
regrouped a b c d e = sym (simp append_assoc)

pub message_is : (invalid over_budget : ℕ) → codes "rejected: " ++ (decimal invalid ++ (codes " invalid, " ++ (decimal over_budget ++ codes " over budget"))) ≡ partial_message invalid over_budget
message_is invalid over_budget = regrouped (codes "rejected: ") (decimal invalid) (codes " invalid, ") (decimal over_budget) (codes " over budget")

-- some were
some_left : (invalid over_budget : ℕ) → ((invalid ≡ 0) × (over_budget ≡ 0 → ⊥)) ⊎ (invalid ≡ 0 → ⊥) → ((invalid == 0) && (over_budget == 0)) ≡ false
some_left invalid over_budget (inl h) = grind (arith, nat_tests, h)
some_left invalid over_budget (inr h) = grind (arith, nat_tests, h)

pub partial_is : (invalid over_budget : ℕ) (message former body : List ℕ) → ((invalid ≡ 0) × (over_budget ≡ 0 → ⊥)) ⊎ (invalid ≡ 0 → ⊥) → invalid + over_budget < 2 ^ 63 →
    message ≡ partial_message invalid over_budget → former ≡ [] →
    body ≡ former ++ response_text (record { partial_success = Some (record { rejected_spans = to_z w64 (invalid + over_budget); error_message = message }) }) →
    body ≡ success_text invalid over_budget
partial_is invalid over_budget message former body some fits says none is =
    let left : ((invalid == 0) && (over_budget == 0)) ≡ false = some_left invalid over_budget some in
    let count : to_z w64 (invalid + over_budget) ≡ pos (invalid + over_budget) = grind (arith, ints) in
    let text : response_text (record { partial_success = Some (record { rejected_spans = to_z w64 (invalid + over_budget); error_message = message }) })
    ≡ response_text (record { partial_success = Some (record { rejected_spans = pos (invalid + over_budget); error_message = partial_message invalid over_budget }) }) =
    (λ i. response_text (record { partial_success = Some (record { rejected_spans = count i; error_message = says i }) })) in
    is ∙ (ap (λ (before : List ℕ). before ++ response_text (record { partial_success = Some (record { rejected_spans = to_z w64 (invalid + over_budget); error_message = message }) })) none ∙ (text ∙ sym (rw left refl)))
