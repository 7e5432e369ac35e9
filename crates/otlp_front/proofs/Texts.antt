-- Where a text is cut at a byte.
use Rattle.std.proofs.Common.{◌≡◌, ℕ, ◌==◌, ◌<◌, List, length, get_or, take, sym, ap, ◌∙◌, arith}
use Rattle.std.proofs.lemmas.List.{take_all}
use Rattle.std.proofs.lemmas.List.Sums.{position_or_len_is}
use Rattle.std.proofs.lemmas.Bool.Decides.{nat_tests}
use Rattle.std.specs.List.{before_first}

-- before the first such byte stands what was passed
pub before_at : (stop : ℕ) (xs : List ℕ) (i : ℕ) → i < length xs → ((k : ℕ) → k < i → get_or xs k 0 ≡ stop → ⊥)
    → get_or xs i 0 ≡ stop → take i xs ≡ before_first (λ b. b == stop) xs
before_at stop xs i inside passed here =
    ap (λ n. take n xs) (sym (position_or_len_is (λ b. b == stop) xs i 0 (omega arith)
    (λ k lt. let ne = passed k lt in grind (arith, nat_tests)) (λ _. grind (arith, nat_tests))))

-- where no byte is such a one, all is passed
pub before_none : (stop : ℕ) (xs : List ℕ) → ((k : ℕ) → k < length xs → get_or xs k 0 ≡ stop → ⊥)
    → xs ≡ before_first (λ b. b == stop) xs
before_none stop xs passed =
    sym (take_all (length xs) xs (omega arith))
    ∙ ap (λ n. take n xs) (sym (position_or_len_is (λ b. b == stop) xs (length xs) 0 (omega arith)
    (λ k lt. let ne = passed k lt in grind (arith, nat_tests)) (λ lt. absurd (omega arith))))
