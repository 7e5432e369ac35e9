-- Places of threads, one more at a time.
use Rattle.std.proofs.Common.{◌≡◌, ℕ, List, [], ◌∷◌, ◌++◌, ◌+◌, map, ap, ◌∙◌, add-one}
use Rattle.std.proofs.lemmas.List.{map-append}
use Rattle.service_workers.specs.declared.workers.Role.{Role}
use Rattle.service_workers.specs.Assignment.{place_of, places}

pub one_more : {X : Type 0} (f : X → Role × ℕ) (shards senders admins n m number : ℕ) (xs ys : List X) (x : X) (place : Role × ℕ) → map f xs ≡ places shards senders admins n → ys ≡ xs ++ x ∷ [] → m ≡ n + 1 → number ≡ n → place ≡ place_of shards senders admins number → f x ≡ place → map f ys ≡ places shards senders admins m
one_more f shards senders admins n m number xs ys x place is more next last at it =
    let placed = it ∙ at ∙ ap (λ k. place_of shards senders admins k) last in
    rw (more, next, add-one) (map-append f xs (x ∷ []) ∙ ap (λ e. e ++ f x ∷ []) is ∙ ap (λ p. places shards senders admins n ++ p ∷ []) placed)
