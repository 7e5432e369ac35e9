-- Batches of spans that stand for others, and all spans of batches.
use Rattle.std.proofs.Common.{◌≡◌, ℕ, zero, suc, List, [], ◌∷◌, ◌++◌, length, map, take, drop, refl, ap, ◌∙◌, Bool, true, false, cond, leb, append_assoc}
use Rattle.std.proofs.lemmas.List.{take-map, drop-map, length-map, take-append-drop}
use Rattle.span_batcher.specs.Batches.{Rules, Batch, at_most}
use Rattle.span_batcher.specs.Maps.{mapped, spans_of}
use Rattle.span_batcher.specs.Machine.{threshold, some_cuts, some_uncut, cuts, uncut}

module _ {X Y : Type 0} (f : X → Y) where
  some_cuts-map : (n : ℕ) (r : Rules) (m : ℕ) (xs : List X) →
      (some_cuts n r m (map f xs) ≡ map (mapped f) (some_cuts n r m xs)) × (some_uncut n r (map f xs) ≡ map f (some_uncut n r xs))
  some_cuts-map zero r m xs = (refl, refl)
  some_cuts-map (suc n) r m xs =
      let c = at_most r.most (length xs) in
      let ih = some_cuts-map n r m (drop c xs) in
      rw (length-map xs f, take-map f c xs, drop-map f c xs) (by_test (leb (threshold r) (length xs)) c ih.0 ih.1)
    where
      by_test : (b : Bool) (c : ℕ) → some_cuts n r m (map f (drop c xs)) ≡ map (mapped f) (some_cuts n r m (drop c xs)) → some_uncut n r (map f (drop c xs)) ≡ map f (some_uncut n r (drop c xs)) →
          (cond b (record { moment = m; spans = map f (take c xs) } ∷ some_cuts n r m (map f (drop c xs))) [] ≡ map (mapped f) (cond b (record { moment = m; spans = take c xs } ∷ some_cuts n r m (drop c xs)) []))
          × (cond b (some_uncut n r (map f (drop c xs))) (map f xs) ≡ map f (cond b (some_uncut n r (drop c xs)) xs))
      by_test true c cs us = (ap (λ (bs : List (Batch Y)). record { moment = m; spans = map f (take c xs) } ∷ bs) cs, us)
      by_test false c cs us = (refl, refl)

  pub cuts-map : (r : Rules) (m : ℕ) (xs : List X) → cuts r m (map f xs) ≡ map (mapped f) (cuts r m xs)
  unfolding cuts
  cuts-map r m xs = rw (length-map xs f) (some_cuts-map (length xs) r m xs).0

  pub uncut-map : (r : Rules) (xs : List X) → uncut r (map f xs) ≡ map f (uncut r xs)
  unfolding uncut
  uncut-map r xs = rw (length-map xs f) (some_cuts-map (length xs) r 0 xs).1

module _ {X : Type 0} where
  some_cuts-whole : (n : ℕ) (r : Rules) (m : ℕ) (xs : List X) → spans_of (some_cuts n r m xs) ++ some_uncut n r xs ≡ xs
  some_cuts-whole zero r m xs = refl
  some_cuts-whole (suc n) r m xs =
      let c = at_most r.most (length xs) in
      by_test (leb (threshold r) (length xs)) c (some_cuts-whole n r m (drop c xs))
    where
      by_test : (b : Bool) (c : ℕ) → spans_of (some_cuts n r m (drop c xs)) ++ some_uncut n r (drop c xs) ≡ drop c xs →
          spans_of (cond b (record { moment = m; spans = take c xs } ∷ some_cuts n r m (drop c xs)) []) ++ cond b (some_uncut n r (drop c xs)) xs ≡ xs
      by_test true c ih = append_assoc (take c xs) (spans_of (some_cuts n r m (drop c xs))) (some_uncut n r (drop c xs)) ∙ (ap (λ (ys : List X). take c xs ++ ys) ih ∙ take-append-drop c xs)
      by_test false c ih = refl

  -- what is cut and what is left are all
  pub cuts-whole : (r : Rules) (m : ℕ) (xs : List X) → spans_of (cuts r m xs) ++ uncut r xs ≡ xs
  unfolding cuts uncut
  cuts-whole r m xs = some_cuts-whole (length xs) r m xs
