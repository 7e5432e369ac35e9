-- What all batches hold and what they leave.
use Rattle.std.proofs.Common.{◌≡◌, ℕ, zero, suc, List, [], ◌∷◌, ◌++◌, length, map, take, drop, Option, Some, None, refl, sym, ap, ◌∙◌, append_assoc, append-nil}
use Rattle.std.proofs.lemmas.List.{take-append-drop, map-append}
use Rattle.std.specs.Prelude.{flat_map}
use Rattle.span_batcher.specs.Batches.{Rules, Group, Batch, Place, Cut, places, span_of, numbered, next_cut, batch_of, past, some_batches, some_rest, batches_in, rest_in}
use Rattle.span_batcher.specs.Law.{HoldAll}
use Rattle.span_batcher.specs.Maps.{spans_of}

module _ {X : Type 0} where
  spans_of-append : (bs cs : List (Batch X)) → spans_of (bs ++ cs) ≡ spans_of bs ++ spans_of cs
  spans_of-append [] cs = refl
  spans_of-append (b ∷ bs) cs = ap (λ (xs : List X). b.spans ++ xs) (spans_of-append bs cs) ∙ sym (append_assoc b.spans (spans_of bs) (spans_of cs))

  cut_whole : (o : Option Cut) (rest : List (Place X)) → spans_of (batch_of o rest) ++ map span_of (past o rest) ≡ map span_of rest
  cut_whole None rest = refl
  cut_whole (Some cut) rest =
      ap (λ (xs : List X). xs ++ map span_of (drop cut.count rest)) (append-nil (map span_of (take cut.count rest)))
      ∙ (sym (map-append span_of (take cut.count rest) (drop cut.count rest)) ∙ ap (map span_of) (take-append-drop cut.count rest))

  some_batches-whole : (n : ℕ) (r : Rules) (e : ℕ) (x : Option ℕ) (rest : List (Place X)) → spans_of (some_batches n r e x rest) ++ map span_of (some_rest n r e x rest) ≡ map span_of rest
  some_batches-whole zero r e x rest = refl
  some_batches-whole (suc n) r e x rest =
      let o = next_cut r e x rest in
      let first = batch_of o rest in
      let others = some_batches n r e x (past o rest) in
      let end = map span_of (some_rest n r e x (past o rest)) in
      ap (λ (xs : List X). xs ++ end) (spans_of-append first others)
      ∙ (append_assoc (spans_of first) (spans_of others) end
      ∙ (ap (λ (xs : List X). spans_of first ++ xs) (some_batches-whole n r e x (past o rest))
      ∙ cut_whole o rest))

  spans_of_places : (m : ℕ) (spans : List X) → map span_of (places m spans) ≡ spans
  spans_of_places m [] = refl
  spans_of_places m (s ∷ spans) = ap (λ (xs : List X). s ∷ xs) (spans_of_places m spans)

  spans_of_numbered : (groups : List (Group X)) → map span_of (numbered groups) ≡ flat_map (λ group. group.spans) groups
  spans_of_numbered [] = refl
  spans_of_numbered (g ∷ groups) =
      map-append span_of (places g.moment g.spans) (numbered groups)
      ∙ (ap (λ (xs : List X). xs ++ map span_of (numbered groups)) (spans_of_places g.moment g.spans)
      ∙ ap (λ (xs : List X). g.spans ++ xs) (spans_of_numbered groups))

  pub hold_all : HoldAll X
  unfolding batches_in rest_in
  hold_all r e x groups =
      let rest = numbered groups in
      some_batches-whole (length rest) r e x rest ∙ spans_of_numbered groups
