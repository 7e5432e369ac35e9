-- What a group makes of pending spans, by keys and by spans.
use Rattle.std.proofs.Common.{◌≡◌, ◌<◌, ◌≤◌, ◌+◌, ◌++◌, ◌∙◌, ℕ, zero, suc, min, drop, length-drop, List, [], ◌∷◌, length, map, refl, sym, ap, arith, Bool, true, false, cond, leb, eqb, Option, Some, None, length-append}
use Rattle.std.specs.Prelude.{unwrap_or}
use Rattle.std.proofs.lemmas.Bool.Decides.{nat_tests}
use Rattle.std.proofs.lemmas.List.{length-map}
use Rattle.span_batcher.specs.Batches.{Rules, AreValidRules, Batch, at_most}
use Rattle.span_batcher.specs.State as batcher
use Rattle.span_batcher.specs.State.{next_due, due_after, IsAfter}
use Rattle.span_batcher.specs.Machine.{threshold, some_uncut, cuts, uncut, start_in, start_with, added}
use Rattle.span_batcher.proofs.Maps.{cuts-map, uncut-map}
use Rattle.tail_policy.specs.declared.note.TraceNote.{TraceNote}
use Rattle.tenant_stores.specs.Part.{Part}
use Rattle.tenant_rules.specs.Arrivals.{Arrival}
use Rattle.tenant_rules.specs.Batching.{all_sent}
use Rattle.tenant_rules.specs.Sender.{sizes}
use Rattle.tenant_rules.proofs.Tally.{cut_sizes}
use Rattle.tenant_pipeline.specs.Outbox.{arrivals_at, AreThere, batch_at, pending_at}
use Rattle.tenant_pipeline.proofs.Spans.{arrival_or, there_is, arrivals-append, there-back, batches_are, there-cuts, there-uncut}

start_in-map : {X Y : Type 0} (f : X → Y) (m : ℕ) (xs : List X) → start_in m (map f xs) ≡ start_in m xs
start_in-map f m [] = refl
start_in-map f m (x ∷ xs) = refl

module _ (p : Part TraceNote) (b : batcher.State ℕ) (moment : ℕ) (keys : List ℕ) (there : AreThere p (b.spans ++ keys)) where
  abbrev all : List ℕ
  all = b.spans ++ keys

  abbrev f : ℕ → Arrival
  f = arrival_or p

  -- the spans of both
  both_are : (pending_at p b).spans ++ arrivals_at p keys ≡ map f all
  both_are = sym (arrivals-append p b.spans keys) ∙ there_is p all there

  -- the batches
  pub cuts_are : cuts b.rules moment ((pending_at p b).spans ++ arrivals_at p keys) ≡ map (batch_at p) (cuts b.rules moment all)
  cuts_are =
      ap (cuts b.rules moment) both_are ∙ (cuts-map f b.rules moment all ∙ sym (batches_are p (cuts b.rules moment all) (there-cuts p b.rules moment all there)))

  -- how many spans
  pub group_size : length (arrivals_at p keys) ≡ length keys
  group_size = ap length (there_is p keys (there-back p b.spans keys there)) ∙ length-map keys f

  -- what is left
  pub added_are : added moment (arrivals_at p keys) (pending_at p b) ≡ pending_at p (added moment keys b)
  unfolding added
  added_are =
      let r = b.rules in
      let rest : uncut r ((pending_at p b).spans ++ arrivals_at p keys) ≡ map f (uncut r all) = ap (uncut r) both_are ∙ uncut-map f r all in
      let spans : uncut r ((pending_at p b).spans ++ arrivals_at p keys) ≡ arrivals_at p (uncut r all) = rest ∙ sym (there_is p (uncut r all) (there-uncut p r all there)) in
      let size : length ((pending_at p b).spans ++ arrivals_at p keys) ≡ length all = ap length both_are ∙ length-map all f in
      let first : start_in moment (uncut r ((pending_at p b).spans ++ arrivals_at p keys)) ≡ start_in moment (uncut r all) = ap (start_in moment) rest ∙ start_in-map f moment (uncut r all) in
      let start : start_with moment ((pending_at p b).spans ++ arrivals_at p keys) (pending_at p b) ≡ start_with moment all b = rw (size, first) refl in
      rw (start, spans) refl

  -- how many spans the batches have
  pub sent_sizes : sizes (all_sent (map (batch_at p) (cuts b.rules moment all))) + length (uncut b.rules all) ≡ length b.spans + length keys
  sent_sizes =
      let whole = cut_sizes b.rules moment (map f all) in
      let cut : sizes (all_sent (cuts b.rules moment (map f all))) ≡ sizes (all_sent (map (batch_at p) (cuts b.rules moment all))) =
      ap (λ (bs : List (Batch Arrival)). sizes (all_sent bs)) (cuts-map f b.rules moment all ∙ sym (batches_are p (cuts b.rules moment all) (there-cuts p b.rules moment all there))) in
      let left : length (uncut b.rules (map f all)) ≡ length (uncut b.rules all) = ap length (uncut-map f b.rules all) ∙ length-map (uncut b.rules all) f in
      let size : length (map f all) ≡ length all = length-map all f in
      omega (arith, whole, cut, left, size, length-append b.spans keys)

-- the settings, whatever is pending
pub added_rules : {X : Type 0} (m : ℕ) (xs : List X) (b : batcher.State X) → (added m xs b).rules ≡ b.rules
unfolding added
added_rules m xs b = refl

pub added_spans : {X : Type 0} (m : ℕ) (xs : List X) (b : batcher.State X) → (added m xs b).spans ≡ uncut b.rules (b.spans ++ xs)
unfolding added
added_spans m xs b = refl

-- ---- the timer

threshold_some : (r : Rules) → AreValidRules r → 0 < threshold r
threshold_some r sound = by_test (eqb r.timeout 0)
  where
    by_test : (b : Bool) → 0 < cond b 1 r.size
    by_test true = omega arith
    by_test false = sound.0

-- spans that are fewer than that, and some, wait
timer_some : (r : Rules) (n : ℕ) → 0 < n → n < threshold r → 0 < r.timeout
timer_some r n some few = by_test (eqb r.timeout 0) refl few
  where
    by_test : (b : Bool) → eqb r.timeout 0 ≡ b → n < cond b 1 r.size → 0 < r.timeout
    by_test true t lt = absurd (omega (arith, some, lt))
    by_test false t lt = grind (arith, nat_tests, t)

at_most_some : (most count : ℕ) → 0 < count → 0 < at_most most count
at_most_some most count some = by_test (eqb most 0) refl
  where
    by_test : (b : Bool) → eqb most 0 ≡ b → 0 < cond b count (min most count)
    by_test true t = some
    by_test false t = let other : 0 < most = grind (arith, nat_tests, t) in omega (arith, some, other)

module _ {X : Type 0} where
  some_uncut_short : (n : ℕ) (r : Rules) (xs : List X) → AreValidRules r → length xs ≤ n → length (some_uncut n r xs) < threshold r
  some_uncut_short zero r xs sound few = let some = threshold_some r sound in omega (arith, few, some)
  some_uncut_short (suc n) r xs sound few = by_test (leb (threshold r) (length xs)) refl (λ c le. some_uncut_short n r (drop c xs) sound le)
    where
      by_test : (b : Bool) → leb (threshold r) (length xs) ≡ b → ((c : ℕ) → length (drop c xs) ≤ n → length (some_uncut n r (drop c xs)) < threshold r) →
          length (cond b (some_uncut n r (drop (at_most r.most (length xs)) xs)) xs) < threshold r
      by_test true t ih =
          let le : threshold r ≤ length xs = grind (arith, nat_tests, t) in
          let some = threshold_some r sound in
          let cut = at_most_some r.most (length xs) (omega (arith, le, some)) in
          let size = length-drop (at_most r.most (length xs)) xs in
          ih (at_most r.most (length xs)) (omega (arith, size, cut, few))
      by_test false t ih = grind (arith, nat_tests, t)

  -- fewer are left than fill a batch
  pub uncut_short : (r : Rules) (xs : List X) → AreValidRules r → length (uncut r xs) < threshold r
  unfolding uncut
  uncut_short r xs sound = some_uncut_short (length xs) r xs sound (omega arith)

wait_after : (r : Rules) (m n : ℕ) (start : Option ℕ) → 0 < n → n < threshold r → IsAfter (due_after r.timeout start) m → IsAfter (due_after r.timeout (Some (unwrap_or start m))) m
wait_after r m n None some few after = let timer = timer_some r n some few in omega (arith, timer)
wait_after r m n (Some s) some few after = after

module _ {X : Type 0} where
  rest_after : (r : Rules) (m : ℕ) (rest : List X) → length rest < threshold r → IsAfter (due_after r.timeout (start_in m rest)) m
  rest_after r m [] few = tt
  rest_after r m (x ∷ xs) few = let some = timer_some r (length (x ∷ xs)) (omega arith) few in omega (arith, some)

  -- a group leaves no timer that is due
  pub added_after : (m : ℕ) (xs : List X) (b : batcher.State X) → AreValidRules b.rules → 0 < length xs → IsAfter (next_due b) m → IsAfter (next_due (added m xs b)) m
  unfolding added
  added_after m xs b sound some after = by_test (leb (threshold b.rules) (length (b.spans ++ xs))) refl
    where
      by_test : (t : Bool) → leb (threshold b.rules) (length (b.spans ++ xs)) ≡ t →
          IsAfter (due_after b.rules.timeout (cond t (start_in m (uncut b.rules (b.spans ++ xs))) (Some (unwrap_or b.start m)))) m
      by_test true t = rest_after b.rules m (uncut b.rules (b.spans ++ xs)) (uncut_short b.rules (b.spans ++ xs) sound)
      by_test false t =
          let few : length (b.spans ++ xs) < threshold b.rules = grind (arith, nat_tests, t) in
          let size = length-append b.spans xs in
          wait_after b.rules m (length (b.spans ++ xs)) b.start (omega (arith, size, some)) few after
