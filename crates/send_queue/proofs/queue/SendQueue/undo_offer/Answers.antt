use Rattle.std.proofs.Common.{◌≡◌, ◌∙◌, ap, sym, refl, Some, None, Option, option_map, List, ℕ, [], ◌∷◌, ◌++◌, map, is_some, ◌<◌, arith, true, length}
use Rattle.std.specs.Option.{option_to_list}
use Rattle.send_queue.specs.declared.batch.Batch.{Batch}
use Rattle.send_queue.specs.Sender.{SenderData, newest}
use Rattle.send_queue.specs.View.{batch_view}
use Rattle.send_queue.proofs.Queued.{bytes_behind}
use Rattle.send_queue.proofs.queue.SendQueue.undo_offer.Goals as goal

newest_push : (bs : List Batch) (b : Batch) → newest (map batch_view (bs ++ b ∷ [])) ≡ Some (batch_view b)
newest_push [] b = refl
newest_push (x ∷ []) b = refl
newest_push (x ∷ y ∷ bs) b = newest_push (y ∷ bs) b

popped : (xs ys : List Batch) (o : Option Batch) (n : ℕ) → xs ≡ ys ++ option_to_list o → n ≡ length xs → (0 < n → is_some o ≡ true) → option_map batch_view o ≡ newest (map batch_view xs)
popped [] ys None n is len some = refl
popped (x ∷ xs) ys None n is len some = let absent = some (omega arith) in absurd (cc)
popped xs ys (Some b) n is len some = sym (ap (λ (l : List Batch). newest (map batch_view l)) is ∙ newest_push ys b)

pub returns-in_default-clause-batch : goal.returns-in_default-clause-batch
returns-in_default-clause-batch c =
    let q = c.self.inside.queue in
    popped q.items c.pop_back.new.self.items None q.len c.in_default.ensures.items q.ok.0 c.in_default.ensures.variant.1
    ∙ ap (λ (s : SenderData). newest s.queue) c.self.view_is

pub returns-clause-batch : goal.returns-clause-batch
returns-clause-batch c =
    let q = c.self.inside.queue in
    popped q.items c.pop_back.new.self.items (Some c.in-Some.batch) q.len c.in-Some.ensures.items q.ok.0 c.in-Some.ensures.variant.1
    ∙ ap (λ (s : SenderData). newest s.queue) c.self.view_is

pub invariant_of-self-2 : goal.invariant_of-self-2
invariant_of-self-2 c =
    let less = bytes_behind c.self.inside.queue.items c.pop_back.new.self.items (c.in-Some.batch ∷ []) c.in-Some.ensures.items in
    record {
      whole = c.self.invariant.whole;
      left = omega (arith, c.self.invariant.left, less, c.len.ensures.value);
    }
