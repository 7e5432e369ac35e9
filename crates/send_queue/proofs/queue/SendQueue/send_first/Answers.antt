use Rattle.std.proofs.Common.{◌≡◌, ◌∙◌, ap, sym, refl, List, subst, ◌+◌, ◌<◌, ◌^◌, arith, true, length, map}
use Rattle.std.proofs.lemmas.Bool.Decides.{nat_tests}
use Rattle.std.specs.BinaryHeap.{heap_items, heap_len, heap_capacity}
use Rattle.send_queue.specs.declared.batch.Batch.{Batch}
use Rattle.send_queue.specs.Sender.{SenderData, ActiveData, payload_bytes, has_consumer}
use Rattle.send_queue.specs.View.{active_view, batch_view}
use Rattle.send_queue.specs.Inside.{IsWhole, inside_view}
use Rattle.send_queue.proofs.Batches.{before_up_to}
use Rattle.send_queue.proofs.Whole.{whole_first}
use Rattle.send_queue.proofs.queue.SendQueue.send_first.Goals as goal

pub put-requires : goal.put-requires
put-requires c = record { later = before_up_to c.self.inside.handed_out c.self.inside.active c.self.invariant.whole.latest }

pub invariant_of-self-2 : goal.invariant_of-self-2
invariant_of-self-2 c =
    let x = active_view (c.self.inside.handed_out + 1, c.new-active.result) in
    let q = c.self.inside.retries in
    let free : has_consumer (inside_view c.self.inside) ≡ true = ap has_consumer c.self.view_is ∙ sym c.if-not-has_consumer.ensures in
    let few : length c.self.inside.active < c.self.inside.sending.num_consumers = grind (arith, nat_tests, free) in
    let left : c.self.inside.handed_out < 2 ^ 62 = subst (λ (s : SenderData). s.handed_out < 2 ^ 62) (sym c.self.view_is) c.requires.tickets in
    record {
      whole =
          subst (λ (bs : List ActiveData). IsWhole bs (heap_items q) (heap_len q) (heap_capacity q) c.self.inside.sending.num_consumers (c.self.inside.handed_out + 1))
          (sym c.in_ok-put.ensures.on_success)
          (whole_first x c.self.invariant.whole few left refl (ap (λ a. a.due) c.new-active.ensures));
      left = omega (arith, c.self.invariant.left, c.len.ensures, ap (λ (l : List Batch). payload_bytes (map batch_view l)) c.in-Some-pop_front.ensures.items);
    }
