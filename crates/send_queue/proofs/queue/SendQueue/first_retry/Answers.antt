use Rattle.std.proofs.Common.{◌∙◌, ap, sym}
use Rattle.std.specs.BinaryHeap.{heap_items}
use Rattle.send_queue.specs.Sender.{SenderData, first_retry}
use Rattle.send_queue.proofs.First.{top_in, top_first, none_first}
use Rattle.send_queue.proofs.queue.SendQueue.first_retry.Goals as goal

pub returns-in-Some : goal.returns-in-Some
returns-in-Some c =
    let heap = heap_items c.self.inside.retries in
    let x = c.in-Some.first.now in
    let there = top_in heap x (c.in-Some.ensures.item.3.0) c.in-Some.ensures.lookup in
    sym (top_first x heap c.self.inside.active c.self.invariant.whole.same there (c.in-Some.ensures.greatest c.self.invariant.whole.greatest))
    ∙ ap (λ (s : SenderData). first_retry s.active) c.self.view_is

pub returns-in-None : goal.returns-in-None
returns-in-None c =
    sym (none_first (heap_items c.self.inside.retries) c.self.inside.active c.self.invariant.whole.same c.in-None.ensures.item.3)
    ∙ ap (λ (s : SenderData). first_retry s.active) c.self.view_is
