use Rattle.std.proofs.Common.{◌≤◌, List, [], ◌∷◌, map, ap, arith}
use Rattle.send_queue.specs.declared.batch.Batch.{Batch}
use Rattle.send_queue.specs.Sender.{payload_bytes}
use Rattle.send_queue.specs.View.{batch_view}
use Rattle.send_queue.proofs.Queued.{bytes_behind}
use Rattle.send_queue.proofs.queue.SendQueue.offer.Goals as goal

pub invariant_of-self-2 : goal.invariant_of-self-2
invariant_of-self-2 c =
    let before : List Batch = c.reserve.new.self.items in
    let more = bytes_behind c.push_back.new.self.items before (c.args.batch ∷ []) c.in-Ok-push_back.ensures.items in
    let same = ap (λ (l : List Batch). payload_bytes (map batch_view l)) c.reserve.ensures.items in
    let room : c.len-bytes.result ≤ c.self.inside.bytes_left = c.if-bytes-self.false in
    record {
      whole = c.self.invariant.whole;
      left = omega (arith, c.self.invariant.left, more, same, room, c.len-bytes.ensures.value);
    }
