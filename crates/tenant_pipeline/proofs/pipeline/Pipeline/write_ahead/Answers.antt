use Rattle.std.proofs.Common.{◌≡◌, ◌∙◌, ◌∷◌, [], ℕ, List, drop, sym, ap, arith}
use Rattle.send_queue.specs.Sender.{SenderData}
use Rattle.span_batcher.specs.Batches.{Batch}
use Rattle.tenant_stores.specs.Counts.{count}
use Rattle.tenant_rules.specs.Batching.{as_sent}
use Rattle.tenant_pipeline.specs.StateIn.{batch_at, part_in, with_behind}
use Rattle.tenant_pipeline.proofs.Ahead.{room_ahead, written_ahead}
use Rattle.tenant_pipeline.proofs.pipeline.Pipeline.write_ahead.Goals as goal

pub write-requires : goal.write-requires
write-requires c =
    let own = c.args.self.now in
    record { room = room_ahead own.clock own (part_in own c.args.stores.now) c.in-Some.next.now (drop 1 own.unsent) c.requires.invariant c.in-Some.ensures }

pub returns-clause-ahead : goal.returns-clause-ahead
returns-clause-ahead c =
    let own = c.args.self.now in
    let p = part_in own c.args.stores.now in
    let q = part_in own c.flush.new.self in
    let next : Batch ℕ = c.in-Some.next.now in
    let u : Batch ℕ = c.in-Some-pop.written in
    let rest : List (Batch ℕ) = c.pop.new.self in
    let us_is : own.unsent ≡ u ∷ rest = c.in-Some-pop.ensures.first in
    let both : Path (List (Batch ℕ)) (next ∷ drop 1 own.unsent) (u ∷ rest) = sym c.in-Some.ensures ∙ us_is in
    let same : next ≡ u = cc in
    let sender : SenderData = c.write.new.sender in
    let sender_is : sender ≡ with_behind (as_sent (batch_at p u) ∷ []) own.sender =
    c.in_ok-write.ensures.on_success ∙ ap (λ (b : Batch ℕ). with_behind (as_sent (batch_at p b) ∷ []) own.sender) same in
    written_ahead own p q u rest sender us_is sender_is
    (λ n pending left held all. c.flush.ensures.store_invariant n pending left held (λ key. let k = ap (count key) c.keys.ensures in let a = all key in omega (arith, k, a)))
    (λ n pending left held shown all. c.flush.ensures.shows n pending left held shown (λ key. let k = ap (count key) c.keys.ensures in let a = all key in omega (arith, k, a)))
    c.requires.invariant.whole.sound (omega arith)
