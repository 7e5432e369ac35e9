use Rattle.std.proofs.Common.{◌≡◌, ◌+◌, ◌∙◌, ◌++◌, ◌∷◌, [], ℕ, List, drop, length, length-append, ap, subst, sym, refl, arith}
use Rattle.std.proofs.lemmas.List.{drop_more, drop_all}
use Rattle.send_queue.specs.Sender.{BatchData}
use Rattle.span_batcher.specs.Batches.{Batch}
use Rattle.span_batcher.specs.Maps.{spans_of}
use Rattle.tenant_stores.specs.Part.{part}
use Rattle.tenant_rules.specs.Batching.{as_sent}
use Rattle.tenant_rules.specs.State.{State}
use Rattle.tenant_rules.specs.Timers.{all_queued, queued}
use Rattle.tenant_pipeline.specs.declared.pipeline.Pipeline.{Pipeline}
use Rattle.tenant_pipeline.specs.Outbox.{AreThere, batch_at, sent_at, Sends}
use Rattle.tenant_pipeline.specs.StateIn.{part_in, unsent_at}
use Rattle.tenant_pipeline.proofs.Adding.{there-drop}
use Rattle.tenant_pipeline.proofs.Sending.{took_more, pending_one}
use Rattle.tenant_pipeline.proofs.Spans.{there-front}
use Rattle.tenant_pipeline.proofs.Unwritten.{there_size}
use Rattle.tenant_pipeline.proofs.pipeline.Pipeline.offer_all.Goals as goal

pub offer-requires-clause-there : goal.offer-requires-clause-there
offer-requires-clause-there c =
    let bs : List (Batch ℕ) = c.args.batches.now in
    let i = c.loop-batch.batch-index in
    let u : Batch ℕ = c.batch-item.result in
    let p = part_in c.args.self.now c.args.stores.now in
    let next : drop i bs ≡ u ∷ drop (i + 1) bs = drop_more bs i u c.loop-batch-test.true ∙ ap (λ (b : Batch ℕ). b ∷ drop (i + 1) bs) (sym c.batch-item.is) in
    let tenant : c.loop-batch.self.tenant ≡ c.args.self.now.tenant = ap (λ (x : Pipeline). x.tenant) c.loop-batch.invariant.same in
    let left : AreThere p (u.spans ++ spans_of (drop (i + 1) bs)) = subst (λ (b : List (Batch ℕ)). AreThere p (spans_of b)) next (there-drop p i bs c.requires.there) in
    let here : AreThere p c.spans.result.now = subst (λ (ks : List ℕ). AreThere p ks) (sym c.spans.ensures) (there-front p u.spans (spans_of (drop (i + 1) bs)) left) in
    subst (λ (t : ℕ). AreThere (part t c.args.stores.now) c.spans.result.now) (sym tenant) here

pub offer-requires-clause-pending : goal.offer-requires-clause-pending
offer-requires-clause-pending c =
    let bs : List (Batch ℕ) = c.args.batches.now in
    let i = c.loop-batch.batch-index in
    let u : Batch ℕ = c.batch-item.result in
    let next : drop i bs ≡ u ∷ drop (i + 1) bs = drop_more bs i u c.loop-batch-test.true ∙ ap (λ (b : Batch ℕ). b ∷ drop (i + 1) bs) (sym c.batch-item.is) in
    let size = ap (λ (b : List (Batch ℕ)). length (spans_of b)) next in
    let both = length-append u.spans (spans_of (drop (i + 1) bs)) in
    let keys = ap length c.spans.ensures in
    let few = c.loop-batch.invariant.few in
    omega (arith, size, both, keys, few)

pub loop-batch-preserved : goal.loop-batch-preserved
loop-batch-preserved c =
    let first : Pipeline = c.args.self.now in
    let own : Pipeline = c.loop-batch.self in
    let new : Pipeline = record own { sender = c.offer.new.sender; ledger = c.offer.new.ledger } in
    let bs : List (Batch ℕ) = c.args.batches.now in
    let i = c.loop-batch.batch-index in
    let u : Batch ℕ = c.batch-item.result in
    let rest : List (Batch ℕ) = drop (i + 1) bs in
    let inv = c.loop-batch.invariant in
    let p = part_in first c.args.stores.now in
    let q = part own.tenant c.args.stores.now in
    let next : drop i bs ≡ u ∷ rest = drop_more bs i u c.loop-batch-test.true ∙ ap (λ (b : Batch ℕ). b ∷ rest) (sym c.batch-item.is) in
    let tenant : own.tenant ≡ first.tenant = ap (λ (x : Pipeline). x.tenant) inv.same in
    let b : BatchData = as_sent (batch_at p u) in
    let is : sent_at c.moment.result c.spans.result.now q ≡ b = λ j. sent_at (c.moment.ensures j) (c.spans.ensures j) (part (tenant j) c.args.stores.now) in
    let left : AreThere p (u.spans ++ spans_of rest) = subst (λ (d : List (Batch ℕ)). AreThere p (spans_of d)) next (there-drop p i bs c.requires.there) in
    let many : b.spans ≡ length u.spans = there_size p u.spans (there-front p u.spans (spans_of rest) left) in
    let size = ap (λ (d : List (Batch ℕ)). length (spans_of d)) next in
    let both = length-append u.spans (spans_of rest) in
    let few = inv.few in
    let sends : Sends (queued b) own new = record {
      rules = λ s sender ledger. ap (λ (d : BatchData). queued d s) (sym is) ∙ c.in-Ok.ensures.on_success s sender ledger;
      same = refl;
    } in
    record {
      rules = λ s sender ledger.
          let t : State = record s { sender = own.sender; ledger = own.ledger } in
          inv.rules s sender ledger
          ∙ (ap (λ (d : List (Batch ℕ)). all_queued (unsent_at p d) t) next
          ∙ ap (λ (x : State). all_queued (unsent_at p rest) x) (sends.rules t refl refl));
      same = ap (λ (x : Pipeline). let y : Pipeline = record x { sender = new.sender; ledger = new.ledger } in y) inv.same;
      took = took_more c.loop-batch.offers c.in-Ok.taken first.sender own.sender new.sender inv.took c.in-Ok.ensures.took;
      few = let less = pending_one b own new sends (omega (arith, many, size, both, few)) in omega (arith, less, many, size, both, few);
    }

pub returns-clause-on_success : goal.returns-clause-on_success
returns-clause-on_success c =
    let p = part_in c.args.self.now c.args.stores.now in
    let bs : List (Batch ℕ) = c.args.batches.now in
    let own : Pipeline = c.loop-batch.self in
    let end : drop c.loop-batch.batch-index bs ≡ [] = drop_all c.loop-batch.batch-index bs (omega (arith, c.loop-batch-test.false)) in
    record {
      rules = λ s sender ledger.
          let t : State = record s { sender = own.sender; ledger = own.ledger } in
          c.loop-batch.invariant.rules s sender ledger ∙ ap (λ (d : List (Batch ℕ)). all_queued (unsent_at p d) t) end;
      same = c.loop-batch.invariant.same;
    }
