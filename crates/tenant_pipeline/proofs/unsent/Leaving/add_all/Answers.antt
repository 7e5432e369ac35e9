use Rattle.std.proofs.Common.{◌≡◌, ◌∙◌, ◌+◌, ◌++◌, ℕ, List, [], ◌∷◌, drop, length, map, refl, sym, ap, subst, arith, length-append, append-nil}
use Rattle.std.proofs.lemmas.List.{drop_more, drop_all}
use Rattle.span_batcher.specs.Batches.{Batch}
use Rattle.span_batcher.specs.Maps.{spans_of}
use Rattle.tenant_stores.specs.Counts.{count}
use Rattle.tenant_stores.specs.Part.{part}
use Rattle.tenant_stores.proofs.Lists.{count-append}
use Rattle.tenant_rules.specs.Batching.{all_sent}
use Rattle.tenant_rules.specs.State.{State}
use Rattle.tenant_rules.specs.Timers.{all_queued}
use Rattle.tenant_pipeline.specs.Outbox.{AreThere}
use Rattle.tenant_pipeline.specs.StateIn.{batch_at, unsent_at, with_behind}
use Rattle.tenant_pipeline.specs.Unsent.{AddsAll}
use Rattle.tenant_pipeline.proofs.Adding.{there-drop}
use Rattle.tenant_pipeline.proofs.Spans.{there-front}
use Rattle.tenant_pipeline.proofs.unsent.Leaving.add_all.Goals as goal

pub add-requires : goal.add-requires
add-requires c =
    let bs : List (Batch ℕ) = c.args.batches.now in
    let i = c.loop-batch.batch-index in
    let u : Batch ℕ = c.batch-item.result in
    let next : drop i bs ≡ u ∷ drop (i + 1) bs = drop_more bs i u c.loop-batch-test.true ∙ ap (λ (b : Batch ℕ). b ∷ drop (i + 1) bs) (sym c.batch-item.is) in
    let size = ap (λ (b : List (Batch ℕ)). length (spans_of b)) next in
    let both = length-append u.spans (spans_of (drop (i + 1) bs)) in
    let keys = ap length c.spans.ensures in
    let pending = c.loop-batch.invariant.pending in
    let few = c.requires.pending in
    record { pending = omega (arith, size, both, keys, pending, few); weighed = c.loop-batch.invariant.weighed }

pub loop-batch-preserved : goal.loop-batch-preserved
loop-batch-preserved c =
    let bs : List (Batch ℕ) = c.args.batches.now in
    let i = c.loop-batch.batch-index in
    let u : Batch ℕ = c.batch-item.result in
    let rest : List (Batch ℕ) = drop (i + 1) bs in
    let inv = c.loop-batch.invariant in
    let sender = c.args.sender.now in
    let p = part c.args.tenant c.args.stores.now in
    let next : drop i bs ≡ u ∷ rest = drop_more bs i u c.loop-batch-test.true ∙ ap (λ (b : Batch ℕ). b ∷ rest) (sym c.batch-item.is) in
    let is : record { moment = c.moment.result; spans = c.spans.result.now } ≡ u = λ j. record { moment = c.moment.ensures j; spans = c.spans.ensures j } in
    let adds : AddsAll p (u ∷ []) sender c.loop-batch.self c.add.new.self c.loop-batch.ledger c.add.new.ledger =
    subst (λ (b : Batch ℕ). AddsAll p (b ∷ []) sender c.loop-batch.self c.add.new.self c.loop-batch.ledger c.add.new.ledger) is c.in_ok-add.ensures in
    record {
      rules = λ there s sender_is ledger_is.
          let t : State = record s { sender = with_behind (unsent_at p c.loop-batch.self.unsent) sender; ledger = c.loop-batch.ledger } in
          let left : AreThere p (u.spans ++ spans_of rest) = subst (λ (b : List (Batch ℕ)). AreThere p (spans_of b)) next (there-drop p i bs there) in
          let here : AreThere p (u.spans ++ []) = subst (λ (ks : List ℕ). AreThere p ks) (sym (append-nil u.spans)) (there-front p u.spans (spans_of rest) left) in
          inv.rules there s sender_is ledger_is
          ∙ (ap (λ (b : List (Batch ℕ)). all_queued (all_sent (map (batch_at p) b)) t) next
          ∙ ap (λ (x : State). all_queued (all_sent (map (batch_at p) rest)) x) (adds.rules here t refl refl));
      gone = λ key.
          let was = inv.gone key in
          let now = adds.gone key in
          let split = ap (λ (b : List (Batch ℕ)). count key (spans_of b)) next in
          let both = count-append key u.spans (spans_of rest) in
          let one = ap (count key) (append-nil u.spans) in
          omega (arith, was, now, split, both, one);
      room = λ fits. adds.room (inv.room fits);
      weighed = adds.weighed;
      pending =
          let was = inv.pending in
          let now = adds.pending in
          let split = ap (λ (b : List (Batch ℕ)). length (spans_of b)) next in
          let both = length-append u.spans (spans_of rest) in
          let one = ap length (append-nil u.spans) in
          omega (arith, was, now, split, both, one);
    }

pub returns : goal.returns
returns c =
    let bs : List (Batch ℕ) = c.args.batches.now in
    let i = c.loop-batch.batch-index in
    let inv = c.loop-batch.invariant in
    let sender = c.args.sender.now in
    let p = part c.args.tenant c.args.stores.now in
    let end : drop i bs ≡ [] = drop_all i bs (omega (arith, c.loop-batch-test.false)) in
    record {
      rules = λ there s sender_is ledger_is.
          let t : State = record s { sender = with_behind (unsent_at p c.loop-batch.self.unsent) sender; ledger = c.loop-batch.ledger } in
          inv.rules there s sender_is ledger_is ∙ ap (λ (b : List (Batch ℕ)). all_queued (all_sent (map (batch_at p) b)) t) end;
      gone = λ key.
          let was = inv.gone key in
          let none = ap (λ (b : List (Batch ℕ)). count key (spans_of b)) end in
          omega (arith, was, none);
      room = inv.room;
      weighed = inv.weighed;
      pending =
          let was = inv.pending in
          let none = ap (λ (b : List (Batch ℕ)). length (spans_of b)) end in
          omega (arith, was, none);
    }
