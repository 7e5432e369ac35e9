use Rattle.std.proofs.Common.{ℕ, List, ◌∷◌, drop, ap, subst, arith}
use Rattle.span_batcher.specs.Batches.{Batch}
use Rattle.span_batcher.specs.Maps.{spans_of}
use Rattle.tenant_stores.specs.Counts.{count}
use Rattle.tenant_stores.proofs.Lists.{count-append}
use Rattle.tenant_rules.specs.Batching.{as_sent}
use Rattle.tenant_pipeline.specs.Outbox.{Fits}
use Rattle.tenant_pipeline.specs.StateIn.{batch_at, part_in, unsent_at, with_behind}
use Rattle.tenant_pipeline.proofs.Sending.{first_fits}
use Rattle.tenant_pipeline.proofs.pipeline.Pipeline.write_first.Goals as goal

pub write-requires : goal.write-requires
write-requires c =
    let own = c.args.self.now in
    let p = part_in own c.args.stores.now in
    let first : Batch ℕ = c.in-Some.first.now in
    let rest : List (Batch ℕ) = drop 1 c.args.leaving.now.unsent in
    let fits : Fits (with_behind (unsent_at p (first ∷ rest)) own.sender) =
    subst (λ (us : List (Batch ℕ)). Fits (with_behind (unsent_at p us) own.sender)) c.in-Some.ensures c.requires.room.fits in
    record { room = first_fits own.sender (as_sent (batch_at p first)) (unsent_at p rest) fits }

pub returns-clause-gone : goal.returns-clause-gone
returns-clause-gone c = λ key.
    let us = c.args.leaving.now.unsent in
    let first : Batch ℕ = c.in-Some.first.now in
    let more = ap (count key) c.in_ok-extend_from_slice.ensures.items in
    let both = count-append key c.args.leaving.now.gone.items c.keys.result.now in
    let keys = ap (count key) c.keys.ensures in
    let rest = ap (λ (b : List (Batch ℕ)). count key (spans_of b)) c.pop.ensures.rest in
    let split = ap (λ (b : List (Batch ℕ)). count key (spans_of b)) c.in-Some.ensures in
    let parts = count-append key first.spans (spans_of (drop 1 us)) in
    omega (arith, more, both, keys, rest, split, parts)
