use Rattle.std.proofs.Common.{◌≡◌, ◌<◌, ◌≤◌, ◌+◌, ◌^◌, ◌∙◌, ◌||◌, ℕ, Bool, length, sym, ap, arith}
use Rattle.std.specs.Prelude.{nat_lt}
use Rattle.send_queue.specs.Sender.{SenderData, payload_bytes}
use Rattle.span_batcher.specs.Batches.{Batch}
use Rattle.span_batcher.specs.Blocks.{capped}
use Rattle.tail_policy.specs.declared.note.TraceNote.{TraceNote}
use Rattle.tenant_stores.specs.Part.{Part, part}
use Rattle.tenant_rules.specs.Batching.{as_sent}
use Rattle.tenant_rules.specs.Sender.{most_bytes}
use Rattle.tenant_pipeline.specs.declared.unsent.Leaving.{Leaving}
use Rattle.tenant_pipeline.specs.StateIn.{batch_at}
use Rattle.tenant_pipeline.specs.Unsent.{IsWeighed, has_no_room}
use Rattle.tenant_pipeline.proofs.Adding.{full_by, large_by}
use Rattle.tenant_pipeline.proofs.unsent.Leaving.size_if_room.Goals as goal

pub returns-then-room-len : goal.returns-then-room-len
returns-then-room-len c = λ moment.
    let sender = c.args.sender.now in
    let unsent = c.args.self.now.unsent in
    let full : sender.sending.queue_size ≤ length sender.queue + length unsent =
    omega (arith, c.if-room-len.true, c.saturating_sub-room.ensures, c.capacity.ensures, c.queued.ensures, c.len.ensures) in
    full_by sender (part c.args.tenant c.args.stores.now) unsent (record { moment = moment; spans = c.args.keys.now }) full

-- by its bytes, of which its text has as many
by_bytes : (sender : SenderData) (p : Part TraceNote) (leaving : Leaving) (u : Batch ℕ) (size : ℕ) (large : Bool) → IsWeighed p leaving → length sender.queue + length leaving.unsent < sender.sending.queue_size →
    size ≡ capped (length (as_sent (batch_at p u)).payload) →
    ((n : ℕ) → size ≡ capped n → large ≡ (nat_lt most_bytes n || nat_lt sender.sending.queue_bytes (payload_bytes sender.queue + leaving.bytes + n))) → has_no_room p u leaving.unsent sender ≡ large
by_bytes sender p leaving u size large weighed room size_is told =
    let n = length (as_sent (batch_at p u)).payload in
    large_by sender p leaving.unsent u room
    ∙ (ap (λ (ahead : ℕ). nat_lt most_bytes n || nat_lt sender.sending.queue_bytes (payload_bytes sender.queue + ahead + n)) (sym weighed)
    ∙ sym (told n size_is))

-- a size that isn't the greatest is the number itself
capped_small : (size n : ℕ) → size ≡ capped n → size ≤ 2 ^ 42 → size ≡ n
capped_small size n is small = omega (arith, is, small)

pub returns-then-is_too_large : goal.returns-then-is_too_large
returns-then-is_too_large c = λ moment.
    let sender = c.args.sender.now in
    let leaving = c.args.self.now in
    let room : length sender.queue + length leaving.unsent < sender.sending.queue_size =
    omega (arith, c.if-room-len.false, c.saturating_sub-room.ensures, c.capacity.ensures, c.queued.ensures, c.len.ensures) in
    by_bytes sender (part c.args.tenant c.args.stores.now) leaving (record { moment = moment; spans = c.args.keys.now }) c.in_ok-size.size c.is_too_large.result c.requires.weighed room c.in_ok-size.ensures c.is_too_large.ensures.large
    ∙ c.if-is_too_large.true

pub returns : goal.returns
returns c = λ moment.
    let sender = c.args.sender.now in
    let leaving = c.args.self.now in
    let p = part c.args.tenant c.args.stores.now in
    let u : Batch ℕ = record { moment = moment; spans = c.args.keys.now } in
    let n = length (as_sent (batch_at p u)).payload in
    let room : length sender.queue + length leaving.unsent < sender.sending.queue_size =
    omega (arith, c.if-room-len.false, c.saturating_sub-room.ensures, c.capacity.ensures, c.queued.ensures, c.len.ensures) in
    let fits = by_bytes sender p leaving u c.in_ok-size.size c.is_too_large.result c.requires.weighed room c.in_ok-size.ensures c.is_too_large.ensures.large ∙ c.if-is_too_large.false in
    let small = c.is_too_large.ensures.small c.if-is_too_large.false in
    (capped_small c.in_ok-size.size n c.in_ok-size.ensures (omega (arith, small)), fits, small)
