use Rattle.std.proofs.Common.{◌≡◌, ◌++◌, length, length-append, refl, arith}
use Rattle.tenant_pipeline.specs.StateIn.{unsent_at}
use Rattle.tenant_pipeline.proofs.Unwritten.{unsent_length}
use Rattle.tenant_pipeline.proofs.pipeline.Pipeline.usage.Goals as goal

pub returns : goal.returns
returns c = λ p holds.
    let own = c.args.self.now in
    let fits = holds.whole.within.queue_fits in
    let range = own.section.sending_queue.queue_size_range in
    let both = length-append own.sender.queue (unsent_at p own.unsent) in
    let many = unsent_length p own.unsent in
    let queued : c.saturating_add.result ≡ length (own.sender.queue ++ unsent_at p own.unsent) = omega (arith, c.saturating_add.ensures, c.queued.ensures, c.len.ensures, fits, range.1, both, many) in
    rw (c.rows_present.ensures p holds, c.rows_undecided.ensures p holds, c.from.ensures, c.from-2.ensures, queued, c.from-3.ensures, c.capacity.ensures, c.bytes_waiting.ensures p holds, c.bytes_allowed.ensures p holds)
    refl
