use Rattle.std.proofs.Common.{◌++◌, ◌∙◌, [], arith}
use Rattle.std.proofs.lemmas.List.{length-map}
use Rattle.span_batcher.specs.Maps.{spans_of}
use Rattle.tail_policy.specs.declared.note.TraceNote.{TraceNote}
use Rattle.tenant_stores.proofs.Rooms.{lengths_are}
use Rattle.tenant_pipeline.specs.StateIn.{counts_in, view_in, waiting_of}
use Rattle.tenant_pipeline.proofs.pipeline.Pipeline.rows_undecided.Goals as goal

pub returns : goal.returns
returns c = λ p holds.
    let own = c.args.self.now in
    let sizes = lengths_are TraceNote (counts_in own) (spans_of own.unsent ++ own.batcher.spans) [] p holds.whole.sound in
    let waiting = length-map (view_in own p).waiting waiting_of ∙ sizes.0 in
    let decided = holds.whole.sound.order.decided in
    omega (arith, c.saturating_sub.ensures, waiting, decided)
