use Rattle.std.proofs.Common.{◌≡◌, ◌∙◌, ◌<◌, List, [], map, sym, ap, arith, Option, Some}
use Rattle.std.specs.Prelude.{option_map}
use Rattle.tail_policy.specs.declared.note.TraceNote.{TraceNote}
use Rattle.trace_rows.specs.declared.table.Row.{Row}
use Rattle.tenant_stores.specs.View.{WaitingRow}
use Rattle.tenant_stores.proofs.Rooms.{first_is_shown}
use Rattle.tenant_rules.specs.Timers.{first_due}
use Rattle.tenant_pipeline.specs.StateIn.{counts_in, part_in, waiting_of}
use Rattle.tenant_pipeline.proofs.pipeline.Pipeline.first_due.Goals as goal

pub returns : goal.returns
returns c =
    let own = c.args.self.now in
    let p = part_in own c.args.stores.now in
    let some : own.rows.decided < own.rows.opened = omega arith in
    let f = first_is_shown TraceNote (counts_in own) own.batcher.spans [] p c.requires.invariant.sound some in
    let row : Some c.in-Some.row.now ≡ Some f.row = c.in-Some.ensures ∙ f.there in
    ap (λ (o : Option (Row TraceNote)). option_map (λ r. r.due) o) row ∙ sym (ap (λ (ws : List (WaitingRow TraceNote)). first_due (map waiting_of ws)) f.waiting)
