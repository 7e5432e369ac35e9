use Rattle.std.proofs.Common.{◌∙◌, ◌<◌, ap, arith, refl, Option, length, vec_len}
use Rattle.trace_rows.specs.declared.table.Row.{Row}
use Rattle.trace_rows.specs.Blocks.{slots_of}
use Rattle.trace_rows.specs.Part.{with_at}
use Rattle.trace_rows.proofs.Slots.{slots_set}
use Rattle.trace_rows.proofs.block.Block.take.Goals as goal

pub returns-clause-rows : goal.returns-clause-rows
returns-clause-rows g c =
    let had = c.args.self.now in
    let less : c.args.place < vec_len had.slots = c.in_ok-get_mut.ensures.variant.0 refl in
    let within : c.args.place < length had.slots.items = omega (arith, less) in
    c.trim.ensures
    ∙ (slots_set had.slots.items c.args.place c.take-row.new.self within
    ∙ ap (λ (slot : Option (Row g.row.N.Denot)). with_at c.args.place slot (slots_of had)) c.take-row.ensures.after)
