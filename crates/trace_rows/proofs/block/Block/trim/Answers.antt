use Rattle.std.proofs.Common.{◌≡◌, ◌∙◌, ap, sym, List, length, ◌-◌, Option, Some, None, slice_get}
use Rattle.trace_rows.specs.declared.table.Row.{Row}
use Rattle.trace_rows.proofs.Slots.{slots_less}
use Rattle.trace_rows.proofs.block.Block.trim.Goals as goal

pub loop-self-preserved : goal.loop-self-preserved
loop-self-preserved g c =
    let had = c.loop-self.self.slots.items in
    let last : slice_get had (length had - 1) ≡ Some None =
    ap (λ (xs : List (Option (Row g.row.N.Denot))). slice_get xs (length xs - 1)) (sym c.deref.ensures.value)
    ∙ (sym c.in-Some-None.ensures.value ∙ ap (λ (slot : Option (Row g.row.N.Denot)). Some slot) c.in-Some-None.field-0-is) in
    slots_less had c.pop.new.self.items c.pop.result c.pop.ensures.items last ∙ c.loop-self.invariant
