use Rattle.std.proofs.Common.{◌≡◌, ◌∙◌, ◌<◌, ap, arith, rules, refl, ℕ, Some, Option, length, vec_len}
use Rattle.trace_rows.specs.declared.table.Row.{Row}
use Rattle.trace_rows.specs.Blocks.{slots_of}
use Rattle.trace_rows.specs.Part.{with_at}
use Rattle.trace_rows.proofs.Slots.{slots, slots_set, slots_push, next_place}
use Rattle.trace_rows.proofs.block.Block.put.Goals as goal

pub returns-in-Some-clause-rows : goal.returns-in-Some-clause-rows
returns-in-Some-clause-rows g c =
    let slot : Option (Row g.row.N.Denot) = Some c.args.row in
    let less : c.args.place < vec_len c.fill.new.self.slots = c.in-Some.ensures.variant.0 refl in
    let within : c.args.place < length c.fill.new.self.slots.items = omega (arith, less) in
    slots_set c.fill.new.self.slots.items c.args.place slot within ∙ ap (with_at c.args.place slot) c.in_ok-fill.ensures.rows

pub returns-in_err-push-clause-on_refusal : goal.returns-in_err-push-clause-on_refusal
returns-in_err-push-clause-on_refusal g c =
    let kept : slots_of {N = g.row.N.Denot} (record { slots = c.push.new.self }) ≡ slots_of c.args.self.now = ap slots c.in_err-push.ensures.items ∙ c.in_ok-fill.ensures.rows in
    search (rules, kept)

pub returns-clause-rows : goal.returns-clause-rows
returns-clause-rows g c =
    let slot : Option (Row g.row.N.Denot) = Some c.args.row in
    let had = c.fill.new.self.slots in
    let next : vec_len had ≡ c.args.place = next_place (vec_len had) c.args.place c.in_ok-fill.ensures.places c.in_default.ensures.variant.1 in
    let long : length had.items ≡ c.args.place = omega (arith, next) in
    ap slots c.in_ok-push.ensures.items
    ∙ (slots_push had.items slot
    ∙ (ap (λ (place : ℕ). with_at place slot (slots had.items)) long
    ∙ ap (with_at c.args.place slot) c.in_ok-fill.ensures.rows))
