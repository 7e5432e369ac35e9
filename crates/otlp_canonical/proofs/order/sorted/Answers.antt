use Rattle.std.proofs.Common.{rules, arith, ◌≡◌, ◌+◌, ◌-◌, suc, [], subst, ℕ}
use Rattle.otlp_canonical.specs.Order.{PlaceRead, AllStand}
use Rattle.otlp_canonical.proofs.Sorted.{Sorting, none_sorted, part_sorted, sorted_read}
use Rattle.otlp_canonical.proofs.order.sorted.Goals as goal

pub places-init : goal.places-init
places-init c =
    let d = c.saturating_sub-depth.result in
    let at : d ≡ 101 - c.args.room = search rules in
    let none : c.in_ok-copy.copy.items ≡ [] = search rules in
    let all : AllStand d c.args.text.now c.in-Some.runs.places = c.in-Some.ensures in
    let there : AllStand (101 - c.args.room) c.args.text.now c.in-Some.runs.places = subst (λ (n : ℕ). AllStand n c.args.text.now c.in-Some.runs.places) at all in
    rw none (none_sorted (101 - c.args.room) c.args.text.now there.pieces there.are)

pub places-preserved : goal.places-preserved
places-preserved c =
    let d = c.saturating_sub-depth.result in
    let at : d ≡ 101 - c.args.room = search rules in
    let low = c.places.place in
    let new = c.put_run.new.copy.items in
    let put : PlaceRead d low c.args.text.now c.places.copy.items new = c.in_ok-put_run.ensures c.if-not-branch.false in
    let there : PlaceRead (101 - c.args.room) low c.args.text.now c.places.copy.items new = subst (λ (n : ℕ). PlaceRead n low c.args.text.now c.places.copy.items new) at put in
    let next : suc low ≡ low + 1 = omega arith in
    subst (λ (n : ℕ). Sorting (101 - c.args.room) n c.args.text.now new) next (part_sorted (101 - c.args.room) low c.args.text.now c.places.copy.items new there c.places.invariant)

pub returns : goal.returns
returns c off span made = sorted_read c.args.room c.places.place c.args.text.now c.places.copy.items (omega arith) (omega arith) (omega arith) c.places.invariant span made
