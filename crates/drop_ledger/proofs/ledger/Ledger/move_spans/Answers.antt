use Rattle.std.proofs.Common.{◌≡◌, ◌+◌, ◌-◌, ◌≤◌, arith, ap, ◌∙◌}
use Rattle.drop_ledger.specs.Ledger.{LedgerData, held, with_held, in_places}
use Rattle.drop_ledger.proofs.Sums.{held_in, sum_with}
use Rattle.drop_ledger.proofs.ledger.Ledger.move_spans.Goals as goal

pub overflow_add-held : goal.overflow_add-held
overflow_add-held c =
    let places = c.self.inside.places in
    let from = c.args.from in
    let less = held from places - c.args.spans in
    let set : c.set.new.self ≡ with_held from less places = c.set.ensures ∙ ap (λ n. with_held from (n - c.args.spans) places) c.held.ensures in
    let sum : in_places c.set.new.self + held from places ≡ in_places places + less = ap (λ p. in_places p + held from places) set ∙ sum_with from less places in
    let more : c.held-2.result ≤ in_places c.set.new.self = rw (c.held-2.ensures) (held_in c.args.to c.set.new.self) in
    let some : c.args.spans ≤ held from places = rw (← ap (λ (l : LedgerData). held from l.places) c.self.view_is) at c.requires.enough_there in
    let all : in_places places ≡ c.self.inside.accepted = c.self.invariant.each_once in
    let few = c.self.invariant.few in
    omega (arith, sum, more, some, all, few)
