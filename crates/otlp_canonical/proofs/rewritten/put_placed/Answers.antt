use Rattle.std.proofs.Common.{rules, arith, ◌≡◌, List, [], ℕ, subst}
use Rattle.otlp_canonical.specs.Inner.{ReadAlike}
use Rattle.otlp_canonical.proofs.Joins.{framed}
use Rattle.otlp_canonical.proofs.rewritten.put_placed.Goals as goal

pub returns-clause-put : goal.returns-clause-put
returns-clause-put g c whole =
    let l = g.M.Placed.layout in
    let text = c.args.text.now in
    let anew = c.put_by_places.new.copy.items in
    let none = c.in_ok-anew.anew.items in
    let first : none ≡ [] = search rules in
    let put : ReadAlike l.step l.none c.args.room text none anew = search rules in
    let a : ReadAlike l.step l.none c.args.room text [] anew = subst (λ (t : List ℕ). ReadAlike l.step l.none c.args.room text t anew) first put in
    framed l.step l.none c.args.room c.args.number text anew c.args.copy.now.items c.put_bytes_field.new.out.items (omega arith) (search rules) a
