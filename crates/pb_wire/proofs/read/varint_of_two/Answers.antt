use Rattle.std.proofs.Common.{◌≡◌, ◌∷◌, arith, rules}
use Rattle.pb_wire.proofs.Numbers.{two_bytes}
use Rattle.pb_wire.proofs.read.varint_of_two.Goals as goal

pub returns-clause-exact : goal.returns-clause-exact
returns-clause-exact c =
    let low = c.from-low.result in
    let high = c.from-high.result in
    let rest = c.in_ok-second.rest.now in
    let front : c.args.bytes.now ≡ low ∷ high ∷ rest = search rules in
    two_bytes c.args.bytes.now low high rest front (omega arith) (omega arith) (omega arith)
