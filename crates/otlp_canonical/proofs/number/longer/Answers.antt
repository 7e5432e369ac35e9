use Rattle.std.proofs.Common.{◌≡◌, ◌++◌, ◌+◌, ◌*◌, ◌∷◌, [], List, ℕ, ap, sym, ◌∙◌, arith, rules}
use Rattle.pb_wire.specs.Text.{groups}
use Rattle.otlp_canonical.proofs.Numbers.{groups_two}
use Rattle.otlp_canonical.proofs.number.longer.Goals as goal

pub returns-clause-parts : goal.returns-clause-parts
returns-clause-parts c =
    let byte = c.in_ok-first.first.now in
    let high = c.in_ok-second.second.now in
    let front : c.args.text.now ≡ byte ∷ c.in_ok-first.rest.now = search rules in
    let next : c.in_ok-first.rest.now ≡ high ∷ c.in_ok-second.behind.now = search rules in
    let n = c.from.result * 128 + c.from-2.result in
    let two : groups 9 n ≡ byte ∷ high ∷ [] = groups_two byte high n (omega arith) (search rules) (omega arith) (omega arith) (omega arith) in
    front ∙ ap (λ (t : List ℕ). byte ∷ t) next ∙ ap (λ (t : List ℕ). t ++ c.in_ok-second.behind.now) (sym two)
