use Rattle.std.proofs.Common.{◌≡◌, ◌++◌, ◌<◌, ◌∷◌, List, ℕ, ap, sym, ◌∙◌, arith, rules}
use Rattle.pb_wire.proofs.Written.{groups_one}
use Rattle.otlp_canonical.proofs.number.shortest.Goals as goal

pub returns-then-byte-lt128-clause-parts : goal.returns-then-byte-lt128-clause-parts
returns-then-byte-lt128-clause-parts c =
    let same : c.from.result ≡ c.in_ok-first.first.now = search rules in
    let small : c.from.result < 128 = omega arith in
    let front : c.args.text.now ≡ c.from.result ∷ c.in_ok-first.rest.now = search rules in
    front ∙ ap (λ (t : List ℕ). t ++ c.in_ok-first.rest.now) (sym (groups_one 9 c.from.result small))
