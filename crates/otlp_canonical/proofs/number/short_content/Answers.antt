use Rattle.std.proofs.Common.{◌≡◌, ◌++◌, ◌<◌, ◌∷◌, List, ℕ, length, ap, sym, ◌∙◌, arith, rules}
use Rattle.pb_wire.proofs.Written.{groups_one}
use Rattle.otlp_canonical.proofs.number.short_content.Goals as goal

pub returns-clause-parts : goal.returns-clause-parts
returns-clause-parts c =
    let bytes = c.in_ok-bytes.bytes.now in
    let behind = c.in_ok-bytes.behind.now in
    let size : length bytes ≡ c.in_ok-first.first.now = search rules in
    let small : length bytes < 128 = omega arith in
    let front : c.args.text.now ≡ length bytes ∷ c.in_ok-first.rest.now = search rules in
    front ∙ ap (λ (t : List ℕ). length bytes ∷ t) c.in_ok-bytes.ensures.parts
    ∙ ap (λ (t : List ℕ). (t ++ bytes) ++ behind) (sym (groups_one 9 (length bytes) small))
