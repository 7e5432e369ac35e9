use Rattle.std.proofs.Common.{rules, ◌≡◌, ◌++◌, List, ℕ, length, sym, ap, ◌∙◌, append-nil}
use Rattle.otlp_canonical.proofs.Parts.{nothing}
use Rattle.otlp_canonical.proofs.defaults.put_between.Goals as goal

pub returns-then-is_empty : goal.returns-then-is_empty
returns-then-is_empty c =
    let old = c.args.copy.now.items in
    let run = c.args.run.now in
    let none : length run ≡ 0 = search rules in
    sym (append-nil old) ∙ ap (λ (t : List ℕ). old ++ t) (sym (nothing run none))
