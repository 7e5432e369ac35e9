use Rattle.std.proofs.Common.{◌≡◌, ◌++◌, append_assoc, codes, rules}
use Rattle.tenant_registry.proofs.Changed.{behind, pieced, stripped}
use Rattle.tenant_registry.proofs.changes.text_behind.Goals as goal

pub returns-in_err-behind-clause-each : goal.returns-in_err-behind-clause-each
returns-in_err-behind-clause-each c text is =
    let line = c.args.line.now in
    let word = c.args.word.now in
    let name = c.args.name.now in
    let named = c.in_ok-named.named.now in
    let one : line ≡ word ++ named = search rules in
    let rest = codes " " ++ (text ++ codes "\n") in
    absurd (c.in_err-behind.ensures.cases rest (behind word line named (name ++ rest) one (simp append_assoc at is)))

pub returns-in_err-text-clause-each : goal.returns-in_err-text-clause-each
returns-in_err-text-clause-each c text is =
    let line = c.args.line.now in
    let word = c.args.word.now in
    let name = c.args.name.now in
    let named = c.in_ok-named.named.now in
    let one : line ≡ word ++ named = search rules in
    let two : named ≡ name ++ c.in_ok-behind.behind.now = search rules in
    let first = behind word line named (name ++ (codes " " ++ (text ++ codes "\n"))) one (simp append_assoc at is) in
    absurd (c.in_err-text.ensures.cases (text ++ codes "\n")
    (behind name named c.in_ok-behind.behind.now (codes " " ++ (text ++ codes "\n")) two first))

pub returns-clause-each : goal.returns-clause-each
returns-clause-each c text is =
    let line = c.args.line.now in
    let word = c.args.word.now in
    let name = c.args.name.now in
    let named = c.in_ok-named.named.now in
    let after = c.in_ok-behind.behind.now in
    let one : line ≡ word ++ named = search rules in
    let two : named ≡ name ++ after = search rules in
    let three : after ≡ codes " " ++ c.in_ok-text.text.now = search rules in
    let first = behind word line named (name ++ (codes " " ++ (text ++ codes "\n"))) one (simp append_assoc at is) in
    let second = behind name named after (codes " " ++ (text ++ codes "\n")) two first in
    let third = behind (codes " ") after c.in_ok-text.text.now (text ++ codes "\n") three second in
    stripped (codes "\n") c.in_ok-text.text.now text c.strip_suffix.result c.strip_suffix.ensures.cases third

pub returns-clause-only : goal.returns-clause-only
returns-clause-only c =
    let line = c.args.line.now in
    let word = c.args.word.now in
    let name = c.args.name.now in
    let named = c.in_ok-named.named.now in
    let after = c.in_ok-behind.behind.now in
    let rest = c.in_ok-text.text.now in
    pieced line word named name after (codes " ") rest (codes "\n") c.strip_suffix.result (search rules) (search rules) (search rules)
    c.strip_suffix.ensures.cases
