use Rattle.std.proofs.Common.{◌≡◌, ◌∙◌, ◌++◌, ◌∷◌, None, Some, ap, append_assoc, arith, codes, rules}
use Rattle.std.proofs.lemmas.Str.Pattern.{split_after, split_parts}
use Rattle.tenant_registry.proofs.Changed.{behind}
use Rattle.tenant_registry.proofs.changes.name_added.Goals as goal

pub returns-in-Some-clause-says : goal.returns-in-Some-clause-says
returns-in-Some-clause-says c =
    let line = c.args.line.now in
    let named = c.in_ok-named.named.now in
    let text : line ≡ codes "added " ++ named = search rules in
    let parts = split_parts 32 named (Some (c.in-Some.name, c.in-Some._number)) c.in-Some.ensures.cases (omega arith) in
    let whole : line ≡ codes "added " ++ (c.in-Some.name.now ++ (32 ∷ c.in-Some._number.now)) = text ∙ ap (λ t. codes "added " ++ t) parts.0 in
    (c.in-Some._number.now, simp append_assoc whole, parts.1)

pub returns-in-None-clause-none : goal.returns-in-None-clause-none
returns-in-None-clause-none c none name says =
    let line = c.args.line.now in
    let named = c.in_ok-named.named.now in
    let text : line ≡ codes "added " ++ named = search rules in
    let at = behind (codes "added ") line named (name ++ (32 ∷ says.0)) text (simp append_assoc at says.1) in
    split_after 32 named name says.0 None c.in-None.ensures.cases (omega arith) at says.2
