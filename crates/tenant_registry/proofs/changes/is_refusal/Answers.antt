use Rattle.std.proofs.Common.{◌≡◌, ◌∙◌, ◌++◌, codes, subst, sym}
use Rattle.std.proofs.lemmas.Bool.{false≢true}
use Rattle.std.proofs.lemmas.Slice.Eq.{bytes_eq-Decides}
use Rattle.tenant_registry.proofs.changes.is_refusal.Goals as goal

pub returns-in-Some : goal.returns-in-Some
returns-in-Some c =
    let other = c.in-Some.other.now in
    let number = c.args.number.now in
    let decides = bytes_eq-Decides other number in (
      λ same. subst (λ why. c.args.line.now ≡ codes "refused " ++ c.args.name.now ++ codes " " ++ why ++ codes "\n")
          (decides.0 (sym c.eq.ensures ∙ same)) c.in-Some.ensures.only,
      λ is. let found = c.in-Some.ensures.each number is in
          let same : other ≡ number = cc in
          c.eq.ensures ∙ decides.1 same,
    )

pub returns-in-None : goal.returns-in-None
returns-in-None c =
    (λ wrong. absurd (false≢true wrong), λ is. let found = c.in-None.ensures.each c.args.number.now is in absurd (cc))
