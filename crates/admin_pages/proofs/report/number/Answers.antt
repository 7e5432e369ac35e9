use Rattle.std.proofs.Common.{◌≡◌, decimal, Some, sym, ap, ◌∙◌}
use Rattle.admin_pages.proofs.Field.{clash, same_number, differs}
use Rattle.admin_pages.proofs.Numbers.{are_text, no_text, same_text, parsed}
use Rattle.admin_pages.proofs.report.number.Goals as goal

pub returns-in_err-text-clause-each : goal.returns-in_err-text-clause-each
returns-in_err-text-clause-each c n small is =
    absurd (no_text c.ok.result c.args.digits.now (are_text _ c.from_utf8.result c.ok.result c.args.digits.now n small is c.from_utf8.ensures.cases c.ok.ensures.value) c.in_err-text.was)

pub returns-in_err-number-clause-each : goal.returns-in_err-number-clause-each
returns-in_err-number-clause-each c n small is =
    let text = are_text _ c.from_utf8.result c.ok.result c.args.digits.now n small is c.from_utf8.ensures.cases c.ok.ensures.value in
    let same = same_text c.ok.result c.args.digits.now _ text c.in_ok-text.was in
    let found = parsed n _ c.parse.result c.ok-2.result small (same ∙ is) c.parse.ensures.value.0 c.ok-2.ensures.value in
    absurd (clash c.ok-2.result n found c.in_err-number.was)

pub returns-then-eq-clause-each : goal.returns-then-eq-clause-each
returns-then-eq-clause-each c n small is =
    let text = are_text _ c.from_utf8.result c.ok.result c.args.digits.now n small is c.from_utf8.ensures.cases c.ok.ensures.value in
    let same = same_text c.ok.result c.args.digits.now _ text c.in_ok-text.was in
    let found = parsed n _ c.parse.result c.ok-2.result small (same ∙ is) c.parse.ensures.value.0 c.ok-2.ensures.value in
    ap (λ k. Some k) (same_number c.ok-2.result c.in_ok-number.number n c.in_ok-number.was found)

pub returns-else-eq-clause-each : goal.returns-else-eq-clause-each
returns-else-eq-clause-each c n small is =
    let text = are_text _ c.from_utf8.result c.ok.result c.args.digits.now n small is c.from_utf8.ensures.cases c.ok.ensures.value in
    let same = same_text c.ok.result c.args.digits.now _ text c.in_ok-text.was in
    let found = parsed n _ c.parse.result c.ok-2.result small (same ∙ is) c.parse.ensures.value.0 c.ok-2.ensures.value in
    let number = same_number c.ok-2.result c.in_ok-number.number n c.in_ok-number.was found in
    let all : c.as_bytes.result.now ≡ c.args.digits.now = c.as_bytes.ensures.value ∙ (c.format.ensures.text ∙ (ap decimal number ∙ sym is)) in
    absurd (differs c.eq.result c.as_bytes.result.now c.args.digits.now c.eq.ensures c.if-eq.false all)
