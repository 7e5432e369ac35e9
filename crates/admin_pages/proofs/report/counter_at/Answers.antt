use Rattle.std.proofs.Common.{decimal, ◌++◌, ◌∙◌, append_assoc}
use Rattle.std.proofs.lemmas.Bool.Decides.{Decides-eqb}
use Rattle.std.proofs.lemmas.Slice.Eq.{strip_prefix_is}
use Rattle.admin_pages.proofs.Field.{digits_at, digits_are, rest_is, behind, parted, missing, stripped, clash, same_number, both}
use Rattle.admin_pages.proofs.report.counter_at.Goals as goal

pub returns-in_err-text-clause-each : goal.returns-in_err-text-clause-each
returns-in_err-text-clause-each c n rest small other is =
    let facts = strip_prefix_is Decides-eqb c.args.text.now c.args.label.now c.strip_prefix.result c.strip_prefix.ensures.cases in
    absurd (missing c.strip_prefix.result c.args.text.now c.args.label.now (decimal n ++ rest) facts c.in_err-text.was (is ∙ append_assoc c.args.label.now (decimal n) rest))

pub returns-in_err-spans-clause-each : goal.returns-in_err-spans-clause-each
returns-in_err-spans-clause-each c n rest small other is =
    let facts = strip_prefix_is Decides-eqb c.args.text.now c.args.label.now c.strip_prefix.result c.strip_prefix.ensures.cases in
    let cut = stripped c.strip_prefix.result c.args.text.now c.args.label.now c.in_ok-text.text facts c.in_ok-text.was in
    let text = behind c.args.label.now c.in_ok-text.text.now c.args.text.now (decimal n) rest cut is in
    let at = digits_at n c.digits_at-len.result c.in_ok-text.text.now rest small other c.digits_at-len.ensures text in
    let found = c.number.ensures.each n small (digits_are n c.digits_at-len.result c.in_ok-text.text.now rest at text) in
    absurd (clash c.number.result n found c.in_err-spans.was)

pub returns-clause-only : goal.returns-clause-only
returns-clause-only c =
    let facts = strip_prefix_is Decides-eqb c.args.text.now c.args.label.now c.strip_prefix.result c.strip_prefix.ensures.cases in
    let cut = stripped c.strip_prefix.result c.args.text.now c.args.label.now c.in_ok-text.text facts c.in_ok-text.was in
    parted c.args.label.now c.in_ok-text.text.now c.args.text.now c.in_ok-spans.spans c.digits_at-len.result cut c.in_ok-spans.ensures.only

pub returns-clause-each : goal.returns-clause-each
returns-clause-each c n rest small other is =
    let facts = strip_prefix_is Decides-eqb c.args.text.now c.args.label.now c.strip_prefix.result c.strip_prefix.ensures.cases in
    let cut = stripped c.strip_prefix.result c.args.text.now c.args.label.now c.in_ok-text.text facts c.in_ok-text.was in
    let text = behind c.args.label.now c.in_ok-text.text.now c.args.text.now (decimal n) rest cut is in
    let at = digits_at n c.digits_at-len.result c.in_ok-text.text.now rest small other c.digits_at-len.ensures text in
    let found = c.number.ensures.each n small (digits_are n c.digits_at-len.result c.in_ok-text.text.now rest at text) in
    both c.in_ok-spans.spans n _ rest (same_number c.number.result c.in_ok-spans.spans n c.in_ok-spans.was found)
    (rest_is n c.digits_at-len.result c.in_ok-text.text.now rest at text)
