use Rattle.std.proofs.Common.{◌≡◌, ◌≤◌, [], Some, None, false, true, length, rules, string_bytes, subst, sym}
use Rattle.std.proofs.lemmas.Str.Pattern.{split_text_parts}
use Rattle.std.specs.Str.{trim_end}
use Rattle.tenant_registry.specs.Changed.{HasWarnings, all_else, bad, good, settings_line}
use Rattle.tenant_registry.proofs.Changed.{first_place}
use Rattle.tenant_registry.proofs.changes.warnings.Goals as goal

pub returns-then-not-report : goal.returns-then-not-report
returns-then-not-report c =
    let is : c.args.report.now.is_good ≡ false = search rules in
    rw is bad

pub returns-in-Some : goal.returns-in-Some
returns-in-Some c =
    let is : c.args.report.now.is_good ≡ true = search rules in
    let text = c.deref.result.now in
    let same : text ≡ string_bytes c.args.report.now.text = search rules in
    let cut = c.in-Some.ensures.cases in
    let parts = split_text_parts settings_line text (Some (c.in-Some.warnings, c.in-Some._settings)) cut in
    let found : HasWarnings text true (trim_end c.in-Some.warnings.now) =
    good c.in-Some.warnings.now c.in-Some._settings.now parts
    (λ other rest at. subst (λ k. k ≤ length other) (sym cut.6) (first_place settings_line text other rest cut.0 cut.2.0 at)) in
    rw (is, c.trim_end.ensures.trim) (subst (λ t. HasWarnings t true (trim_end c.in-Some.warnings.now)) same found)

pub returns-in-None : goal.returns-in-None
returns-in-None c =
    let is : c.args.report.now.is_good ≡ true = search rules in
    let text = c.deref.result.now in
    let same : text ≡ string_bytes c.args.report.now.text = search rules in
    rw is (subst (λ t. HasWarnings t true []) same (all_else (split_text_parts settings_line text None c.in-None.ensures.cases)))
