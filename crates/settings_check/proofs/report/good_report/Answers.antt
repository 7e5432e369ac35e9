use Rattle.std.proofs.Common.{◌≡◌, codes, true, ◌++◌, string_bytes, refl, ap, sym, subst, ◌∙◌}
use Rattle.toml.specs.Parse.{parse_document}
use Rattle.settings_check.specs.Doubts.{doubts_in}
use Rattle.settings_check.specs.Report.{Reports}
use Rattle.settings_check.specs.Warning.{warnings_of}
use Rattle.settings_check.proofs.Reports.{by_ref}
use Rattle.settings_check.proofs.report.good_report.Goals as goal

pub returns : goal.returns
returns c =
    let parsed = parse_document c.args.text.now in
    let read = by_ref c.as_ref.result c.in_ok-document.document c.as_ref.ensures.value ∙ c.in_ok-document.ensures in
    let shown = string_bytes c.in_ok-shown.shown in
    let warned = c.as_str.ensures.value ∙ c.in_ok-warnings.ensures ∙ ap warnings_of read in
    let headed = c.as_str-2.ensures.value ∙ c.in_ok-head.ensures in
    let whole : string_bytes c.in_ok-told.told ≡ warnings_of parsed ++ codes "# the settings in force\n" ++ shown = rw (headed, warned, c.as_str-3.ensures.value) at c.in_ok-told.ensures in (
      subst (λ r. Reports parsed r true (string_bytes c.in_ok-told.told)) (sym c.requires.loaded)
          (refl, shown, whole, c.in_ok-shown.ensures.text, c.in_ok-shown.ensures.loads c.requires.valid),
      c.in_ok-doubts.ensures ∙ ap doubts_in (sym c.requires.loaded),
    )
