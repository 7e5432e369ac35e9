use Rattle.std.proofs.Common.{◌≡◌, ◌≤◌, false, Some, Err, string_bytes, sym, ap, ◌∙◌, subst}
use Rattle.std.proofs.lemmas.Bool.{false≢true}
use Rattle.toml.specs.Data.{members_depth, members_have_valid_dates}
use Rattle.toml.specs.Parse.{parse_document}
use Rattle.toml.specs.Text.{IsDocumentText}
use Rattle.toml.specs.View.{table_view}
use Rattle.tail_settings.specs.Settings.{settings_view}
use Rattle.settings_check.specs.Document.{document_of}
use Rattle.settings_check.proofs.Back.{text_back_to}
use Rattle.settings_check.proofs.Shape.{document_depth, document_dates}
use Rattle.settings_check.proofs.document.settings_text.Goals as goal

pub returns-in-Ok-clause-text : goal.returns-in-Ok-clause-text
returns-in-Ok-clause-text c =
    subst (λ m. IsDocumentText false m (string_bytes c.in-Ok.text)) c.in_ok-document.ensures c.in-Ok.ensures.text

pub returns-in-Ok-clause-loads : goal.returns-in-Ok-clause-loads
returns-in-Ok-clause-loads c =
    let s = settings_view c.args.settings.now in
    let made : table_view c.in_ok-document.document ≡ document_of s = c.in_ok-document.ensures in
    let shallow : members_depth (table_view c.in_ok-document.document) ≤ 80 = subst (λ m. members_depth m ≤ 80) (sym made) (document_depth s) in
    let back : parse_document (string_bytes c.in-Ok.text) ≡ Some (table_view c.in_ok-document.document) = c.in-Ok.ensures.reads_back shallow in
    text_back_to (string_bytes c.in-Ok.text) s (subst (λ m. parse_document (string_bytes c.in-Ok.text) ≡ Some m) made back)

pub unreachable-requires : goal.unreachable-requires
unreachable-requires c =
    let bad = c.in-Err-DateInvalid.ensures.dates.0 (ap Err c.in-Err-DateInvalid.field-0-is) in
    false≢true (sym bad ∙ ap members_have_valid_dates c.in_ok-document.ensures ∙ document_dates (settings_view c.args.settings.now))
