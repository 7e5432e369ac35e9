use Rattle.std.proofs.Common.{◌∙◌, drop}
use Rattle.std.proofs.lemmas.List.{drop_all}
use Rattle.toml.specs.Data.{string}
use Rattle.toml.specs.View.{view}
use Rattle.tail_settings.specs.Policy.{status_view}
use Rattle.settings_check.specs.Document.{status_name}
use Rattle.settings_check.proofs.Put.{made_at, all_made}
use Rattle.settings_check.proofs.document.status_names.Goals as goal

pub loop-status-preserved : goal.loop-status-preserved
loop-status-preserved c =
    rw c.in_ok-push.ensures.items (made_at view status_view (λ s. string (status_name s)) c.loop-status.names.items c.in_ok-string.field-0 c.args.statuses.now c.loop-status.status-index _
    c.loop-status-test.true (rw c.status_name.ensures at c.in_ok-string.ensures) ∙ c.loop-status.invariant)

pub returns : goal.returns
returns c =
    let xs = c.args.statuses.now in
    let i = c.loop-status.status-index in
    all_made status_view (λ s. string (status_name s)) c.loop-status.names (drop i xs) xs (drop_all i xs c.loop-status-test.false) c.loop-status.invariant
