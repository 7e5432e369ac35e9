use Rattle.std.proofs.Common.{ap, ◌∙◌}
use Rattle.toml.specs.View.{view, table_view, members_view}
use Rattle.settings_check.specs.Put.{put_member}
use Rattle.settings_check.proofs.Put.{members_view-insert}
use Rattle.settings_check.proofs.document.put.Goals as goal

pub returns : goal.returns
returns c =
    ap members_view c.in_ok-insert.ensures.entries
    ∙ members_view-insert c.in_ok-key.key c.args.value c.args.table.now.entries
    ∙ ap (λ k. put_member k (view c.args.value) (table_view c.args.table.now)) c.in_ok-key.ensures.ok
