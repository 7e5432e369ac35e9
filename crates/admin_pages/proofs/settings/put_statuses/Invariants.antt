use Rattle.std.proofs.Common.{◌≡◌, ◌++◌, [], length, map}
use Rattle.tail_settings.specs.Policy.{status_view}
use Rattle.admin_pages.specs.Settings.{statuses_behind}
use Rattle.admin_pages.proofs.settings.put_statuses.Given as goal

abbrev pub invariant-loop-statuses : goal.invariant-loop-statuses
invariant-loop-statuses l = l.out.items ++ statuses_behind l.mark (map status_view l.statuses) ≡ l.fn.out.items ++ statuses_behind [] (map status_view l.fn.statuses)

abbrev pub decreases-loop-statuses : goal.decreases-loop-statuses
decreases-loop-statuses l = length l.statuses
