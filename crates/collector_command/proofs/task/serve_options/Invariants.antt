use Rattle.std.proofs.Common.{◌≡◌, length, map, None, string_bytes}
use Rattle.collector_command.specs.Task.{none_given, options_from, options_view}
use Rattle.collector_command.proofs.task.serve_options.Given as goal

abbrev pub invariant-loop-left : goal.invariant-loop-left
invariant-loop-left l = options_from (options_view l.given) None (map string_bytes l.left) ≡ options_from none_given None (map string_bytes l.fn.words)

abbrev pub decreases-loop-left : goal.decreases-loop-left
decreases-loop-left l = length l.left
