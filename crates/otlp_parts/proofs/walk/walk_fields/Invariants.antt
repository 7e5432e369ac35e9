use Rattle.std.proofs.Common.{◌-◌, ◌+◌, ◌≤◌, length}
use Rattle.otlp_read.specs.Walk.{read_with}
use Rattle.otlp_parts.proofs.Places.{Left}
use Rattle.otlp_parts.proofs.walk.walk_fields.Given as goal

abbrev pub invariant-fields : goal.invariant-fields
invariant-fields g l = record {
  read : Left (g.M.Walked.step (l.room - 1)) (101 - l.room) (g.M.Walked.view l.value) l.text l.left (read_with g.M.Walked.step l.room (g.M.Walked.view l.fn.before) l.text);
  held : l.sliced + g.M.Walked.size (g.M.Walked.view l.fn.before) ≤ l.initial.sliced + g.M.Walked.size (g.M.Walked.view l.value);
}

abbrev pub decreases-fields : goal.decreases-fields
decreases-fields g l = length l.left
