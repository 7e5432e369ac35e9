use Rattle.std.proofs.Common.{◌≡◌, ◌≤◌, ◌-◌, length, take, []}
use Rattle.http_line.specs.Line.{Moves}
use Rattle.http_edge.proofs.wire.send.Given as goal

pub record Sends (P : Type 0) (Q R S T : Type 0) : Type 0 where
  pub within : P
  pub moves : Q
  pub end : R
  pub reads : S
  pub kept : T

abbrev pub invariant-pieces : goal.invariant-pieces
invariant-pieces g l = Sends
    (l.at ≤ length l.bytes)
    (Moves g.L.Line.gives g.L.Line.takes l.fn.line l.line []
    (take l.at l.bytes))
    (g.L.Line.ends l.line ≡ g.L.Line.ends l.fn.line)
    (g.L.Line.reads_left l.line ≡ g.L.Line.reads_left l.fn.line)
    (g.L.Line.failed l.line ≡ g.L.Line.failed l.fn.line)

abbrev pub decreases-pieces : goal.decreases-pieces
decreases-pieces g l = length l.bytes - l.at
