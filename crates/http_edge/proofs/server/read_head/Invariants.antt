use Rattle.std.proofs.Common.{◌≡◌, ◌≤◌, List, ℕ, [], ◌++◌}
use Rattle.httparse.specs.Grammar.{HasNoRequest}
use Rattle.http_line.specs.Line.{Moves}
use Rattle.http_edge.specs.Stages.{IsWatched}
use Rattle.http_edge.specs.Steps.{work}
use Rattle.http_edge.proofs.server.read_head.Given as goal

pub record Reads (P : List ℕ → Type 0) (Q R S W : Type 0) : Type 0 where
  pub read : List ℕ
  pub moves : P read
  pub work : Q
  pub kept : R
  pub ends : S
  pub watched : W

abbrev pub invariant-looks : goal.invariant-looks
invariant-looks g l = Reads
    (λ read. Moves g.L.Line.gives g.L.Line.takes l.fn.line l.line read [] × (l.buffer.items ≡ l.fn.buffer.items ++ read))
    (work (g.L.Line.reads_left l.line) l.buffer.items ≤ work (g.L.Line.reads_left l.fn.line) l.fn.buffer.items)
    (g.L.Line.failed l.line ≡ g.L.Line.failed l.fn.line)
    (g.L.Line.ends l.line ≡ g.L.Line.ends l.fn.line)
    (IsWatched HasNoRequest l.buffer.items l.watch)

abbrev pub decreases-looks : goal.decreases-looks
decreases-looks g l = work (g.L.Line.reads_left l.line) l.buffer.items
