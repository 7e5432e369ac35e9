use Rattle.std.proofs.Common.{◌≡◌, ◌+◌, ◌<◌, ◌≤◌, List, ℕ, [], ◌++◌, length, drop}
use Rattle.http_line.specs.Line.{Moves}
use Rattle.http_edge.specs.Limits.{max_read}
use Rattle.http_edge.specs.Steps.{work}
use Rattle.http_edge.proofs.body.read_sized.Given as goal

pub record Reads (P : List ℕ → Type 0) (Q R S T : Type 0) : Type 0 where
  pub read : List ℕ
  pub so_far : P read
  pub work : Q
  pub kept : R
  pub ends : S
  pub most : T

abbrev pub invariant-reads : goal.invariant-reads
invariant-reads g l = Reads
    (λ read. Moves g.L.Line.gives g.L.Line.takes l.fn.line l.line read []
    × (l.body.items ++ l.buffer.items ≡ drop l.from l.fn.buffer.items ++ read)
    × (length l.body.items ≤ l.len)
    × (length l.body.items < l.len → l.buffer.items ≡ []))
    (work (g.L.Line.reads_left l.line) l.buffer.items + l.from ≤ work (g.L.Line.reads_left l.fn.line) l.fn.buffer.items)
    (g.L.Line.failed l.line ≡ g.L.Line.failed l.fn.line)
    (g.L.Line.ends l.line ≡ g.L.Line.ends l.fn.line)
    ((0 < l.most) × (l.most ≤ max_read))

abbrev pub decreases-reads : goal.decreases-reads
decreases-reads g l = g.L.Line.reads_left l.line
