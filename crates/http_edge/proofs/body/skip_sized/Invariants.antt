use Rattle.std.proofs.Common.{◌≡◌, ◌+◌, ◌<◌, ◌≤◌, List, ℕ, [], ◌++◌, length, drop}
use Rattle.http_line.specs.Line.{Moves}
use Rattle.http_edge.specs.Steps.{work}
use Rattle.http_edge.proofs.body.skip_sized.Given as goal

pub record Skips (P : List ℕ → List ℕ → Type 0) (E Q R S : Type 0) : Type 0 where
  pub read : List ℕ
  pub gone : List ℕ
  pub so_far : P read gone
  pub empty : E
  pub work : Q
  pub kept : R
  pub ends : S

abbrev pub invariant-reads : goal.invariant-reads
invariant-reads g l = Skips
    (λ read gone. Moves g.L.Line.gives g.L.Line.takes l.fn.line l.line read []
    × (gone ++ l.buffer.items ≡ drop l.from l.fn.buffer.items ++ read)
    × (length gone + l.left ≡ l.len))
    (0 < l.left → l.buffer.items ≡ [])
    (work (g.L.Line.reads_left l.line) l.buffer.items + l.from ≤ work (g.L.Line.reads_left l.fn.line) l.fn.buffer.items)
    (g.L.Line.failed l.line ≡ g.L.Line.failed l.fn.line)
    (g.L.Line.ends l.line ≡ g.L.Line.ends l.fn.line)

abbrev pub decreases-reads : goal.decreases-reads
decreases-reads g l = g.L.Line.reads_left l.line
