use Rattle.std.proofs.Common.{◌≡◌, ◌≤◌, ◌-◌, List, ℕ, []}
use Rattle.http_line.specs.Line.{Moves}
use Rattle.http_edge.specs.Post.{SkipsInterims}
use Rattle.http_edge.proofs.answer.read_final_head.Given as goal

pub record Heads (P : List ℕ → Type 0) (Q R S : Type 0) : Type 0 where
  pub read : List ℕ
  pub so_far : P read
  pub few : Q
  pub kept : R
  pub ends : S

abbrev pub invariant-heads : goal.invariant-heads
invariant-heads g l = Heads
    (λ read. Moves g.L.Line.gives g.L.Line.takes l.fn.line l.line read []
    × SkipsInterims l.interims read l.buffer.items)
    (l.interims ≤ 16)
    (g.L.Line.failed l.line ≡ g.L.Line.failed l.fn.line)
    (g.L.Line.ends l.line ≡ g.L.Line.ends l.fn.line)

abbrev pub decreases-heads : goal.decreases-heads
decreases-heads g l = 16 - l.interims
