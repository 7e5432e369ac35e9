use Rattle.std.proofs.Common.{◌≡◌, List, ℕ, [], ◌++◌}
use Rattle.http_line.specs.Line.{Moves}
use Rattle.http_edge.specs.Steps.{work}
use Rattle.http_edge.specs.AnswerBody.{HasCome, Keeps}
use Rattle.http_edge.proofs.answer_body.read_plain_body.Given as goal

pub record Reads (P : List ℕ → List ℕ → Type 0) (Q S : Type 0) : Type 0 where
  pub read : List ℕ
  pub body : List ℕ
  pub so_far : P read body
  pub kept : Q
  pub ends : S

abbrev pub invariant-reads : goal.invariant-reads
invariant-reads g l = Reads
    (λ read body. Moves g.L.Line.gives g.L.Line.takes l.fn.line l.line read []
    × HasCome l.framing (l.fn.buffer.items ++ read) l.decoder body l.buffer.items × Keeps body l.kept)
    (g.L.Line.failed l.line ≡ g.L.Line.failed l.fn.line)
    (g.L.Line.ends l.line ≡ g.L.Line.ends l.fn.line)

abbrev pub decreases-reads : goal.decreases-reads
decreases-reads g l = work (g.L.Line.reads_left l.line) l.buffer.items
