use Rattle.std.proofs.Common.{◌≡◌, ◌<◌, ◌≤◌, ◌+◌, true, false, List, ℕ, [], ◌++◌, length, drop}
use Rattle.http_edge.specs.Message.{chunked, HasNoBody}
use Rattle.http_line.specs.Line.{Moves}
use Rattle.http_edge.specs.Steps.{work}
use Rattle.http_edge.specs.Stages.{IsAt}
use Rattle.http_edge.specs.AnswerBody.{Keeps}
use Rattle.http_edge.proofs.answer_body.read_answer_chunks.Given as goal

pub record Reads (P : List ℕ → List ℕ → Type 0) (Q S E : Type 0) (H : List ℕ → Type 0) (N O U : Type 0) : Type 0 where
  pub read : List ℕ
  pub body : List ℕ
  pub so_far : P read body
  pub kept : Q
  pub ends : S
  pub met : E
  pub searched : H read
  pub watch : N
  pub going : O
  pub stops : U

abbrev pub invariant-reads : goal.invariant-reads
invariant-reads g l = Reads
    (λ read body. Moves g.L.Line.gives g.L.Line.takes l.fn.line l.line read []
    × IsAt (l.fn.buffer.items ++ read) l.part body l.buffer.items × Keeps body l.kept)
    (g.L.Line.failed l.line ≡ g.L.Line.failed l.fn.line)
    (g.L.Line.ends l.fn.line ≤ g.L.Line.ends l.line)
    (l.ended ≡ true → g.L.Line.ends l.fn.line < g.L.Line.ends l.line)
    (λ read. (front : List ℕ) × (l.fn.buffer.items ++ read ≡ front ++ drop l.watch.seen l.buffer.items) × HasNoBody chunked front)
    ((l.watch.seen ≤ length l.buffer.items) × (l.watch.is_begun ≡ true)
    × (l.ended ≡ true → drop l.watch.seen l.buffer.items ≡ []))
    (l.ended ≡ false → g.L.Line.ends l.line ≡ g.L.Line.ends l.fn.line)
    (g.L.Line.ends l.line ≤ g.L.Line.ends l.fn.line + 1)

abbrev pub decreases-reads : goal.decreases-reads
decreases-reads g l = work (g.L.Line.reads_left l.line) l.buffer.items
