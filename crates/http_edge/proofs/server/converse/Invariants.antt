use Rattle.std.proofs.Common.{◌≡◌, List, ℕ}
use Rattle.http_line.specs.Line.{Moves}
use Rattle.http_edge.specs.Steps.{work}
use Rattle.http_edge.specs.Talk.{Exchange, Asks, told, Runs}
use Rattle.http_edge.proofs.server.converse.Given as goal

pub record Served (P : List ℕ → List Exchange → Type 0) (Q R : Type 0) : Type 0 where
  pub read : List ℕ
  pub exchanges : List Exchange
  pub so_far : P read exchanges
  pub kept : Q
  pub ends : R

abbrev pub invariant-messages : goal.invariant-messages
invariant-messages g l = Served
    (λ read es. Moves g.L.Line.gives g.L.Line.takes l.fn.line l.line read (told g.H.Handler.refusals es)
    × Runs g.H.Handler.answers l.fn.handler es l.handler
    × Asks read es l.buffer.items)
    (g.L.Line.failed l.line ≡ g.L.Line.failed l.fn.line)
    (g.L.Line.ends l.line ≡ g.L.Line.ends l.fn.line)

abbrev pub decreases-messages : goal.decreases-messages
decreases-messages g l = work (g.L.Line.reads_left l.line) l.buffer.items
