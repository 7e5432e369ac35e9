use Rattle.std.proofs.Common.{◌≤◌, ◌-◌, ℕ, List, length, drop}
use Rattle.http_edge.specs.AnswerBody.{Keeps}
use Rattle.http_edge.specs.Stages.{IsAt}
use Rattle.http_edge.proofs.answer_body.take_chunks.Given as goal

pub record Takes (P Q : Type 0) : Type 0 where
  pub within : P
  pub taken : Q

abbrev pub invariant-pieces : goal.invariant-pieces
invariant-pieces l = Takes
    (l.at ≤ length l.bytes)
    ((stream body : List ℕ) → IsAt stream l.fn.part body l.bytes → Keeps body l.fn.kept
    → (b : List ℕ) × IsAt stream l.part b (drop l.at l.bytes) × Keeps b l.kept)

abbrev pub decreases-pieces : goal.decreases-pieces
decreases-pieces l = length l.bytes - l.at
