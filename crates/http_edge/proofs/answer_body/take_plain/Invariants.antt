use Rattle.std.proofs.Common.{◌≤◌, ◌-◌, ℕ, List, length, drop}
use Rattle.http1.specs.declared.framing.Framing.{Framing}
use Rattle.http_edge.specs.AnswerBody.{HasCome, Keeps}
use Rattle.http_edge.proofs.answer_body.take_plain.Given as goal

pub record Takes (P Q : Type 0) : Type 0 where
  pub within : P
  pub taken : Q

abbrev pub invariant-pieces : goal.invariant-pieces
invariant-pieces l = Takes
    (l.at ≤ length l.bytes)
    ((framing : Framing) (stream body : List ℕ) → HasCome framing stream l.fn.decoder body l.bytes
    → Keeps body l.fn.kept
    → (b : List ℕ) × HasCome framing stream l.decoder b (drop l.at l.bytes) × Keeps b l.kept)

abbrev pub decreases-pieces : goal.decreases-pieces
decreases-pieces l = length l.bytes - l.at
