-- When a tenant next has something to do. When there is a job is a rule of `send_queue`. This project's own rule.
use Rattle.std.specs.Prelude.{ℕ, List, [], ◌∷◌, Option, Some, None}
use Rattle.span_batcher.specs.State.{next_due}
use Rattle.tenant_rules.specs.Fate.{WaitingData}
pub use Rattle.send_queue.specs.Sender.{lesser, next_retry, front_moment, next_front, ready as next_job}
use Rattle.tenant_rules.specs.State.{State}

-- the least due moment of the rows that wait
abbrev pub next_decision : List WaitingData → Option ℕ
next_decision [] = None
next_decision (row ∷ rows) = lesser (Some row.due) (next_decision rows)

-- the least of what is due: a decision, the batch timer, a job
unfoldable pub ready : State → Option ℕ
ready s = lesser (lesser (next_decision s.waiting) (next_due s.pending)) (next_job s.sender)
