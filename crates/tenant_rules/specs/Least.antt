-- What `ready` is: the least moment at which something is due. This project's own rule.
use Rattle.std.specs.Prelude.{◌≡◌, ◌<◌, ◌≤◌, ◌⊎◌, ℕ, true, List, ◌∷◌, Contains, Option, Some, None}
use Rattle.tail_settings.specs.Section.{SectionData}
use Rattle.span_batcher.specs.Batches.{AreValidRules}
use Rattle.span_batcher.specs.State.{next_due}
use Rattle.tenant_rules.specs.Fate.{WaitingData}
use Rattle.tenant_rules.specs.Sender.{BatchData, ActiveData, has_tickets, has_consumer}
use Rattle.tenant_rules.specs.Own.{Own, Turn, clock}
use Rattle.tenant_rules.specs.Batching.{rules_of}
use Rattle.tenant_rules.specs.State.{State, state}
use Rattle.tenant_rules.specs.declared.reply.StepReply.TheVariants as replies
use Rattle.tenant_rules.specs.Answers.{answer}
use Rattle.tenant_rules.specs.Ready.{lesser, next_job, ready}
use Rattle.span_batcher.specs.Timers.{is_due}
use Rattle.tenant_rules.specs.Timers.{next_timer}

-- something is due at a moment
pub data IsDueAt (s : State) (moment : ℕ) : Type 0 where
  -- the decision of a row that waits
  decision : (row : WaitingData) → Contains s.waiting row → row.due ≡ moment → IsDueAt s moment
  -- the batch of what is pending
  timeout : next_due s.pending ≡ Some moment → IsDueAt s moment
  -- another attempt for an active batch, while tickets are left
  attempt : (a : ActiveData) → Contains s.sender.active a → a.due ≡ Some moment → has_tickets s.sender ≡ true
      → IsDueAt s moment
  -- the first attempt for the oldest batch of the queue, since it formed, while tickets are left and a consumer is free
  first_attempt : (b : BatchData) (rest : List BatchData) → s.sender.queue ≡ b ∷ rest → b.moment ≡ moment
      → has_consumer s.sender ≡ true → has_tickets s.sender ≡ true → IsDueAt s moment

-- the least moment of a kind; none where there is none of it
abbrev pub IsLeast : (ℕ → Type 0) → Option ℕ → Type 0
IsLeast Is None = (moment : ℕ) → Is moment → ⊥
IsLeast Is (Some least) = Is least × ((moment : ℕ) → Is moment → least ≤ moment)

-- `ready` is the least moment at which something is due
abbrev pub ReadyIsLeast : Type 0
ReadyIsLeast = (s : State) → IsLeast (λ moment. IsDueAt s moment) (ready s)

-- after every past it is the moment of the next timer or of the next job
abbrev pub ReadyIsNext : Type 0
ReadyIsNext = (section : SectionData) (past : List Own) → ready (state section past) ≡
    lesser (next_timer (state section past)) (next_job (state section past).sender)

-- a turn changes the clock alone, and hands out nothing
pub record IsIdle (section : SectionData) (past : List Own) (now : ℕ) : Type 0 where
  pub state_is : state section (Turn now ∷ past) ≡
      record (state section past) { clock = clock (Turn now ∷ past) }
  pub told_is : answer section past (Turn now) ≡ replies.Worked

-- by a turn's moment a timer runs, or it hands out a batch
abbrev pub IsBusy : SectionData → List Own → ℕ → Type 0
IsBusy section past now = (is_due (next_timer (state section past)) (clock (Turn now ∷ past)) ≡ true)
    ⊎ ((ticket : ℕ) × (payload : List ℕ) × (answer section past (Turn now) ≡ replies.Job ticket payload))

-- where the settings are in their ranges, a turn is idle before something is due, and busy from then on
pub record TurnsTell (section : SectionData) (past : List Own) (now : ℕ) : Type 0 where
  pub idle : ((due : ℕ) → IsDueAt (state section past) due → clock (Turn now ∷ past) < due) →
      IsIdle section past now
  pub busy : (due : ℕ) → IsDueAt (state section past) due → due ≤ clock (Turn now ∷ past) → IsBusy section past now

-- after every past
abbrev pub DueTurnsAct : Type 0
DueTurnsAct = (section : SectionData) → 0 < section.tail_sampling.num_traces →
    0 < section.tail_sampling.decision_wait → AreValidRules (rules_of section) → (past : List Own) (now : ℕ) →
    TurnsTell section past now
