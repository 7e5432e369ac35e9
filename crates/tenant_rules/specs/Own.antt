-- A tenant's own steps, and the moments they take effect. A list of own steps has the newest first: it is the past.
-- This project's own rule.
use Rattle.std.specs.Prelude.{ℕ, ◌^◌, min, max, List, [], ◌∷◌, Option, Some, None, unwrap_or}
use Rattle.send_retry.specs.Class.{AnswerData}
use Rattle.tenant_rules.specs.Arrivals.{Arrival}

-- at a moment in milliseconds: a body's spans come; a worker asks for a job; the back end's answer to the job of a
-- ticket comes, with a word of 32 bits that picks the delay before another attempt; the counters are asked for; the
-- tenant takes no more spans and sends all it holds; or it is to retire
pub data Own : Type 0 where
  Post : ℕ → List Arrival → Own
  Turn : ℕ → Own
  Answer : ℕ → ℕ → ℕ → AnswerData → Own
  Report : ℕ → Own
  Drain : ℕ → Own
  Retire : ℕ → Own

-- a later moment than this is taken as this
abbrev pub latest_moment : ℕ
latest_moment = 2 ^ 62

-- the moment that a step asks for
abbrev pub asked : Own → ℕ
asked (Post now arrivals) = now
asked (Turn now) = now
asked (Answer now ticket word answer) = now
asked (Report now) = now
asked (Drain now) = now
asked (Retire now) = now

-- as it is taken
abbrev pub moment_of : Own → ℕ
moment_of step = min (asked step) latest_moment

-- the greatest of the moments so far: a step takes effect at it, and moments never fall
abbrev pub clock : List Own → ℕ
clock [] = 0
clock (step ∷ past) = max (clock past) (moment_of step)

-- the moment at which the first drain took effect, where there was one
abbrev pub drained : List Own → Option ℕ
drained [] = None
drained (Post now arrivals ∷ past) = drained past
drained (Turn now ∷ past) = drained past
drained (Answer now ticket word answer ∷ past) = drained past
drained (Report now ∷ past) = drained past
drained (Drain now ∷ past) = Some (unwrap_or (drained past) (clock (Drain now ∷ past)))
drained (Retire now ∷ past) = drained past
