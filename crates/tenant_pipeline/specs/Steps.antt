-- What a step tells and leaves. This project's own rule.
use Rattle.std.specs.Prelude.{◌≡◌, Bool, true, false, not, ◌&&◌, List, ◌∷◌}
use Rattle.span_batcher.specs.Timers.{is_due}
use Rattle.tail_settings.specs.Section.{SectionData}
use Rattle.tenant_rules.specs.declared.reply.StepReply.{StepReply}
use Rattle.tenant_rules.specs.Own.{Own, Post, Turn, Answer, Report, Drain, Retire}
use Rattle.tenant_rules.specs.Retiring.{holds_none}
use Rattle.tenant_rules.specs.State.{State, state}
use Rattle.tenant_rules.specs.Answers.{answer}
use Rattle.tenant_rules.specs.Machine.{effective, next, told}
use Rattle.tenant_rules.specs.Timers.{next_timer}

-- what is kept is what those own steps leave
abbrev pub StandsFor : SectionData → List Own → State → Type 0
StandsFor section past kept = kept ≡ state section past

-- the step's answer is the next one, and what is kept afterwards is what the steps with this one leave
abbrev pub Answers : Own → State → StepReply → State → Type 0
Answers step old told new =
    (section : SectionData) (past : List Own) → StandsFor section past old → (told ≡ answer section past step) ×
    StandsFor section (step ∷ past) new

-- what is told and kept follows from what was kept, whether or not own steps leave that: also after refused memory
pub record FollowsFromState (step : Own) (old : State) (said : StepReply) (new : State) : Type 0 where
  pub said_is : said ≡ told step old
  pub new_is : new ≡ next step old

-- whether what is asked for takes no memory: an answer, a drain after the first, or a retirement that has to wait
abbrev pub asks_none : Own → State → Bool
asks_none (Post now arrivals) s = false
asks_none (Turn now) s = false
asks_none (Answer now ticket word given) s = true
asks_none (Report now) s = false
asks_none (Drain now) s = s.drained
asks_none (Retire now) s = not (s.drained && holds_none s.ledger.places)

-- the step takes none, since no timer is due by then either
abbrev pub TakesNone : Own → State → Type 0
TakesNone step s = (is_due (next_timer s) (effective step s) ≡ false) × (asks_none step s ≡ true)
