-- What the definitions give on small shards whose own steps are known, worked out by hand. This project's own rules.
use Rattle.std.specs.Prelude.{◌≡◌, ℕ, zero, suc, List, [], ◌∷◌, map, Option, Some, None}
use Rattle.tail_settings.specs.Policy.{PolicyData, latency, leaf}
use Rattle.tail_settings.specs.Section.{SectionData}
use Rattle.tenant_rules.specs.declared.reply.StepReply.TheVariants as replies
use Rattle.tenant_rules.specs.Own as own
use Rattle.collector_tests.specs.Parts.{keep_all, plain as one_second, two_seconds, span, body}
use Rattle.prepared_body.specs.Prepared.{PreparedData}
use Rattle.tenant_shard.specs.declared.step.Step.{Step}
use Rattle.tenant_shard.specs.declared.step.Step.TheVariants.{Post, Turn}
use Rattle.tenant_shard.specs.declared.step.Outcome.{Outcome}
use Rattle.tenant_shard.specs.declared.step.Outcome.TheVariants as outcome
use Rattle.tenant_shard.specs.Lives.{Lives, new_life}
use Rattle.tenant_shard.specs.Outcomes.{plain, Piped, asked_in, Answer, Answered, named}
use Rattle.tenant_shard.specs.Run.{after, IsNext, Run}
use Rattle.tenant_shard.specs.Alone.{alone, own_steps, told_to}

-- ---- steps

-- a body of one span, prepared with those policies
abbrev pub prepared_for : List PolicyData → ℕ → ℕ → ℕ → PreparedData
prepared_for policies tenant trace id =
    record { tenant = tenant; policies = policies; arrivals = span trace id ∷ []; invalid = 0 }

abbrev pub prepared : ℕ → ℕ → ℕ → PreparedData
prepared = prepared_for keep_all

abbrev pub others : List PolicyData
others = leaf (latency 0) ∷ []

-- what a tenant is told of a body that was taken whole
abbrev pub accepted : Answer
accepted = Answered (replies.Reply (record { status = 200; body = [] }))

abbrev pub taken : ℕ → Outcome
taken tenant = outcome.Reply tenant (record { status = 200; body = [] })

-- ---- a run of two tenants

abbrev pub sections_of_two : ℕ → Option SectionData
sections_of_two zero = Some two_seconds
sections_of_two (suc zero) = Some one_second
sections_of_two (suc (suc tenant)) = None

-- tenant 0 waits two seconds, tenant 1 one, and neither has had a step
abbrev pub two : Lives
two tenant = new_life (sections_of_two tenant)

-- a span of each: 0 is ready at 2000, 1 at 1500
abbrev pub posted : Lives
posted = after (Post 500 (prepared 1 18 34)) (taken 1) (after (Post 0 (prepared 0 17 33)) (taken 0) two)

-- a post for the tenant's policies isn't refused, and a turn isn't idle when a tenant is ready
pub record Nexts : Type 0 where
  pub own_refused : IsNext posted (Post 0 (prepared 0 19 35)) (outcome.Refused 0 23) → ⊥
  pub idle_though_ready : IsNext posted (Turn 1500) outcome.Idle → ⊥

abbrev pub four_steps : List Step
four_steps = Post 0 (prepared 0 17 33) ∷ Post 500 (prepared 1 18 34) ∷ Turn 2000 ∷ Turn 2000 ∷ []

abbrev pub four_outcomes : List Outcome
four_outcomes = taken 0 ∷ taken 1 ∷ outcome.Job 1 1 (body 18 34) ∷ outcome.Job 0 1 (body 17 33) ∷ []

-- those outcomes are a run, and with the jobs the other way round they aren't
pub record FourSteps : Type 0 where
  pub run : Run two four_steps four_outcomes
  pub other_order : Run two four_steps
      (taken 0 ∷ taken 1 ∷ outcome.Job 0 1 (body 17 33) ∷ outcome.Job 1 1 (body 18 34) ∷ []) → ⊥
  pub one_less : Run two four_steps (taken 0 ∷ taken 1 ∷ outcome.Job 1 1 (body 18 34) ∷ []) → ⊥

-- the promise: what the first is told in the run is what its pipeline alone answers to its own steps
pub record EachIsTold : Type 0 where
  pub steps_of_0 : own_steps 0 four_steps four_outcomes
      ≡ asked_in (Post 0 (prepared 0 17 33)) ∷ Piped (plain (own.Turn 2000)) ∷ []
  pub alone_0 : alone (new_life (Some two_seconds))
      (asked_in (Post 0 (prepared 0 17 33)) ∷ Piped (plain (own.Turn 2000)) ∷ [])
      ≡ accepted ∷ Answered (replies.Job 1 (body 17 33)) ∷ []
  pub told_to_0 : told_to 0 four_outcomes ≡ taken 0 ∷ outcome.Job 0 1 (body 17 33) ∷ []
  pub named_0 : map (named 0) (accepted ∷ Answered (replies.Job 1 (body 17 33)) ∷ [])
      ≡ taken 0 ∷ outcome.Job 0 1 (body 17 33) ∷ []
  pub steps_of_1 : own_steps 1 four_steps four_outcomes
      ≡ asked_in (Post 500 (prepared 1 18 34)) ∷ Piped (plain (own.Turn 2000)) ∷ []
  pub told_to_1 : told_to 1 four_outcomes ≡ taken 1 ∷ outcome.Job 1 1 (body 18 34) ∷ []
