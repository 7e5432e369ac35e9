-- Which spans of a tenant's posts are taken: a span that isn't valid is refused by itself (OTLP/HTTP, "Partial
-- Success"), and so is one for which there is no room. The budget of spans held at a time is our own.
use Rattle.std.specs.Prelude.{ℕ, ◌+◌, ◌-◌, Bool, List, [], ◌∷◌, length, None, is_some, if◌then◌else◌, ◌==◌, nat_lt}
use Rattle.tail_settings.specs.Section.{SectionData}
use Rattle.drop_ledger.specs.Ledger.{most_counted}
use Rattle.tenant_rules.specs.Arrivals.{Arrival, valid}
use Rattle.tenant_rules.specs.Own.{Own, Post, Turn, Answer, Report, Drain, Retire, clock, drained}
use Rattle.tenant_rules.specs.Rows.{Taken}
use Rattle.tenant_rules.specs.Batching.{held}

-- the spans of one post join those that were taken before, each where fewer are held just then than the budget allows
abbrev pub taken_after : SectionData → ℕ → List Arrival → List Taken → List Taken
taken_after section moment [] before = before
taken_after section moment (arrival ∷ arrivals) before =
    taken_after section moment arrivals
    (if nat_lt (held section moment None before) section.max_spans
    then record { moment = moment; arrival = arrival } ∷ before else before)

-- what came in so far: the spans that were taken, newest first, and how many were left out of posts that were taken
pub record IntakeData : Type 0 where
  pub spans : List Taken
  pub invalid : ℕ
  pub over_budget : ℕ

-- what becomes of a post
pub data Verdict : Type 0 where
  -- nothing is taken after a drain
  shutting_down : Verdict
  -- nothing is taken where the counters would pass what they can count
  counter_limit : Verdict
  -- there was no room for any of its valid spans
  exhausted : Verdict
  -- it is taken, but for so many invalid spans, and so many for which there was no room
  accepted : ℕ → ℕ → Verdict

-- all spans that were counted
abbrev pub counted : IntakeData → ℕ
counted i = length i.spans + i.invalid + i.over_budget

-- of so many spans so many are valid; so many spans had been taken before, and so many are with these
abbrev pub verdict_of : ℕ → ℕ → ℕ → ℕ → Verdict
verdict_of all valid before after =
    if nat_lt before after then accepted (all - valid) (before + valid - after)
    else if valid == 0 then accepted (all - valid) 0 else exhausted

-- of a post with these spans that takes effect at a moment, after a drain or not
abbrev pub verdict : SectionData → Bool → ℕ → List Arrival → IntakeData → Verdict
verdict section drained moment arrivals i =
    if drained then shutting_down
    else if nat_lt most_counted (counted i + length arrivals) then counter_limit
    else verdict_of (length arrivals) (length (valid arrivals)) (length i.spans)
    (length (taken_after section moment (valid arrivals) i.spans))

-- what came in with that post
abbrev pub intake_by : SectionData → ℕ → List Arrival → IntakeData → Verdict → IntakeData
intake_by section moment arrivals i shutting_down = i
intake_by section moment arrivals i counter_limit = i
intake_by section moment arrivals i exhausted = i
intake_by section moment arrivals i (accepted invalid over_budget) = record {
  spans = taken_after section moment (valid arrivals) i.spans;
  invalid = i.invalid + invalid;
  over_budget = i.over_budget + over_budget;
}

-- what came in with all posts
abbrev pub intake : SectionData → List Own → IntakeData
intake section [] = record { spans = []; invalid = 0; over_budget = 0 }
intake section (Post now arrivals ∷ past) =
    intake_by section (clock (Post now arrivals ∷ past)) arrivals (intake section past)
    (verdict section (is_some (drained past)) (clock (Post now arrivals ∷ past)) arrivals (intake section past))
intake section (Turn now ∷ past) = intake section past
intake section (Answer now ticket word answer ∷ past) = intake section past
intake section (Report now ∷ past) = intake section past
intake section (Drain now ∷ past) = intake section past
intake section (Retire now ∷ past) = intake section past
