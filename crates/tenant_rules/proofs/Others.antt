-- What posts do doesn't depend on turns, answers and reports but for their moments.
use Rattle.std.proofs.Common.{◌≡◌, ℕ, ◌≤◌, List, [], ◌∷◌, length, map, refl, sym, ap, ◌∙◌, arith, Option, Some}
use Rattle.std.specs.Prelude.{is_some, unwrap_or}
use Rattle.tail_settings.specs.Section.{SectionData}
use Rattle.tenant_rules.specs.Arrivals.{Arrival}
use Rattle.tenant_rules.specs.Own.{Own, Post, Turn, Answer, Report, Drain, Retire, moment_of, clock, drained}
use Rattle.tenant_rules.specs.Fate.{settled}
use Rattle.tenant_rules.specs.Events.{caches_of}
use Rattle.tenant_rules.specs.Placement.{opened, placements, spans_in_rows}
use Rattle.tenant_rules.specs.Groups.{groups}
use Rattle.tenant_rules.specs.Batching.{formed, pending, waiting_rows}
use Rattle.tenant_rules.specs.Intake.{IntakeData, verdict, intake_by, intake}
use Rattle.tenant_rules.specs.State.{ledger_at, state}
use Rattle.tenant_rules.specs.declared.reply.StepReply.{StepReply}
use Rattle.tenant_rules.specs.declared.reply.StepReply.TheVariants as replies
use Rattle.tenant_rules.specs.Answers.{reply_of, answer}
use Rattle.tenant_rules.specs.Others.{as_report, without_others, NeverFall, AreAlike, MomentsCount, OthersDontCount, RepliesDontChange}

-- ---- what a post makes of what came in

abbrev intake_with : SectionData → List Arrival → Option ℕ → ℕ → IntakeData → IntakeData
intake_with w arrivals drain e i = intake_by w e arrivals i (verdict w (is_some drain) e arrivals i)

abbrev told_with : SectionData → List Arrival → Option ℕ → ℕ → IntakeData → StepReply
told_with w arrivals drain e i = replies.Reply (reply_of (verdict w (is_some drain) e arrivals i))

-- a function of drain, moment and intake
alike : {A : Type 0} (f : Option ℕ → ℕ → IntakeData → A) (o o' : Option ℕ) (e e' : ℕ) (i i' : IntakeData) → o ≡ o' → e ≡ e' → i ≡ i' → f o e i ≡ f o' e' i'
alike f o o' e e' i i' p q r = ap (λ (z : Option ℕ). f z e i) p ∙ (ap (λ (z : ℕ). f o' z i) q ∙ ap (λ (z : IntakeData). f o' e' z) r)

first_drain : (o o' : Option ℕ) (e e' : ℕ) → o ≡ o' → e ≡ e' → Path (Option ℕ) (Some (unwrap_or o e)) (Some (unwrap_or o' e'))
first_drain o o' e e' p q = ap (λ (z : Option ℕ). Some (unwrap_or z e)) p ∙ ap (λ (z : ℕ). Some (unwrap_or o' z)) q

-- ---- two pasts of one intake, drain and clock

all_alike : (w : SectionData) (one other : List Own) → drained one ≡ drained other → clock one ≡ clock other → intake w one ≡ intake w other → AreAlike w one other
unfolding state
all_alike w one other drain_is clock_is intake_is =
    let o = drained one in
    let o' = drained other in
    let e = clock one in
    let e' = clock other in
    let i = intake w one in
    let i' = intake w other in
    record {
      intake_is = intake_is;
      drained_is = drain_is;
      groups_is = alike (λ (z : Option ℕ) (m : ℕ) (j : IntakeData). groups w m z j.spans) o o' e e' i i' drain_is clock_is intake_is;
      formed_is = alike (λ (z : Option ℕ) (m : ℕ) (j : IntakeData). formed w m z j.spans) o o' e e' i i' drain_is clock_is intake_is;
      opened_is = ap (λ (j : IntakeData). length (opened w j.spans)) intake_is;
      settled_is = alike (λ (z : Option ℕ) (m : ℕ) (j : IntakeData). settled w m z (spans_in_rows w j.spans) (length (opened w j.spans)) (opened w j.spans)) o o' e e' i i' drain_is clock_is intake_is;
      waiting_is = alike (λ (z : Option ℕ) (m : ℕ) (j : IntakeData). waiting_rows w m z j.spans) o o' e e' i i' drain_is clock_is intake_is;
      caches_is = alike (λ (z : Option ℕ) (m : ℕ) (j : IntakeData). caches_of w m z (placements w j.spans) (opened w j.spans)) o o' e e' i i' drain_is clock_is intake_is;
      pending_is = alike (λ (z : Option ℕ) (m : ℕ) (j : IntakeData). pending w m z j.spans) o o' e e' i i' drain_is clock_is intake_is;
      counters_are = λ sender ended. alike (λ (z : Option ℕ) (m : ℕ) (j : IntakeData). ledger_at w j m z sender ended) o o' e e' i i' drain_is clock_is intake_is;
    }

told_alike : (w : SectionData) (one other : List Own) (now : ℕ) (arrivals : List Arrival) → drained one ≡ drained other → clock (Post now arrivals ∷ one) ≡ clock (Post now arrivals ∷ other) → intake w one ≡ intake w other →
    answer w one (Post now arrivals) ≡ answer w other (Post now arrivals)
unfolding answer
told_alike w one other now arrivals drain_is clock_is intake_is =
    alike (told_with w arrivals) (drained one) (drained other) (clock (Post now arrivals ∷ one)) (clock (Post now arrivals ∷ other)) (intake w one) (intake w other) drain_is clock_is intake_is

-- ---- turns and answers as reports

moment_as : (step : Own) → moment_of (as_report step) ≡ moment_of step
moment_as (Post now arrivals) = refl
moment_as (Turn now) = refl
moment_as (Answer now ticket word given) = refl
moment_as (Report now) = refl
moment_as (Drain now) = refl
moment_as (Retire now) = refl

clock_as : (past : List Own) → clock past ≡ clock (map as_report past)
clock_as [] = refl
clock_as (step ∷ past) = let rest = clock_as past in omega (arith, rest, moment_as step)

-- with a step more
clock_with : (step : Own) (past : List Own) → clock (step ∷ past) ≡ clock (step ∷ map as_report past)
clock_with step past = omega (arith, clock_as past)

drained_as : (past : List Own) → drained past ≡ drained (map as_report past)
drained_as [] = refl
drained_as (Post now arrivals ∷ past) = drained_as past
drained_as (Turn now ∷ past) = drained_as past
drained_as (Answer now ticket word given ∷ past) = drained_as past
drained_as (Report now ∷ past) = drained_as past
drained_as (Drain now ∷ past) = first_drain (drained past) (drained (map as_report past)) (clock (Drain now ∷ past)) (clock (Drain now ∷ map as_report past)) (drained_as past) (clock_with (Drain now) past)
drained_as (Retire now ∷ past) = drained_as past

intake_as : (w : SectionData) (past : List Own) → intake w past ≡ intake w (map as_report past)
intake_as w [] = refl
intake_as w (Post now arrivals ∷ past) =
    alike (intake_with w arrivals) (drained past) (drained (map as_report past)) (clock (Post now arrivals ∷ past)) (clock (Post now arrivals ∷ map as_report past)) (intake w past) (intake w (map as_report past)) (drained_as past) (clock_with (Post now arrivals) past) (intake_as w past)
intake_as w (Turn now ∷ past) = intake_as w past
intake_as w (Answer now ticket word given ∷ past) = intake_as w past
intake_as w (Report now ∷ past) = intake_as w past
intake_as w (Drain now ∷ past) = intake_as w past
intake_as w (Retire now ∷ past) = intake_as w past

pub moments_count : MomentsCount
moments_count w past = (
  all_alike w past (map as_report past) (drained_as past) (clock_as past) (intake_as w past),
  λ now arrivals. told_alike w past (map as_report past) now arrivals (drained_as past) (clock_with (Post now arrivals) past) (intake_as w past),
)

-- ---- posts and drains alone

clock_without : (past : List Own) → clock (without_others past) ≤ clock past
clock_without [] = omega arith
clock_without (Post now arrivals ∷ past) = omega (arith, clock_without past)
clock_without (Turn now ∷ past) = omega (arith, clock_without past)
clock_without (Answer now ticket word given ∷ past) = omega (arith, clock_without past)
clock_without (Report now ∷ past) = omega (arith, clock_without past)
clock_without (Drain now ∷ past) = omega (arith, clock_without past)
clock_without (Retire now ∷ past) = omega (arith, clock_without past)

-- at a step whose moment doesn't fall the clock is the same
clock_same : (step : Own) (past : List Own) → clock past ≤ moment_of step → clock (step ∷ past) ≡ clock (step ∷ without_others past)
clock_same step past rises = omega (arith, rises, clock_without past)

drained_without : (past : List Own) → NeverFall past → drained past ≡ drained (without_others past)
drained_without [] rise = refl
drained_without (Post now arrivals ∷ past) rise = drained_without past rise.1
drained_without (Turn now ∷ past) rise = drained_without past rise.1
drained_without (Answer now ticket word given ∷ past) rise = drained_without past rise.1
drained_without (Report now ∷ past) rise = drained_without past rise.1
drained_without (Drain now ∷ past) rise = first_drain (drained past) (drained (without_others past)) (clock (Drain now ∷ past)) (clock (Drain now ∷ without_others past)) (drained_without past rise.1) (clock_same (Drain now) past rise.0)
drained_without (Retire now ∷ past) rise = drained_without past rise.1

intake_without : (w : SectionData) (past : List Own) → NeverFall past → intake w past ≡ intake w (without_others past)
intake_without w [] rise = refl
intake_without w (Post now arrivals ∷ past) rise =
    alike (intake_with w arrivals) (drained past) (drained (without_others past)) (clock (Post now arrivals ∷ past)) (clock (Post now arrivals ∷ without_others past)) (intake w past) (intake w (without_others past)) (drained_without past rise.1) (clock_same (Post now arrivals) past rise.0) (intake_without w past rise.1)
intake_without w (Turn now ∷ past) rise = intake_without w past rise.1
intake_without w (Answer now ticket word given ∷ past) rise = intake_without w past rise.1
intake_without w (Report now ∷ past) rise = intake_without w past rise.1
intake_without w (Drain now ∷ past) rise = intake_without w past rise.1
intake_without w (Retire now ∷ past) rise = intake_without w past rise.1

-- two such pasts
drained_same : (one other : List Own) → NeverFall one → NeverFall other → without_others one ≡ without_others other → drained one ≡ drained other
drained_same one other rise rise' same = drained_without one rise ∙ (ap drained same ∙ sym (drained_without other rise'))

intake_same : (w : SectionData) (one other : List Own) → NeverFall one → NeverFall other → without_others one ≡ without_others other → intake w one ≡ intake w other
intake_same w one other rise rise' same = intake_without w one rise ∙ (ap (intake w) same ∙ sym (intake_without w other rise'))

pub others_dont_count : OthersDontCount
others_dont_count w one other rise rise' same clock_is = all_alike w one other (drained_same one other rise rise' same) clock_is (intake_same w one other rise rise' same)

pub replies_dont_change : RepliesDontChange
replies_dont_change w one other rise rise' same now arrivals le le' =
    let step = Post now arrivals in
    let clock_is : clock (step ∷ one) ≡ clock (step ∷ other) = omega (arith, le, le') in
    told_alike w one other now arrivals (drained_same one other rise rise' same) clock_is (intake_same w one other rise rise' same)
