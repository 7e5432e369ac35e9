-- What posts are told, and what becomes of their spans up to their batches, doesn't depend on turns, answers, reports
-- and retirements but for their moments; and where moments never fall, not on these either: a law of this project's.
use Rattle.std.specs.Prelude.{◌≡◌, ◌≤◌, ℕ, List, [], ◌∷◌, map}
use Rattle.tail_settings.specs.Section.{SectionData}
use Rattle.drop_ledger.specs.declared.places.Places.{Places}
use Rattle.tenant_rules.specs.Arrivals.{Arrival}
use Rattle.tenant_rules.specs.Own.{Own, Post, Turn, Answer, Report, Drain, Retire, moment_of, clock, drained}
use Rattle.tenant_rules.specs.Groups.{groups}
use Rattle.tenant_rules.specs.Intake.{intake}
use Rattle.tenant_rules.specs.Sender.{SenderData}
use Rattle.tenant_rules.specs.Sending.{formed_by}
use Rattle.tenant_rules.specs.State.{ledger_at, state}
use Rattle.tenant_rules.specs.Answers.{answer}

-- turns, answers and retirements as reports: what is left of them is their moment
abbrev pub as_report : Own → Own
as_report (Post now arrivals) = Post now arrivals
as_report (Turn now) = Report now
as_report (Answer now ticket word given) = Report now
as_report (Report now) = Report now
as_report (Drain now) = Drain now
as_report (Retire now) = Report now

-- posts and drains alone
abbrev pub without_others : List Own → List Own
without_others [] = []
without_others (Post now arrivals ∷ past) = Post now arrivals ∷ without_others past
without_others (Turn now ∷ past) = without_others past
without_others (Answer now ticket word given ∷ past) = without_others past
without_others (Report now ∷ past) = without_others past
without_others (Drain now ∷ past) = Drain now ∷ without_others past
without_others (Retire now ∷ past) = without_others past

-- moments never fall: each step asks for the greatest moment so far or a later one
abbrev pub NeverFall : List Own → Type 0
NeverFall [] = Unit
NeverFall (step ∷ past) = (clock past ≤ moment_of step) × NeverFall past

-- two pasts are alike but for their jobs: what came in, groups, batches, rows, what is pending; and the counters, once
-- those of the sender are the same
pub record AreAlike (section : SectionData) (one other : List Own) : Type 0 where
  pub intake_is : intake section one ≡ intake section other
  pub drained_is : drained one ≡ drained other
  pub groups_is : groups section (clock one) (drained one) (intake section one).spans ≡
      groups section (clock other) (drained other) (intake section other).spans
  pub formed_is : formed_by section one ≡ formed_by section other
  pub opened_is : (state section one).opened ≡ (state section other).opened
  pub settled_is : (state section one).settled ≡ (state section other).settled
  pub waiting_is : (state section one).waiting ≡ (state section other).waiting
  pub caches_is : (state section one).caches ≡ (state section other).caches
  pub pending_is : (state section one).pending ≡ (state section other).pending
  pub counters_are : (sender : SenderData) (ended : Places) →
      ledger_at section (intake section one) (clock one) (drained one) sender ended ≡
      ledger_at section (intake section other) (clock other) (drained other) sender ended

-- and a post is told the same after both
abbrev pub AreToldAlike : SectionData → List Own → List Own → Type 0
AreToldAlike section one other = (now : ℕ) (arrivals : List Arrival) →
    answer section one (Post now arrivals) ≡ answer section other (Post now arrivals)

-- turns, answers and retirements count as reports
abbrev pub MomentsCount : Type 0
MomentsCount = (section : SectionData) (past : List Own) →
    AreAlike section past (map as_report past) × AreToldAlike section past (map as_report past)

-- where moments never fall, pasts with the same posts and drains are alike at a moment
abbrev pub OthersDontCount : Type 0
OthersDontCount = (section : SectionData) (one other : List Own) → NeverFall one → NeverFall other →
    without_others one ≡ without_others other → clock one ≡ clock other → AreAlike section one other

-- and so are the replies to a post whose moment doesn't fall either
abbrev pub RepliesDontChange : Type 0
RepliesDontChange = (section : SectionData) (one other : List Own) → NeverFall one → NeverFall other →
    without_others one ≡ without_others other → (now : ℕ) (arrivals : List Arrival) →
    clock one ≤ moment_of (Post now arrivals) → clock other ≤ moment_of (Post now arrivals) →
    answer section one (Post now arrivals) ≡ answer section other (Post now arrivals)
