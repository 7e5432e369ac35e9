-- What is kept of a tenant's batches after its own steps, and where the spans of the others ended. At each step the
-- batches that form by then are offered first, in order; then a worker's turn or a back end's answer acts
-- (`sending_queue` of the Collector's exporterhelper; the order is this project's own rule).
use Rattle.std.specs.Prelude.{ℕ, Bool, true, false, List, [], ◌∷◌, ◌++◌, map, length, drop, Option, Some, None, if◌then◌else◌}
use Rattle.tail_settings.specs.Section.{SectionData}
use Rattle.drop_ledger.specs.declared.places.Place.{Place}
use Rattle.drop_ledger.specs.declared.places.Place.TheVariants.{Exported, QueueFull, RetryExhausted, BackEndRefused, BackEndRejected}
use Rattle.send_retry.specs.Class.{AnswerData}
use Rattle.send_queue.specs.declared.settled.Settled.{Settled}
use Rattle.send_queue.specs.declared.settled.Settled.TheVariants.{Taken, Waits, Refused, Exhausted}
use Rattle.tenant_rules.specs.Own.{Own, Post, Turn, Answer, Report, Drain, Retire, clock, drained}
use Rattle.tenant_rules.specs.Batching.{formed}
use Rattle.tenant_rules.specs.Intake.{intake}
use Rattle.tenant_rules.specs.Sender.{BatchData, ActiveData, SenderData, no_batches, unbounded, finds_no_room, admitted, asked, fate, settled_by, in_flight, answered}

-- all batches that formed in a past, oldest first
abbrev pub formed_by : SectionData → List Own → List BatchData
formed_by section past = formed section (clock past) (drained past) (intake section past).spans

-- those that form at a step, its due timers among what makes them
abbrev pub newly_formed : SectionData → Own → List Own → List BatchData
newly_formed section step past = drop (length (formed_by section past)) (formed_by section (step ∷ past))

-- the batches that have formed by a step's moment, before it acts
abbrev pub formed_until : SectionData → Own → List Own → List BatchData
formed_until section step past = formed section (clock (step ∷ past)) (drained past) (intake section past).spans

-- those of the newly formed that due timers make
abbrev pub formed_by_timers : SectionData → Own → List Own → List BatchData
formed_by_timers section step past = drop (length (formed_by section past)) (formed_until section step past)

-- and those that the step makes itself
abbrev pub formed_by_step : SectionData → Own → List Own → List BatchData
formed_by_step section step past = drop (length (formed_until section step past)) (formed_by section (step ∷ past))

-- batches are offered, one after the other
abbrev pub all_offered : List BatchData → SenderData → SenderData
all_offered [] s = s
all_offered (batch ∷ batches) s = all_offered batches (admitted batch s)

-- those that find no room
abbrev pub overflow : List BatchData → SenderData → List BatchData
overflow [] s = []
overflow (batch ∷ batches) s =
    if finds_no_room batch s then batch ∷ overflow batches s else overflow batches (admitted batch s)

-- what a step does to the sender at a moment
abbrev pub acted : ℕ → Own → SenderData → SenderData
acted moment (Post now arrivals) s = s
acted moment (Turn now) s = asked moment s
acted moment (Answer now ticket word answer) s = answered ticket moment word answer s
acted moment (Report now) s = s
acted moment (Drain now) s = s
acted moment (Retire now) s = s

-- whether a step drains a tenant that wasn't drained before
abbrev pub is_first_drain : Own → Option ℕ → Bool
is_first_drain (Post now arrivals) before = false
is_first_drain (Turn now) before = false
is_first_drain (Answer now ticket word answer) before = false
is_first_drain (Report now) before = false
is_first_drain (Drain now) None = true
is_first_drain (Drain now) (Some moment) = false
is_first_drain (Retire now) before = false

-- the sender that those batches find which a first drain makes: bytes don't bound its queue, since what a tenant holds
-- would be lost else, however well its back end is
abbrev pub found_by_drain : SectionData → Own → List Own → SenderData → SenderData
found_by_drain section step past s = unbounded (all_offered (formed_by_timers section step past) s)

-- the sender just before a step acts
abbrev pub before_acting : SectionData → Own → List Own → SenderData → SenderData
before_acting section step past s =
    if is_first_drain step (drained past) then
    all_offered (formed_by_step section step past) (found_by_drain section step past s)
    else all_offered (newly_formed section step past) s

-- those that find no room at a step
abbrev pub overflow_at : SectionData → Own → List Own → SenderData → List BatchData
overflow_at section step past s =
    if is_first_drain step (drained past) then
    overflow (formed_by_timers section step past) s
    ++ overflow (formed_by_step section step past) (found_by_drain section step past s)
    else overflow (newly_formed section step past) s

-- the sender after own steps
unfoldable pub sender : SectionData → List Own → SenderData
sender section [] = no_batches section.sending_queue section.retry_on_failure
sender section (step ∷ past) =
    acted (clock (step ∷ past)) step (before_acting section step past (sender section past))

-- ---- batches that are settled

-- so many spans ended in a place
pub record EndedData : Type 0 where
  pub place : Place
  pub spans : ℕ

-- a batch that found no room
abbrev pub met_no_room : BatchData → EndedData
met_no_room batch = record { place = QueueFull; spans = batch.spans }

-- where the spans of a batch ended by what became of it
abbrev pub ended_by : Settled → List EndedData
ended_by (Taken exported rejected) =
    record { place = BackEndRejected; spans = rejected } ∷ record { place = Exported; spans = exported } ∷ []
ended_by (Refused spans) = record { place = BackEndRefused; spans = spans } ∷ []
ended_by (Exhausted spans) = record { place = RetryExhausted; spans = spans } ∷ []
ended_by (Waits spans due) = []

-- those of the batch in flight, if there is one
abbrev pub ended_in_flight : ℕ → ℕ → AnswerData → Option ActiveData → List EndedData
ended_in_flight moment word answer None = []
ended_in_flight moment word answer (Some a) = ended_by (settled_by a.batch.spans (fate moment word answer a))

-- by a step at a moment
abbrev pub ended_at : ℕ → Own → SenderData → List EndedData
ended_at moment (Post now arrivals) s = []
ended_at moment (Turn now) s = []
ended_at moment (Answer now ticket word answer) s = ended_in_flight moment word answer (in_flight ticket s)
ended_at moment (Report now) s = []
ended_at moment (Drain now) s = []
ended_at moment (Retire now) s = []

-- where the spans of all batches ended that are neither in the queue nor active, the last one first
unfoldable pub ended : SectionData → List Own → List EndedData
ended section [] = []
ended section (step ∷ past) =
    ended_at (clock (step ∷ past)) step (before_acting section step past (sender section past))
    ++ (map met_no_room (overflow_at section step past (sender section past)) ++ ended section past)
