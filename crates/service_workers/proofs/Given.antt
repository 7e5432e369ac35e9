-- Jobs that turns gave, from the calls of a caller to the lane.
use Rattle.std.proofs.Common.{◌≡◌, ℕ, zero, suc, List, [], ◌∷◌, flat_map, Bool, true, false, Some, Contains, ◌⊎◌, inl, inr, refl, sym, ap, subst, ◌∙◌, option_to_list, arith}
use Rattle.std.specs.Prelude.{slice_get, slice_set}
use Rattle.std.specs.List.{AllZip}
use Rattle.std.proofs.lemmas.List.Elements.{All-weaker, Contains-append_left, Contains-append_right, Contains-append_cases, Contains-push}
use Rattle.export_edge.specs.Work.{Through, Turn, jobs_in, job_of}
use Rattle.job_lane.specs.declared.job.Job.{Job}
use Rattle.job_lane.specs.Lane.{NumberedJob, SeatLists}
use Rattle.job_lane.specs.Law.{all_pushes, all_pops, PopsWerePushed}
use Rattle.log_positions.specs.Numbered.{items_of}
use Rattle.machine_hub.specs.Runs.{entry}
use Rattle.machine_hub.specs.Seats.{seat_after, seat_refused, IsNoted}
use Rattle.shard_machine.specs.declared.step.Call.{Call}
use Rattle.shard_machine.specs.Run.{Logged}
use Rattle.shared_hub.specs.Logs.{CallerState, Seat, LoggedShard}
use Rattle.tail_settings.specs.Settings.{SettingsData}
use Rattle.tenant_shard.specs.declared.step.Outcome.{Outcome}
use Rattle.tenant_shard.specs.declared.step.Outcome.TheVariants as outcomes
use Rattle.service_workers.specs.Jobs.{IsThread, turner, sender, idle, receiver, admin, HasGiven, WasGiven, PoppedWereGiven}
use Rattle.service_context.specs.Work.{MakesTurn, made, refused, turned_of}

-- a seat has a call that gave this job
record SeatGave (seat : Seat) (job : Job) : Type 0 where
  pub noted : ℕ × Logged
  pub among : Contains seat.calls noted ⊎ Contains seat.late noted
  pub outcome : noted.1.outcome ≡ outcomes.Job job.tenant job.ticket job.payload

either : {A B C : Type 0} → A ⊎ B → (A → C) → (B → C) → C
either (inl a) f g = f a
either (inr b) f g = g b

none_in : {X : Type 0} {P : Type 0} (x : X) → Contains [] x → P
none_in x has = absurd (omega (arith, has.1))

-- what stands in a list of one
only_one : {X : Type 0} (x y : X) → Contains (x ∷ []) y → x ≡ y
only_one x y (zero, _, is) = is
only_one x y (suc k, below, _) = absurd (omega (arith, below))

here : {X : Type 0} (xs : List X) (k : ℕ) (x w : X) → slice_get xs k ≡ Some x → slice_get (slice_set xs k w) k ≡ Some w
here [] k x w at = absurd (cc)
here (y ∷ xs) zero x w at = refl
here (y ∷ xs) (suc k) x w at = here xs k x w at

-- where one seat becomes another that has what it had, no job of the caller goes
still : (old : CallerState) (k shard : ℕ) (s seat next : Seat) (job : Job) → slice_get old shard ≡ Some seat → slice_get old k ≡ Some s
    → (SeatGave seat job → SeatGave next job) → SeatGave s job
    → (t : Seat) × (slice_get (slice_set old shard next) k ≡ Some t) × SeatGave t job
still [] k shard s seat next job at got more has = absurd (cc)
still (x ∷ xs) zero zero s seat next job at got more has =
    let same : s ≡ seat = cc in
    (next, refl, more (subst (λ (y : Seat). SeatGave y job) same has))
still (x ∷ xs) zero (suc n) s seat next job at got more has = (s, got, has)
still (x ∷ xs) (suc k) zero s seat next job at got more has = (s, got, has)
still (x ∷ xs) (suc k) (suc n) s seat next job at got more has = still xs k n s seat next job at got more has

after_more : (seat : Seat) (late : Bool) (noted : ℕ × Logged) (job : Job) → SeatGave seat job → SeatGave (seat_after seat late noted) job
after_more seat true noted job gave = record {
  noted = gave.noted;
  among = either gave.among (λ has. inl has) (λ has. inr (Contains-append_left seat.late (noted ∷ []) gave.noted has));
  outcome = gave.outcome;
}
after_more seat false noted job gave = record {
  noted = gave.noted;
  among = either gave.among (λ has. inl (Contains-append_left seat.calls (noted ∷ []) gave.noted has)) (λ has. inr has);
  outcome = gave.outcome;
}

after_refused : (seat : Seat) (noted : ℕ × Call) (job : Job) → SeatGave seat job → SeatGave (seat_refused seat noted) job
after_refused seat noted job gave = record { noted = gave.noted; among = gave.among; outcome = gave.outcome }

newest : (seat : Seat) (late : Bool) (noted : ℕ × Logged) (job : Job) → noted.1.outcome ≡ outcomes.Job job.tenant job.ticket job.payload
    → SeatGave (seat_after seat late noted) job
newest seat true noted job is = record { noted = noted; among = inr (Contains-push seat.late noted); outcome = is }
newest seat false noted job is = record { noted = noted; among = inl (Contains-push seat.calls noted); outcome = is }

noted_is : (old new : LoggedShard) (e : Logged) (late : Bool) (noted : ℕ × Logged) → IsNoted old new e late noted → noted.1 ≡ e
noted_is old new e true noted adds = ap (λ (n : ℕ × Logged). n.1) adds.0
noted_is old new e false noted adds = ap (λ (n : ℕ × Logged). n.1) adds.0

-- what a turn comes to has the job of its outcome alone
outcome_is : (outcome : Outcome) (job : Job) → Contains (job_of (turned_of outcome)) job → outcome ≡ outcomes.Job job.tenant job.ticket job.payload
outcome_is (outcomes.Job tenant ticket payload) job has =
    ap (λ (j : Job). outcomes.Job j.tenant j.ticket j.payload) (only_one (record { tenant = tenant; ticket = ticket; payload = payload }) job has)
outcome_is (outcomes.Worked tenant) job has = none_in job has
outcome_is _ job has = none_in job has

at_seat : (caller : CallerState) (k : ℕ) (job : Job) (seat : Seat) → slice_get caller k ≡ Some seat → SeatGave seat job → HasGiven caller job
at_seat caller k job seat at gave =
    record { shard = k; seat = seat; at = at; noted = gave.noted; among = gave.among; outcome = gave.outcome }

kept_in : (old : CallerState) (shard : ℕ) (seat next : Seat) (job : Job) → slice_get old shard ≡ Some seat → (SeatGave seat job → SeatGave next job)
    → HasGiven old job → HasGiven (slice_set old shard next) job
kept_in old shard seat next job at more has =
    let there = still old has.shard shard has.seat seat next job at has.at more (record { noted = has.noted; among = has.among; outcome = has.outcome }) in
    at_seat (slice_set old shard next) has.shard job there.0 there.1 there.2

turn_keeps : (old new : CallerState) (shard : ℕ) (t : Turn) (job : Job) → MakesTurn old new shard t → HasGiven old job → HasGiven new job
turn_keeps old new shard t job (made outcome receipt call came) has =
    subst (λ (c : CallerState). HasGiven c job) (sym call.after)
    (kept_in old shard call.seat (seat_after call.seat call.late call.noted) job call.at (after_more call.seat call.late call.noted job) has)
turn_keeps old new shard t job (refused none came) has =
    subst (λ (c : CallerState). HasGiven c job) (sym none.3) (kept_in old shard none.0 (seat_refused none.0 none.1) job none.2 (after_refused none.0 none.1 job) has)

turn_gives : (old new : CallerState) (shard : ℕ) (t : Turn) (job : Job) → MakesTurn old new shard t → Contains (jobs_in t) job → HasGiven new job
turn_gives old new shard t job (made outcome receipt call came) has =
    let is = outcome_is outcome job (subst (λ c. Contains (job_of c) job) came has) in
    let one = call.made in
    let noted = noted_is one.old one.new (entry one.step outcome) call.late call.noted one.adds in
    let next = seat_after call.seat call.late call.noted in
    subst (λ (c : CallerState). HasGiven c job) (sym call.after)
    (at_seat (slice_set old shard next) shard job next (here old shard call.seat next call.at)
    (newest call.seat call.late call.noted job (ap (λ (e : Logged). e.outcome) noted ∙ is)))
turn_gives old new shard t job (refused none came) has = none_in job (subst (λ c. Contains (job_of c) job) came has)

turns_keep : (shard : ℕ) (made : List Turn) (old new : CallerState) (job : Job) → Through (λ a t b. MakesTurn a b shard t) old made new
    → HasGiven old job → HasGiven new job
turns_keep shard [] old new job is has = subst (λ (c : CallerState). HasGiven c job) (sym is) has
turns_keep shard (t ∷ ts) old new job runs has = turns_keep shard ts runs.0 new job runs.2 (turn_keeps old runs.0 shard t job runs.1 has)

turns_give : (shard : ℕ) (made : List Turn) (old new : CallerState) (job : Job) → Through (λ a t b. MakesTurn a b shard t) old made new
    → Contains (flat_map jobs_in made) job → HasGiven new job
turns_give shard [] old new job is has = none_in job has
turns_give shard (t ∷ ts) old new job runs has =
    either (Contains-append_cases (jobs_in t) (flat_map jobs_in ts) job has)
    (λ first. turns_keep shard ts runs.0 new job runs.2 (turn_gives old runs.0 shard t job runs.1 first))
    (λ later. turns_give shard ts runs.0 new job runs.2 later)

-- what is in a list of numbered jobs is among the jobs
item_in : (es : List NumberedJob) (e : NumberedJob) → Contains es e → Contains (items_of es) e.1
item_in [] e has = none_in e has
item_in (x ∷ es) e (zero, below, is) = (zero, omega arith, ap (λ (y : NumberedJob). y.1) is)
item_in (x ∷ es) e (suc k, below, is) =
    let rest = item_in es e (k, omega (arith, below), is) in
    (suc rest.0, omega (arith, rest.1), rest.2)

thread_gave : (first : SettingsData) (shards : ℕ) (fresh caller : CallerState) (seat : SeatLists) (p : NumberedJob) → IsThread first shards fresh caller seat
    → Contains seat.pushes p → HasGiven caller p.1
thread_gave first shards fresh caller seat p (turner did) has =
    turns_give did.shard did.made fresh caller p.1 did.runs
    (subst (λ js. Contains js p.1) (sym did.jobs) (Contains-append_left (items_of seat.pushes) (option_to_list did.held) p.1 (item_in seat.pushes p has)))
thread_gave first shards fresh caller seat p (sender did) has = none_in p (subst (λ ps. Contains ps p) did.no_pushes has)
thread_gave first shards fresh caller seat p (idle apart none) has = none_in p (subst (λ ps. Contains ps p) apart.no_pushes has)
thread_gave first shards fresh caller seat p (receiver apart did) has = none_in p (subst (λ ps. Contains ps p) apart.no_pushes has)
thread_gave first shards fresh caller seat p (admin apart looks) has = none_in p (subst (λ ps. Contains ps p) apart.no_pushes has)

one_more : (callers : List CallerState) (c : CallerState) (job : Job) → WasGiven callers job → WasGiven (c ∷ callers) job
one_more callers c job (caller, has, gave) = (caller, Contains-append_right (c ∷ []) callers caller has, gave)

all_gave : (first : SettingsData) (shards : ℕ) (fresh : CallerState) (callers : List CallerState) (seats : List SeatLists) (p : NumberedJob) → AllZip (IsThread first shards fresh) callers seats
    → Contains (all_pushes seats) p → WasGiven callers p.1
all_gave first shards fresh [] [] p each has = none_in p has
all_gave first shards fresh [] (s ∷ ss) p each has = absurd each
all_gave first shards fresh (c ∷ cs) [] p each has = absurd each
all_gave first shards fresh (c ∷ cs) (s ∷ ss) p each has =
    either (Contains-append_cases s.pushes (all_pushes ss) p has)
    (λ own. (c, (zero, omega arith, refl), thread_gave first shards fresh c s p each.0 own))
    (λ later. one_more cs c p.1 (all_gave first shards fresh cs ss p each.1 later))

pub popped_were_given : PopsWerePushed → PoppedWereGiven
popped_were_given pushed first shards fresh callers seats taken left threads run =
    All-weaker (Contains (all_pushes seats)) (λ p. WasGiven callers p.1)
    (λ p has. subst (λ (cs : List CallerState). WasGiven cs p.1) (sym threads.callers_are)
    (one_more threads.others threads.own p.1 (all_gave first shards fresh threads.others seats p threads.each has)))
    (all_pops seats) (pushed seats taken left run).0
