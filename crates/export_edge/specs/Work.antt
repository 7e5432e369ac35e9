-- What turners and senders do, over their whole work. This project's own rules.
use Rattle.std.specs.Prelude.{◌≡◌, ℕ, ◌^◌, ◌≤◌, ◌⊎◌, Bool, false, List, [], ◌∷◌, ◌++◌, length, map, flat_map, Option, Some, None, option_to_list}
use Rattle.log_positions.specs.Numbered.{items_of}
use Rattle.job_lane.specs.declared.job.Job.{Job}
use Rattle.job_lane.specs.Lane.{NumberedJob, SeatLists, WasFull, WasEmpty}
use Rattle.send_retry.specs.Class.{AnswerData}
use Rattle.export_edge.specs.declared.work.TurnResult.{TurnResult}
use Rattle.export_edge.specs.declared.work.TurnResult.TheVariants as turned

-- one step for each item, in order, from the state old to the state new
abbrev pub Through : {S X : Type 0} → (S → X → S → Type 0) → S → List X → S → Type 0
Through step old [] new = new ≡ old
Through {S} step old (x ∷ xs) new = (mid : S) × step old x mid × Through step mid xs new

-- a call of a beat: it said whether the work is over, gave a moment, or paused
pub data BeatCall : Type 0 where
  looked : Bool → BeatCall
  gave : ℕ → BeatCall
  paused : BeatCall

-- the moment of a call, if it gave one
abbrev pub moments_in : BeatCall → List ℕ
moments_in (looked over) = []
moments_in (gave moment) = moment ∷ []
moments_in paused = []

-- a turn: its moment, and what it came to
pub record Turn : Type 0 where
  pub now : ℕ
  pub came_to : TurnResult

-- the turn at a moment
abbrev pub turn_at : ℕ → TurnResult → Turn
turn_at now came_to = record { now = now; came_to = came_to }

-- the job of what a turn came to, if there is one
abbrev pub job_of : TurnResult → List Job
job_of (turned.Job job) = job ∷ []
job_of turned.Worked = []
job_of turned.Idle = []

-- the job of a turn, if it gave one
abbrev pub jobs_in : Turn → List Job
jobs_in t = job_of t.came_to

-- the moment of a turn
abbrev pub moment_of : Turn → ℕ
moment_of t = t.now

-- a round of a turner: it made a turn, pushed a job, or found no room for the job in the lane
pub data TurnerRound : Type 0 where
  turn_made : Turn → TurnerRound
  job_pushed : NumberedJob → TurnerRound
  lane_full : TurnerRound

-- the turn of a round, if it made one
abbrev pub turn_in : TurnerRound → List Turn
turn_in (turn_made t) = t ∷ []
turn_in (job_pushed pushed) = []
turn_in lane_full = []

-- the job of a round, if it pushed one
abbrev pub push_in : TurnerRound → List NumberedJob
push_in (turn_made t) = []
push_in (job_pushed pushed) = pushed ∷ []
push_in lane_full = []

-- behind a turn there is a pause where it had nothing to do, and none elsewhere
abbrev pub pause_after : TurnResult → List BeatCall
pause_after (turned.Job job) = []
pause_after turned.Worked = []
pause_after turned.Idle = paused ∷ []

-- the calls of the beat in a round: the work is not over, a turn is made at the moment that then is, and there is a
-- pause where nothing was to be done or the lane is full
abbrev pub turner_calls : TurnerRound → List BeatCall
turner_calls (turn_made t) = looked false ∷ gave t.now ∷ pause_after t.came_to
turner_calls (job_pushed pushed) = looked false ∷ []
turner_calls lane_full = looked false ∷ paused ∷ []

-- the job that a turner holds before a round, and behind it: none before a turn, and then the turn's job, if it gave
-- one; one that it pushes, which has then left; or one for which there is no room, which stays
abbrev pub HoldsAround : Option Job → TurnerRound → Option Job → Type 0
HoldsAround held (turn_made t) next = (held ≡ None) × (jobs_in t ≡ option_to_list next)
HoldsAround held (job_pushed pushed) next = (held ≡ Some pushed.1) × (next ≡ None)
HoldsAround held lane_full next = (job : Job) × (held ≡ Some job) × (next ≡ Some job)

-- What a turner did: rounds, in which it called the beat so and no more often, from holding no job on. The jobs of its
-- turns, in order, are those that it pushed, each once, and the one that it still holds.
pub record Turning {S B : Type 0} (turns : S → Turn → S → Type 0) (calls : B → BeatCall → B → Type 0)
    (old new : S) (beat beat' : B) (before after : List NumberedJob) (held : Option Job) : Type 0 where
  pub rounds : List TurnerRound
  pub beats : Through calls beat (flat_map turner_calls rounds) beat'
  pub holds : Through HoldsAround None rounds held
  pub made : List Turn
  pub makes : flat_map turn_in rounds ≡ made
  pub runs : Through turns old made new
  pub pushed : List NumberedJob
  pub puts : flat_map push_in rounds ≡ pushed
  pub pushes : after ≡ before ++ pushed
  pub jobs : flat_map jobs_in made ≡ items_of pushed ++ option_to_list held

-- the seat, once it has pushed one job more
abbrev pub with_push : SeatLists → NumberedJob → SeatLists
with_push seat pushed = record { lane = seat.lane; pushes = seat.pushes ++ pushed ∷ []; pops = seat.pops }

-- a lane that holds at most so many jobs had no room for one of this seat: it was full, or the seat had pushed all that
-- it may
abbrev pub HadNoRoom : ℕ → SeatLists → Type 0
HadNoRoom capacity seat = (2 ^ 62 ≤ length seat.pushes) ⊎ WasFull capacity seat

-- a turner's seat before a round and behind it: a push adds its job, no other round changes the seat, and in one that
-- found no room there was none
abbrev pub PushesAt : ℕ → SeatLists → TurnerRound → SeatLists → Type 0
PushesAt capacity seat (turn_made t) next = next ≡ seat
PushesAt capacity seat (job_pushed pushed) next = next ≡ with_push seat pushed
PushesAt capacity seat lane_full next = (next ≡ seat) × HadNoRoom capacity seat

-- what a turner did, and its seat in each of its rounds, at a lane that holds at most so many jobs
abbrev pub TurningAt : {S B : Type 0} → (S → Turn → S → Type 0) → (B → BeatCall → B → Type 0) → (capacity : ℕ)
    → (old new : S) → (beat beat' : B) → (seat seat' : SeatLists) → (held : Option Job) → Type 0
TurningAt turns calls capacity old new beat beat' seat seat' held =
    (did : Turning turns calls old new beat beat' seat.pushes seat'.pushes held)
    × Through (PushesAt capacity) seat did.rounds seat'

-- whatever was done before, this was done behind it, once the beat had said that the work is not over
abbrev pub TurnsBehind : {S B : Type 0} → (S → Turn → S → Type 0) → (B → BeatCall → B → Type 0) → (capacity : ℕ)
    → (old new : S) → (beat beat' : B) → (seat seat' : SeatLists) → (held held' : Option Job) → Type 0
TurnsBehind {S} {B} turns calls capacity old new beat beat' seat seat' held held' =
    (start : S) (b last : B) (first : SeatLists)
    → TurningAt turns calls capacity start old b last first seat held
    → calls last (looked false) beat
    → TurningAt turns calls capacity start new b beat' first seat' held'

-- a job that was posted, and what came of it
pub record Posted : Type 0 where
  pub job : Job
  pub answer : AnswerData

-- a job with what came of it
abbrev pub posted : Job → AnswerData → Posted
posted job answer = record { job = job; answer = answer }

-- an answer that is handed in at a moment, for the tenant's job with that ticket
pub record Given : Type 0 where
  pub tenant : ℕ
  pub now : ℕ
  pub ticket : ℕ
  pub answer : AnswerData

-- the same of its parts
abbrev pub given : ℕ → ℕ → ℕ → AnswerData → Given
given tenant now ticket answer = record { tenant = tenant; now = now; ticket = ticket; answer = answer }

-- the answer to a job, under the job's own tenant and ticket, at a moment
abbrev pub given_for : Posted → ℕ → Given
given_for p now = given p.job.tenant now p.job.ticket p.answer

-- a job that was posted, the moments at which the answer to it was refused, and the one at which it was taken
pub record Handed : Type 0 where
  pub post : Posted
  pub refusals : List ℕ
  pub now : ℕ

-- the same of its parts
abbrev pub handed : Posted → List ℕ → ℕ → Handed
handed p refusals now = record { post = p; refusals = refusals; now = now }

-- what was posted, and handed in
abbrev pub posted_of : Handed → Posted
posted_of h = h.post

-- the moments at which it was handed in, in order
abbrev pub attempts : Handed → List ℕ
attempts h = h.refusals ++ h.now ∷ []

-- the answer that was taken
abbrev pub taken_of : Handed → Given
taken_of h = given_for h.post h.now

-- The answer to a job was handed in at these moments until it was taken, which was once.
pub record Hands {S : Type 0} (takes refuses : S → Given → S → Type 0) (old : S) (h : Handed) (new : S) : Type 0 where
  pub mid : S
  pub refused : Through (λ s now t. refuses s (given_for h.post now) t) old h.refusals mid
  pub taken : takes mid (taken_of h) new

-- the calls of the beat at an attempt that was refused: its moment, and a pause
abbrev pub refused_calls : ℕ → List BeatCall
refused_calls now = gave now ∷ paused ∷ []

-- the calls of the beat while an answer is handed in, up to the moment at which it was taken
abbrev pub hand_calls : List ℕ → ℕ → List BeatCall
hand_calls refusals now = flat_map refused_calls refusals ++ gave now ∷ []

-- a round of a sender: it sent a job, or found none in the lane
pub data SenderRound : Type 0 where
  job_sent : Handed → SenderRound
  lane_empty : SenderRound

-- what a round sent, if it did
abbrev pub sent_in : SenderRound → List Handed
sent_in (job_sent h) = h ∷ []
sent_in lane_empty = []

-- the calls of the beat in a round: the work is not over, and then there are the attempts to hand in the answer, or a
-- pause where the lane is empty
abbrev pub sender_calls : SenderRound → List BeatCall
sender_calls (job_sent h) = looked false ∷ hand_calls h.refusals h.now
sender_calls lane_empty = looked false ∷ paused ∷ []

-- What a sender did: rounds, in which it called the beat so and no more often. The jobs that it popped were posted, in
-- order, each once, and to each its answer was handed in.
pub record Sending {B S T : Type 0} (posts : B → Posted → B → Type 0) (takes refuses : S → Given → S → Type 0)
    (calls : T → BeatCall → T → Type 0) (back_end back_end' : B) (sink sink' : S) (beat beat' : T)
    (before after : List NumberedJob) : Type 0 where
  pub rounds : List SenderRound
  pub beats : Through calls beat (flat_map sender_calls rounds) beat'
  pub sent : List Handed
  pub sends : flat_map sent_in rounds ≡ sent
  pub posting : Through posts back_end (map posted_of sent) back_end'
  pub handing : Through (Hands takes refuses) sink sent sink'
  pub popped : List NumberedJob
  pub pops : after ≡ before ++ popped
  pub jobs : map (λ h. h.post.job) sent ≡ items_of popped

-- the seat, once it has popped one job more
abbrev pub with_pop : SeatLists → NumberedJob → SeatLists
with_pop seat popped = record { lane = seat.lane; pushes = seat.pushes; pops = seat.pops ++ popped ∷ [] }

-- a sender's seat before a round and behind it: it pops the job that it sends, no other round changes the seat, and in
-- one that found no job the lane was empty
abbrev pub PopsAt : SeatLists → SenderRound → SeatLists → Type 0
PopsAt seat (job_sent h) next = (n : ℕ) × (next ≡ with_pop seat (n, h.post.job))
PopsAt seat lane_empty next = (next ≡ seat) × WasEmpty seat

-- what a sender did, and its seat in each of its rounds
abbrev pub SendingAt : {B S T : Type 0} → (B → Posted → B → Type 0) → (takes refuses : S → Given → S → Type 0)
    → (T → BeatCall → T → Type 0) → (back_end back_end' : B) → (sink sink' : S) → (beat beat' : T)
    → (seat seat' : SeatLists) → Type 0
SendingAt posts takes refuses calls back_end back_end' sink sink' beat beat' seat seat' =
    (did : Sending posts takes refuses calls back_end back_end' sink sink' beat beat' seat.pops seat'.pops)
    × Through PopsAt seat did.rounds seat'

-- whatever was sent before, this was sent behind it, once the beat had said that the work is not over
abbrev pub SendsBehind : {B S T : Type 0} → (B → Posted → B → Type 0) → (takes refuses : S → Given → S → Type 0)
    → (T → BeatCall → T → Type 0) → (back_end back_end' : B) → (sink sink' : S) → (beat beat' : T)
    → (seat seat' : SeatLists) → Type 0
SendsBehind {B} {S} {T} posts takes refuses calls back_end back_end' sink sink' beat beat' seat seat' =
    (b : B) (s : S) (t last : T) (first : SeatLists)
    → SendingAt posts takes refuses calls b back_end s sink t last first seat
    → calls last (looked false) beat
    → SendingAt posts takes refuses calls b back_end' s sink' t beat' first seat'

-- the job was posted, and the answer to it handed in, each time at the moment that the beat then gave
abbrev pub SendsJob : {B S T : Type 0} → (B → Posted → B → Type 0) → (takes refuses : S → Given → S → Type 0)
    → (T → BeatCall → T → Type 0) → Job → (back_end back_end' : B) → (sink sink' : S) → (beat beat' : T) → Type 0
SendsJob posts takes refuses calls job back_end back_end' sink sink' beat beat' =
    (answer : AnswerData) × (refusals : List ℕ) × (now : ℕ)
    × posts back_end (posted job answer) back_end'
    × Hands takes refuses sink (handed (posted job answer) refusals now) sink'
    × Through calls beat (hand_calls refusals now) beat'
