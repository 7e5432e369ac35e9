-- The rule of the queue under a lane, which its passes keep: the machine that `specs/Lane` is proved by. This project's
-- own rule.
use Rattle.std.specs.Prelude.{◌≡◌, ℕ, ◌+◌, ◌<◌, List, [], ◌∷◌, ◌++◌, sum_by, flat_map}
use mathlib.Core.Option.{some}
use lib.ListN.{get_elem?}
use Rattle.log_positions.specs.Numbered.{AreBelow}
use Rattle.job_lane.specs.declared.job.Job.{Job}
use Rattle.job_lane.specs.declared.view.SeatView.{SeatView}
use Rattle.job_lane.specs.Lane.{NumberedJob, SeatLists, IsInOrder, IsMoment}

-- what a pass knows: its parts, the parts of all, its pushes and its pops
abbrev pub seat_view : ℕ → ℕ → List NumberedJob → List NumberedJob → SeatView
seat_view parts whole pushes pops = record { parts = parts; whole = whole; pushes = pushes; pops = pops }

-- who has a part knows how many there are, and who has none did nothing
pub record Fits (all : ℕ) (v : SeatView) : Type 0 where
  pub whole : 0 < v.parts → v.whole ≡ all
  pub idle : v.parts ≡ 0 → (v.pushes ≡ []) × (v.pops ≡ [])

-- the rule: what all passes did is in order, and their parts are all parts
pub record IsLane (held : List Job) (views : List SeatView) : Type 0 where
  pub gone : List Job
  pub all : ℕ
  pub run : IsInOrder (flat_map (λ v. v.pushes) views) (flat_map (λ v. v.pops) views) gone held
  pub parts : sum_by (λ v. v.parts) views ≡ all
  pub fits : (i : ℕ) (v : SeatView) → get_elem? views i ≡ some v → Fits all v

-- a push adds a job with a number above all of this pass's
abbrev pub Pushes : SeatView → Job → SeatView → Type 0
Pushes v job w = (n : ℕ) × AreBelow n v.pushes × (w ≡ seat_view v.parts v.whole (v.pushes ++ (n, job) ∷ []) v.pops)

-- a pop does
abbrev pub Pops : SeatView → Job → SeatView → Type 0
Pops v job w = (n : ℕ) × AreBelow n v.pops × (w ≡ seat_view v.parts v.whole v.pushes (v.pops ++ (n, job) ∷ []))

-- what a pass with one part learns of a moment
abbrev pub Learned : SeatView → List Job → Type 0
Learned v held = v.parts ≡ 1 → IsMoment v.whole v.pushes v.pops held

-- what a pass with all parts learns
abbrev pub Counted : SeatView → List Job → Type 0
Counted v held = 0 < v.parts → v.parts ≡ v.whole → (gone : List Job) × IsInOrder v.pushes v.pops gone held

-- a pass that has taken in a seat, which has one part
abbrev pub with_seat : SeatView → SeatLists → SeatView
with_seat v s = seat_view (v.parts + 1) s.lane.seats (s.pushes ++ v.pushes) (s.pops ++ v.pops)
