-- What a step tells keeps what a seat's type says.
use Rattle.std.proofs.Common.{◌≡◌, ℕ, ◌+◌, [], ◌∷◌, ◌++◌, length, Option, Some, None, MatchOption, IfSome, sym, ap, subst, arith, length-append}
use Rattle.crossbeam_queue.specs.Fifo.{Held}
use Rattle.log_positions.specs.Numbered.{AreBelow, AreRising}
use Rattle.log_positions.proofs.Numbered.{AreRising-push}
use Rattle.job_lane.specs.declared.job.Job.{Job}
use Rattle.job_lane.specs.declared.view.SeatView.{SeatView}
use Rattle.job_lane.specs.Lane.{IsMoment}
use Rattle.job_lane.specs.Rule.{Pushes, Pops, Learned}

-- what a seat's type says of its view
abbrev pub IsSeatView : ℕ → SeatView → Type 0
IsSeatView pushed v = (v.parts ≡ 1) × (pushed ≡ length v.pushes) × AreRising v.pushes × AreRising v.pops

pub pushed_keeps : (n : ℕ) (v w : SeatView) (job : Job) → Pushes v job w → IsSeatView n v → IsSeatView (n + 1) w
pushed_keeps n v w job told is =
    subst (IsSeatView (n + 1)) (sym told.2)
    (is.0, omega (arith, is.1, length-append v.pushes ((told.0, job) ∷ [])), AreRising-push v.pushes told.0 job told.1 is.2, is.3)

popped : (n : ℕ) (v w : SeatView) (job : Job) → Pops v job w → IsSeatView n v → IsSeatView n w
popped n v w job told is =
    subst (IsSeatView n) (sym told.2) (is.0, is.1, is.2, AreRising-push v.pops told.0 job told.1 is.3)

-- what a pop tells
abbrev pub Told : Option Job → SeatView → SeatView → Type 0
Told result v w = MatchOption result ((w ≡ v) × Held 0 (Learned v)) (λ job. Pops v job w)

pub popped_keeps : (n : ℕ) (result : Option Job) (v w : SeatView) → Told result v w → IsSeatView n v → IsSeatView n w
popped_keeps n None v w told is = subst (IsSeatView n) (sym told.0) is
popped_keeps n (Some job) v w told is = popped n v w job told is

pub popped_tells : (result : Option Job) (v w : SeatView) → Told result v w → IfSome result (λ job. (n : ℕ) × AreBelow n v.pops × (w.pops ≡ v.pops ++ (n, job) ∷ []))
popped_tells None v w told = tt
popped_tells (Some job) v w told = (told.0, told.1, ap (λ (y : SeatView). y.pops) told.2)

-- a moment, as a seat with one part learns it
pub seen : (n : ℕ) (v : SeatView) → v.parts ≡ 1 → Held n (Learned v) → Held n (IsMoment v.whole v.pushes v.pops)
seen n v one held = (held.0, held.1, held.2 one)
