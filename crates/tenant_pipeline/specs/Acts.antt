-- What a step does once its due timers have run. This project's own rule.
use Rattle.std.specs.Prelude.{◌≡◌, ℕ}
use Rattle.drop_ledger.specs.Ledger.{left_out}
use Rattle.tenant_rules.specs.Intake.{Verdict, accepted}
use Rattle.tenant_rules.specs.State.{State}
use Rattle.tenant_rules.specs.Timers.{enough, ran}
use Rattle.tenant_pipeline.specs.declared.pipeline.Pipeline.{Pipeline}

-- the state whose clock stands at a moment
abbrev pub at : ℕ → State → State
at moment s = record s { clock = moment }

-- the state once all timers that are due by a moment have run
abbrev pub all_run : ℕ → State → State
all_run moment s = ran (enough s) moment s

-- at a moment, which the clock is then set to, what is kept is what this change makes of it
abbrev pub ActsAt : ℕ → (State → State) → State → State → Type 0
ActsAt moment change old new = at moment new ≡ change (at moment old)

-- what was left out of a post is counted where it is taken
abbrev pub IsPosted : Verdict → Pipeline → Pipeline → Type 0
IsPosted (accepted invalid over_budget) old new =
    new ≡ record old { ledger = left_out invalid over_budget old.ledger }
IsPosted verdict old new = new ≡ old
