-- When a batch is sent again: `retry_on_failure` of the Collector's exporterhelper (its README, "Retry on Failure"),
-- in whole milliseconds. Factors are thousandths, and divisions round down.
use Rattle.std.specs.Prelude.{ℕ, Bool, ◌+◌, ◌-◌, ◌*◌, ◌/◌, ◌^◌, min, max, nat_lt, ◌==◌, ◌&&◌, not, if◌then◌else◌}
use Rattle.tail_settings.specs.RetryOnFailure.{RetryData, retry_view}
use Rattle.send_retry.specs.declared.state.RetryState.{RetryState}
use Rattle.send_retry.specs.declared.delay.NextDelay.{NextDelay}
use Rattle.send_retry.specs.declared.delay.NextDelay.TheVariants as delays

-- the tenant's settings, the next interval, and the moment of the batch's first job
pub record StateData : Type 0 where
  pub settings : RetryData
  pub interval : ℕ
  pub first_job : ℕ

-- a Rust state as such
abbrev pub state_view : RetryState → StateData
state_view state = record {
  settings = retry_view state.settings;
  interval = state.interval;
  first_job = state.first_job;
}

-- before a batch's first answer
abbrev pub first_state : RetryData → ℕ → StateData
first_state settings first_job = record {
  settings = settings;
  interval = settings.initial_interval;
  first_job = first_job;
}

-- how far a delay lies from its interval at most
abbrev pub spread : StateData → ℕ
spread state = state.interval * state.settings.randomization_factor / 1000

-- the delay that a word of 32 bits picks, each of the 2 * spread + 1 about as likely
abbrev pub picked : StateData → ℕ → ℕ
picked state word = state.interval - spread state + (2 * spread state + 1) * word / 2 ^ 32

-- the delay that a word picks, or the wait that the back end asked for, in seconds, where that is longer
abbrev pub delay_of : StateData → ℕ → ℕ → ℕ
delay_of state word wait = max (picked state word) (1000 * wait)

-- a state with another interval
abbrev pub with_interval : ℕ → StateData → StateData
with_interval interval state = record state { interval = interval }

-- the interval after this one
abbrev pub next_interval : StateData → ℕ
next_interval state = min (state.interval * state.settings.multiplier / 1000) state.settings.max_interval

-- an attempt at that moment comes too late: so long after the first job; with 0 none does
abbrev pub is_too_late : StateData → ℕ → Bool
is_too_late state due =
    let longest = state.settings.max_elapsed_time in
    not (longest == 0) && nat_lt longest (due - state.first_job)

-- the moment of the next attempt and the state after it, or none
pub data NextData : Type 0 where
  Delay : ℕ → StateData → NextData
  GiveUp : NextData

-- a Rust answer to when the batch is sent again, as such
abbrev pub next_view : NextDelay → NextData
next_view (delays.Delay due state) = Delay due (state_view state)
next_view delays.GiveUp = GiveUp

-- an attempt at that moment, unless it comes too late
abbrev pub next_at : StateData → ℕ → NextData
next_at state due = if is_too_late state due then GiveUp else Delay due (with_interval (next_interval state) state)

-- after an answer at a moment, by a word of 32 bits and the wait that was asked for
abbrev pub next_delay : StateData → ℕ → ℕ → ℕ → NextData
next_delay state now word wait = next_at state (now + delay_of state word wait)
