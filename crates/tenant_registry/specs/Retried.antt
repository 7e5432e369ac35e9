-- What `check` tells of a tenant's retries, and what becomes of its batches: laws over the definitions of two crates.
use Rattle.std.specs.Prelude.{◌≡◌, ◌≢◌, ◌↔◌, ◌+◌, ◌≤◌, ℕ, List, []}
use Rattle.send_retry.specs.Delay.{Delay, GiveUp, first_state, with_interval, next_interval, next_delay}
use Rattle.settings_check.specs.Doubts.{least_delay, retry_line}
use Rattle.tail_settings.specs.RetryOnFailure.{RetryData}

-- no batch is sent again, whenever its first answer comes, whatever word is drawn and whatever wait is asked for
abbrev pub IsNeverSentAgain : RetryData → Type 0
IsNeverSentAgain retry =
    (first_job now word wait : ℕ) → first_job ≤ now → next_delay (first_state retry first_job) now word wait ≡ GiveUp

-- the doubt is told of exactly these settings, but for those that turn retries off by a longest time of 1
abbrev pub RetryDoubtsHold : Type 0
RetryDoubtsHold = (name : List ℕ) (retry : RetryData) → (retry_line name retry ≢ [])
    ↔ (retry.max_elapsed_time ≢ 1) × IsNeverSentAgain retry

-- of all others a batch is sent again after the shortest delay, where its first answer comes at the moment of its first
-- job, the word 0 is drawn, and no wait is asked for
abbrev pub RetriesAreMade : Type 0
RetriesAreMade = (name : List ℕ) (retry : RetryData) (first_job : ℕ) → retry_line name retry ≡ []
    → retry.max_elapsed_time ≢ 1
    → (let state = first_state retry first_job in
    next_delay state first_job 0 0 ≡ Delay (first_job + least_delay retry) (with_interval (next_interval state) state))
