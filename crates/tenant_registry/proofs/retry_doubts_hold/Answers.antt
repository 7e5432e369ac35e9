use Rattle.std.proofs.Common.{◌≡◌, ◌≢◌, ◌≤◌, ◌<◌, ◌+◌, ◌-◌, ◌*◌, ◌/◌, ◌^◌, ◌||◌, ◌&&◌, ◌==◌, not, ℕ, Bool, true, false, cond, List, [], arith, refl, max}
use Rattle.std.specs.Prelude.{nat_le, nat_lt}
use Rattle.std.proofs.Math.Nat.{le-max_left}
use Rattle.std.proofs.lemmas.Bool.{leb-true, leb-false, lt-ltb, eqb-true, eq-eqb, false_from_ne_true, or_parts, and_parts, lt-leb, ltb-true}
use Rattle.send_retry.specs.Delay.{Delay, GiveUp, StateData, first_state, spread, picked, delay_of, with_interval, next_interval, is_too_late, next_at, next_delay}
use Rattle.settings_check.specs.Doubts.{least_delay, retry_line}
use Rattle.tail_settings.specs.RetryOnFailure.{RetryData}
use Rattle.tenant_registry.specs.Retried.{IsNeverSentAgain}
use Rattle.tenant_registry.proofs.retry_doubts_hold.Goals as goal

-- a choice between no line and one that has a byte
told : (b : Bool) (line : List ℕ) → cond b [] line ≢ [] → b ≡ false
told true line p = absurd (p refl)
told false line p = refl

untold : (b : Bool) (line : List ℕ) → line ≢ [] → cond b [] line ≡ [] → b ≡ true
untold true line p e = refl
untold false line p e = absurd (p e)

-- the tests of the line
abbrev is_silent : RetryData → Bool
is_silent retry = nat_le retry.max_elapsed_time 1 || nat_le (least_delay retry) retry.max_elapsed_time

told_late : (name : List ℕ) (retry : RetryData) → retry_line name retry ≢ [] → is_silent retry ≡ false
told_late name retry p = told (is_silent retry) _ p

untold_silent : (name : List ℕ) (retry : RetryData) → retry_line name retry ≡ [] → is_silent retry ≡ true
untold_silent name retry e = untold (is_silent retry) _ (λ q. cc) e

one_true : (a b : Bool) → (a || b) ≡ true → b ≡ false → a ≡ true
one_true true b e p = refl
one_true false b e p = cc

-- an attempt that comes too late
late : (state : StateData) (due : ℕ) → is_too_late state due ≡ true → next_at state due ≡ GiveUp
late state due e = rw e refl

in_time : (state : StateData) (due : ℕ) → is_too_late state due ≡ false
    → next_at state due ≡ Delay due (with_interval (next_interval state) state)
in_time state due e = rw e refl

front : (a b : ℕ) → a ≤ a + b
front a b = omega arith

given_up : (retry : RetryData) → is_silent retry ≡ false → IsNeverSentAgain retry
given_up retry e first_job now word wait after =
    let state = first_state retry first_job in
    let longest = retry.max_elapsed_time in
    let p = or_parts (nat_le longest 1) (nat_le (least_delay retry) longest) e in
    let tried : 1 < longest = leb-false longest 1 p.0 in
    let short : longest < least_delay retry = leb-false (least_delay retry) longest p.1 in
    let least : least_delay retry ≤ picked state word = front (least_delay retry) _ in
    let most : picked state word ≤ delay_of state word wait = le-max_left (picked state word) (1000 * wait) in
    let due = now + delay_of state word wait in
    let some : (longest == 0) ≡ false = false_from_ne_true (longest == 0) (λ t. let z : longest ≡ 0 = eqb-true longest 0 t in omega arith) in
    let over : nat_lt longest (due - first_job) ≡ true = lt-ltb longest (due - first_job) (omega arith) in
    late state due (rw (some, over) refl)

shortest : (a s : ℕ) → max (a + (2 * s + 1) * 0 / 2 ^ 32) (1000 * 0) ≡ a
shortest a s = omega arith

not_zero : (longest : ℕ) → not (longest == 0) ≡ true → longest ≢ 0
not_zero longest e z =
    let same : (longest == 0) ≡ true = eq-eqb longest 0 z in
    let wrong : not true ≡ true = rw same at e in
    cc

early : (longest least first : ℕ) → (nat_le longest 1 || nat_le least longest) ≡ true → longest ≢ 1
    → (not (longest == 0) && nat_lt longest (first + least - first)) ≡ false
early longest least first silent tried =
    false_from_ne_true (not (longest == 0) && nat_lt longest (first + least - first))
    (λ t.
    let p = and_parts (not (longest == 0)) (nat_lt longest (first + least - first)) t in
    let over : longest < first + least - first = ltb-true longest (first + least - first) p.1 in
    let beyond : nat_le least longest ≡ false = lt-leb least longest (omega arith) in
    let short : longest ≤ 1 = leb-true longest 1 (one_true (nat_le longest 1) (nat_le least longest) silent beyond) in
    let some : longest ≢ 0 = not_zero longest p.0 in
    tried (omega arith))

sent : (retry : RetryData) (first_job : ℕ) → is_silent retry ≡ true → retry.max_elapsed_time ≢ 1
    → (let state = first_state retry first_job in
    next_delay state first_job 0 0 ≡ Delay (first_job + least_delay retry) (with_interval (next_interval state) state))
sent retry first_job e tried =
    let state = first_state retry first_job in
    let longest = retry.max_elapsed_time in
    let least : delay_of state 0 0 ≡ least_delay retry = shortest (least_delay retry) (spread state) in
    let in_time_by : is_too_late state (first_job + least_delay retry) ≡ false =
    early longest (least_delay retry) first_job e tried in
    rw least (in_time state (first_job + least_delay retry) in_time_by)

pub returns-clause-told : goal.returns-clause-told
returns-clause-told c name retry = (
  λ p.
      let e = told_late name retry p in
      let tests = or_parts (nat_le retry.max_elapsed_time 1) (nat_le (least_delay retry) retry.max_elapsed_time) e in
      let tried : 1 < retry.max_elapsed_time = leb-false retry.max_elapsed_time 1 tests.0 in
      (λ q. omega arith, given_up retry e),
  λ h e.
      let made = sent retry 0 (untold_silent name retry e) h.0 in
      let none = h.1 0 0 0 0 (omega arith) in
      cc,
)

pub returns-clause-untold : goal.returns-clause-untold
returns-clause-untold c name retry first_job e tried = sent retry first_job (untold_silent name retry e) tried
