use Rattle.std.proofs.Common.{◌≡◌, ◌≢◌, ◌<◌, ◌-◌, ◌==◌, ℕ, true, false, arith, refl}
use Rattle.std.specs.Prelude.{not, nat_lt}
use Rattle.std.proofs.lemmas.Bool.{and_parts}
use Rattle.std.proofs.lemmas.Bool.Decides.{nat_tests}
use Rattle.send_retry.specs.Delay.{StateData, is_too_late}
use Rattle.send_retry.specs.Law.{IsPastTheEnd}
use Rattle.send_retry.proofs.late_is_past_the_end.Goals as goal

late : (state : StateData) (due : ℕ) → is_too_late state due ≡ true → IsPastTheEnd state due
late state due e =
    let longest = state.settings.max_elapsed_time in
    let parts = and_parts (not (longest == 0)) (nat_lt longest (due - state.first_job)) e in
    let bounded : not (longest == 0) ≡ true = parts.0 in
    let beyond : nat_lt longest (due - state.first_job) ≡ true = parts.1 in
    let past : longest < due - state.first_job = grind (arith, nat_tests, beyond) in
    record { bounded = λ none. grind (arith, nat_tests, bounded, none); past = omega arith }

is_late : (state : StateData) (due : ℕ) → IsPastTheEnd state due → is_too_late state due ≡ true
is_late state due h =
    let longest = state.settings.max_elapsed_time in
    let some : longest ≢ 0 = h.bounded in
    let bounded : (longest == 0) ≡ false = grind (arith, nat_tests, some) in
    let past : longest < due - state.first_job = omega (arith, h.past) in
    let beyond : nat_lt longest (due - state.first_job) ≡ true = grind (arith, nat_tests, past) in
    rw (bounded, beyond) refl

pub returns : goal.returns
returns c state due = (late state due, is_late state due)
