use Rattle.std.proofs.Common.{◌≡◌, ◌≢◌, ◌==◌, ◌&&◌, ◌||◌, ◌/◌, ℕ, Bool, true, false, cond, List, Option, refl}
use Rattle.std.specs.Prelude.{nat_le}
use Rattle.std.proofs.lemmas.Bool.{eqb-true, eqb-false, false_from_ne_true, or_parts}
use Rattle.send_retry.specs.Class.{AnswerData, Http, Failed, refused_of, wait_of, class_of, class_of_status}
use Rattle.send_retry.specs.Law.{IsForGood}
use Rattle.send_retry.specs.declared.answer.Verdict.TheVariants.{Taken, Again, Never}
use Rattle.send_retry.proofs.Statuses.{is_success, no_success}
use Rattle.send_retry.proofs.refusals_are_for_good.Goals as goal

-- none of the three tests passed
tests_failed : (success waits again : Bool) (refused wait : ℕ)
    → cond success (Taken refused) (cond waits (Again wait) (cond again (Again 0) Never)) ≡ Never
    → (success ≡ false) × (waits ≡ false) × (again ≡ false)
tests_failed true waits again refused wait e = cc
tests_failed false true again refused wait e = cc
tests_failed false false true refused wait e = cc
tests_failed false false false refused wait e = (refl, refl, refl)

neither : (status a b : ℕ) → (status == a || status == b) ≡ false → (status ≢ a) × (status ≢ b)
neither status a b e =
    let f = or_parts (status == a) (status == b) e in
    (eqb-false status a f.0, eqb-false status b f.1)

differs : (status a : ℕ) → status ≢ a → (status == a) ≡ false
differs status a p = false_from_ne_true (status == a) (λ t. p (eqb-true status a t))

refused : (answer : AnswerData) → class_of answer ≡ Never → IsForGood answer
refused (Http status retry_after body) e =
    let t = tests_failed (nat_le 200 status && nat_le status 299) (status == 429 || status == 503)
    (status == 502 || status == 504) (refused_of body) (wait_of retry_after) e in
    let waits = neither status 429 503 t.1 in
    let again = neither status 502 504 t.2 in
    record {
      status = status;
      retry_after = retry_after;
      body = body;
      came = refl;
      no_success = no_success status t.0;
      not_too_many_requests = waits.0;
      not_bad_gateway = again.0;
      not_unavailable = waits.1;
      not_gateway_timeout = again.1;
    }
refused Failed e = cc

status_refused : (status : ℕ) (retry_after : Option ℕ) (body : List ℕ) → status / 100 ≢ 2 → status ≢ 429 → status ≢ 502
    → status ≢ 503 → status ≢ 504 → class_of_status status retry_after body ≡ Never
status_refused status retry_after body no_success not_429 not_502 not_503 not_504 =
    let success : (nat_le 200 status && nat_le status 299) ≡ false =
    false_from_ne_true (nat_le 200 status && nat_le status 299) (λ t. no_success (is_success status t)) in
    rw (success, differs status 429 not_429, differs status 503 not_503, differs status 502 not_502, differs status 504 not_504) refl

is_refused : (answer : AnswerData) → IsForGood answer → class_of answer ≡ Never
is_refused answer h =
    rw h.came
    (status_refused h.status h.retry_after h.body h.no_success h.not_too_many_requests h.not_bad_gateway
    h.not_unavailable h.not_gateway_timeout)

pub returns : goal.returns
returns c answer = (refused answer, is_refused answer)
