use Rattle.std.proofs.Common.{◌≡◌, ◌∙◌, ◌/◌, ◌==◌, ◌&&◌, ◌||◌, ℕ, Bool, true, false, cond, List, Option, ap, refl}
use Rattle.std.specs.Prelude.{nat_le}
use Rattle.send_retry.specs.Class.{AnswerData, Http, Failed, refused_of, wait_of, class_of, class_of_status}
use Rattle.send_retry.specs.Law.{IsSuccess}
use Rattle.send_retry.specs.declared.answer.Verdict.{Verdict}
use Rattle.send_retry.specs.declared.answer.Verdict.TheVariants.{Taken, Again, Never}
use Rattle.send_retry.proofs.Statuses.{is_success, passes}
use Rattle.send_retry.proofs.successes_are_taken.Goals as goal

-- the first test passed
test_passed : (success waits again : Bool) (refused wait rejected : ℕ)
    → cond success (Taken refused) (cond waits (Again wait) (cond again (Again 0) Never)) ≡ Taken rejected
    → (success ≡ true) × (refused ≡ rejected)
test_passed true waits again refused wait rejected e = (refl, cc)
test_passed false true again refused wait rejected e = cc
test_passed false false true refused wait rejected e = cc
test_passed false false false refused wait rejected e = cc

taken : (answer : AnswerData) (rejected : ℕ) → class_of answer ≡ Taken rejected → IsSuccess answer rejected
taken (Http status retry_after body) rejected e =
    let t = test_passed (nat_le 200 status && nat_le status 299) (status == 429 || status == 503)
    (status == 502 || status == 504) (refused_of body) (wait_of retry_after) rejected e in
    record {
      status = status;
      retry_after = retry_after;
      body = body;
      came = refl;
      success = is_success status t.0;
      rejected_is = t.1;
    }
taken Failed rejected e = cc

status_taken : (status : ℕ) (retry_after : Option ℕ) (body : List ℕ) → status / 100 ≡ 2 →
    class_of_status status retry_after body ≡ Taken (refused_of body)
status_taken status retry_after body q = rw (passes status q) refl

is_taken : (answer : AnswerData) (rejected : ℕ) → IsSuccess answer rejected → class_of answer ≡ Taken rejected
is_taken answer rejected h =
    rw h.came (status_taken h.status h.retry_after h.body h.success ∙ ap (λ n. let v : Verdict = Taken n in v) h.rejected_is)

pub returns : goal.returns
returns c answer rejected = (taken answer rejected, is_taken answer rejected)
