-- What the definitions of Class and Delay come to, told as a whole: laws of the same public texts.
use Rattle.std.specs.Prelude.{◌≡◌, ◌≢◌, ◌↔◌, ◌<◌, ◌≤◌, ◌+◌, ◌/◌, ◌^◌, ℕ, true, List, Option}
use Rattle.send_retry.specs.Class.{AnswerData, Http, refused_of, class_of}
use Rattle.send_retry.specs.Delay.{StateData, spread, picked, is_too_late}
use Rattle.send_retry.specs.declared.answer.Verdict.TheVariants.{Taken, Never}

-- an answer that came, whose status is no success and none of those that are for now (OTLP/HTTP, "Retryable Response
-- Codes")
pub record IsForGood (answer : AnswerData) : Type 0 where
  pub status : ℕ
  pub retry_after : Option ℕ
  pub body : List ℕ
  pub came : answer ≡ Http status retry_after body
  pub no_success : status / 100 ≢ 2
  pub not_too_many_requests : status ≢ 429
  pub not_bad_gateway : status ≢ 502
  pub not_unavailable : status ≢ 503
  pub not_gateway_timeout : status ≢ 504

-- a batch is refused for good by these answers, and by no other
abbrev pub RefusalsAreForGood : Type 0
RefusalsAreForGood = (answer : AnswerData) → (class_of answer ≡ Never) ↔ IsForGood answer

-- an answer that came, whose status is a success and whose body says that so many spans were refused (OTLP/HTTP, "Full
-- Success", "Partial Success")
pub record IsSuccess (answer : AnswerData) (rejected : ℕ) : Type 0 where
  pub status : ℕ
  pub retry_after : Option ℕ
  pub body : List ℕ
  pub came : answer ≡ Http status retry_after body
  pub success : status / 100 ≡ 2
  pub rejected_is : refused_of body ≡ rejected

-- a batch is taken but for so many spans by these answers, and by no other
abbrev pub SuccessesAreTaken : Type 0
SuccessesAreTaken = (answer : AnswerData) (rejected : ℕ) →
    (class_of answer ≡ Taken rejected) ↔ IsSuccess answer rejected

-- a state within the ranges of settings: an interval of at most a day, in milliseconds, and a factor of at most 1, in
-- thousandths
pub record IsInRange (state : StateData) : Type 0 where
  pub interval : state.interval ≤ 86400000
  pub factor : state.settings.randomization_factor ≤ 1000

-- a delay that some word of 32 bits picks
pub record IsPicked (state : StateData) (delay : ℕ) : Type 0 where
  pub word : ℕ
  pub small : word < 2 ^ 32
  pub picks : picked state word ≡ delay

-- a delay no further from the interval than its spread
pub record IsNear (state : StateData) (delay : ℕ) : Type 0 where
  pub least : state.interval ≤ delay + spread state
  pub most : delay ≤ state.interval + spread state

-- words pick these delays, each of them and no other
abbrev pub PickedAreNear : Type 0
PickedAreNear = (state : StateData) → IsInRange state → (delay : ℕ) → IsPicked state delay ↔ IsNear state delay

-- a moment later than the batch's first job by more than the time for which it may be tried, where that is bounded
pub record IsPastTheEnd (state : StateData) (due : ℕ) : Type 0 where
  pub bounded : state.settings.max_elapsed_time ≢ 0
  pub past : state.first_job + state.settings.max_elapsed_time < due

-- attempts at these moments come too late, and at no other
abbrev pub LateIsPastTheEnd : Type 0
LateIsPastTheEnd = (state : StateData) (due : ℕ) → (is_too_late state due ≡ true) ↔ IsPastTheEnd state due
