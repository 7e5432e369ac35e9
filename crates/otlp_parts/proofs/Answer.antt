-- What the parts of a body were read as, in the words of the public clauses.
use Rattle.std.proofs.Common.{◌≡◌, ◌≢◌, ◌≤◌, ◌<◌, ◌-◌, ◌^◌, ℕ, length, min, arith, List, Result, Ok, Err, IfOk, IfErr, refl, sym, ap, ◌∙◌}
use Rattle.otlp_trace.specs.Data.{RequestData}
use Rattle.otlp_read.specs.declared.fault.ReadFault.{ReadFault}
use Rattle.otlp_read.specs.declared.fault.ReadFault.TheVariants.{Truncated, VarintTooLong, BadTag, GroupMismatch, TooDeep, NotUtf8, OutOfMemory}
use Rattle.otlp_read.specs.Fault.{Fails, Gives}
use Rattle.otlp_trace.specs.Defaults.{no_request}
use Rattle.otlp_read.specs.Value.{request_step, value_of, IsValue, IsFault}
use Rattle.otlp_read.specs.Walk.{◌>>=◌}
use Rattle.otlp_read.proofs.Answered.{whole}
use Rattle.otlp_read.proofs.Laws.{bind_ok, makes, made, stands}
use Rattle.otlp_parts.specs.Texts.{invalid_in, BodyTexts, texts_of, ArePartsOf}
use Rattle.otlp_parts.specs.Kept.{kept_of}
use Rattle.otlp_parts.proofs.Commutes.{counted_texts, body_kept}
use Rattle.otlp_parts.proofs.Counts.{body_within}

-- a fault comes through what is made of the value
fault_through : {A B : Type 0} (r : Result A ReadFault) (f : A → B) (e : ReadFault) → (r >>= λ x. Ok (f x)) ≡ Err e → r ≡ Err e
fault_through {B = B} (Ok x) f e is = absurd (let never : ◌≡◌ {A = Result B ReadFault} (Ok (f x)) (Err e) = is in cc)
fault_through {B = B} (Err g) f e is = let same : g ≡ e = cc in ap (λ (h : ReadFault). Err h) same

failed : {Y : Type 0} (f : ReadFault) (read : Result Y ReadFault) → Fails f read → f ≢ OutOfMemory → read ≡ Err f
failed Truncated read is other = is
failed VarintTooLong read is other = is
failed BadTag read is other = is
failed GroupMismatch read is other = is
failed TooDeep read is other = is
failed NotUtf8 read is other = is
failed OutOfMemory read is other = absurd (other refl)

-- of a body in memory each count is exact
exact : (body : List ℕ) (v : RequestData) → length body < 2 ^ 64 → IsValue body v → counted_texts v ≡ texts_of v
exact body v short is =
    let within : invalid_in v ≤ length body = body_within body v is in
    let same : min (invalid_in v) (2 ^ 64 - 1) ≡ invalid_in v = omega arith in
    ap (λ (n : ℕ). record (texts_of v) { invalid = n }) same

pub parts_value : {X : Type 0} (view : X → BodyTexts) (body : List ℕ) (r : Result X ReadFault) → length body < 2 ^ 64 → Gives view r (kept_of body) → IfOk r (λ x. ArePartsOf body (view x))
parts_value view body (Ok x) short is =
    let one = bind_ok (value_of body) (λ v. Ok (counted_texts v)) (view x) (sym (body_kept body) ∙ is) in
    let same : counted_texts one.0 ≡ view x = cc (one.2) in
    let value : IsValue body one.0 = makes (request_step 100) 0 no_request one.0 body (sym (whole request_step no_request body) ∙ one.1) in
    record { value = one.0; is = value; same = sym same ∙ exact body one.0 short value }
parts_value view body (Err f) short is = tt

pub parts_only : {X : Type 0} (view : X → BodyTexts) (body : List ℕ) (v : RequestData) (r : Result X ReadFault) → length body < 2 ^ 64 → IsValue body v → Gives view r (kept_of body) → Gives view r (Ok (texts_of v))
parts_only view body v r short is gives =
    let read : value_of body ≡ Ok v = whole request_step no_request body ∙ made (request_step 100) 0 no_request v body is in
    let kept : kept_of body ≡ Ok (texts_of v) = body_kept body ∙ ap (λ (s : Result RequestData ReadFault). s >>= λ w. Ok (counted_texts w)) read ∙ ap (λ (t : BodyTexts). Ok t) (exact body v short is) in
    rw kept at gives

pub parts_fault : {X : Type 0} (view : X → BodyTexts) (body : List ℕ) (r : Result X ReadFault) → Gives view r (kept_of body) → IfErr r (λ f. f ≢ OutOfMemory → IsFault body f)
parts_fault view body (Ok x) is = tt
parts_fault view body (Err f) is = λ other.
    let read : value_of body ≡ Err f = fault_through (value_of body) counted_texts f (sym (body_kept body) ∙ failed f (kept_of body) is other) in
    stands (request_step 100) 0 no_request body f (sym (whole request_step no_request body) ∙ read)
