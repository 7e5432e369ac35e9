use Rattle.std.proofs.Common.{rules, ◌≡◌, ◌≢◌, Ok, Err, Result, sym, ap, ◌∙◌}
use Rattle.std.specs.Prelude.{MatchResult, IsErrAnd}
use Rattle.std.proofs.lemmas.Result.{err_from_is_err_and}
use Rattle.otlp_trace.specs.Data.{RequestData}
use Rattle.otlp_trace.specs.Text.{request_text}
use Rattle.otlp_trace.specs.View.{request_view}
use Rattle.otlp_read.specs.declared.fault.ReadFault.{ReadFault}
use Rattle.otlp_read.specs.Fault.{Gives}
use Rattle.otlp_read.proofs.Answered.{only_memory}
use Rattle.collector_bench.specs.declared.fault.BenchFault.{BenchFault}
use Rattle.collector_bench.specs.declared.fault.BenchFault.TheVariants as bench
use Rattle.collector_bench.specs.Faults.{body_fault}
use Rattle.collector_bench.specs.Round.{spans_of, in_64_bits}
use Rattle.collector_bench.proofs.round.checked_round.Goals as goal

-- what was read, where a fault is told otherwise
module _ {Q : Type 0} (view : Q → RequestData) (v : RequestData) where
  told_ok : (r : Result Q ReadFault) (told : Result Q BenchFault) (q : Q) → Gives view r (Ok v) → MatchResult r (λ x. told ≡ Ok x) (λ e. IsErrAnd told (λ f. f ≡ body_fault e)) → told ≡ Ok q → view q ≡ v
  told_ok (Ok x) told q gives is was =
      let one : ◌≡◌ {A = Result Q BenchFault} (Ok x) (Ok q) = sym is ∙ was in
      let same : x ≡ q = cc in
      let read : ◌≡◌ {A = Result RequestData ReadFault} (Ok v) (Ok (view x)) = gives in
      let value : v ≡ view x = cc in
      sym (value ∙ ap view same)
  told_ok (Err e) told q gives is was =
      let p = err_from_is_err_and told is in
      absurd (let never : ◌≡◌ {A = Result Q BenchFault} (Ok q) (Err p.0) = sym was ∙ p.1 in cc)

  told_err : (r : Result Q ReadFault) (told : Result Q BenchFault) (f : BenchFault) → Gives view r (Ok v) → MatchResult r (λ x. told ≡ Ok x) (λ e. IsErrAnd told (λ f. f ≡ body_fault e)) → told ≡ Err f → f ≡ bench.OutOfMemory
  told_err (Ok x) told f gives is was = absurd (let never : ◌≡◌ {A = Result Q BenchFault} (Ok x) (Err f) = sym is ∙ was in cc)
  told_err (Err e) told f gives is was =
      let p = err_from_is_err_and told is in
      let one : ◌≡◌ {A = Result Q BenchFault} (Err p.0) (Err f) = sym p.1 ∙ was in
      let same : p.0 ≡ f = cc in
      sym same ∙ p.2 ∙ ap body_fault (only_memory e v gives)

pub returns-in_err-request-clause-only : goal.returns-in_err-request-clause-only
returns-in_err-request-clause-only c = λ v is.
    let was : c.map_err.result ≡ Err c.in_err-request.field-0.0 = search rules in
    let memory : c.in_err-request.field-0.0 ≡ bench.OutOfMemory = told_err request_view v c.read_request.result c.map_err.result c.in_err-request.field-0.0 (c.read_request.ensures.only v is.value) c.map_err.ensures.cases was in
    search (rules, memory)

pub returns-then-ne-clause-only : goal.returns-then-ne-clause-only
returns-then-ne-clause-only c = λ v is.
    let was : c.map_err.result ≡ Ok c.in_ok-request.request = search rules in
    let same : request_view c.in_ok-request.request ≡ v = told_ok request_view v c.read_request.result c.map_err.result c.in_ok-request.request (c.read_request.ensures.only v is.value) c.map_err.ensures.cases was in
    let differs : request_text (request_view c.in_ok-request.request) ≢ c.args.body.now = search rules in
    absurd (differs (ap request_text same ∙ is.text))

pub returns-clause-only : goal.returns-clause-only
returns-clause-only c = λ v is.
    let was : c.map_err.result ≡ Ok c.in_ok-request.request = search rules in
    let same : request_view c.in_ok-request.request ≡ v = told_ok request_view v c.read_request.result c.map_err.result c.in_ok-request.request (c.read_request.ensures.only v is.value) c.map_err.ensures.cases was in
    c.spans_len.ensures ∙ ap (λ request. in_64_bits (spans_of request)) same
